-- The first entry that a test finds, and entries in which the tests of a taking find nothing.
use Rattle.protocol.proofs.Base.{cases_Bool, inl, inr, ◌≡◌, refl, Bool, true, false, List, [], ◌∷◌, ℕ, suc, ◌+◌, ◌<◌, arith, take, none-some, All-weaker, not-false, Some, None, AllByRecursion, nth}
use Rattle.protocol.specs.Rules.{Model, Entry, first_entry, takes, late}
use Rattle.protocol.proofs.Places.{all_both}

module _ (test : Entry → Bool) where
  -- it is the entry of that number, counted from i, and none before it is found
  pub record Found (i : ℕ) (es : List Entry) (j : ℕ) : Type 0 where
    pub number : ℕ
    pub entry : Entry
    pub counted : j ≡ i + number
    pub there : nth es number ≡ Some entry
    pub passes : test entry ≡ true
    pub before : AllByRecursion (λ e. test e ≡ false) (take number es)

  pub found : (i : ℕ) (es : List Entry) (j : ℕ) → first_entry test i es ≡ Some j → Found i es j
  found i [] j h = absurd (none-some j h)
  found i (e ∷ es) j h = elim (cases_Bool (test e)) [
    | inl t ↦ record { number = 0; entry = e; counted = grind arith; there = refl; passes = t; before = tt }
    | inr t ↦
        let r = found (suc i) es j (grind arith) in
        record { number = suc r.number; entry = r.entry; counted = omega (arith, r.counted); there = r.there; passes = r.passes; before = (t, r.before) }
  ]

  pub not_found : (i : ℕ) (es : List Entry) → first_entry test i es ≡ None → AllByRecursion (λ e. test e ≡ false) es
  not_found i [] h = tt
  not_found i (e ∷ es) h = grind (arith, not_found (suc i) es)

-- entries that passed the tests of a taking have records, and the kind takes them
pub admitted : {M : Type 0} (k : Model M) (keys w : ℕ) (es : List Entry) → late k keys w es ≡ None → AllByRecursion (λ e. (e.key < keys) × (takes k w e e.action ≡ true)) es
admitted k keys w es h = grind (arith, All-weaker, not-false, all_both, not_found)
