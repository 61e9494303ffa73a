-- Every run alone is what its entries say.
use Rattle.std.proofs.Common.{◌≡◌, ℕ, zero, suc, ◌+◌, ◌<◌, Bool, true, false, cond, List, [], ◌∷◌, ◌++◌, length, ℤ, Some, None, Option, sym, refl, ap, ◌∙◌, subst, arith, length-append}
use lib.Signed.{lt_z}
use Rattle.std.proofs.lemmas.Bool.{true≢false}
use Rattle.std.specs.Option.{option_map}
use Rattle.kinds.specs.Model.{Model}
use Rattle.slips.specs.declared.entry.Action.{Action}
use Rattle.slips.specs.declared.entry.Action.TheVariants.{Show, Need, Change}
use Rattle.slips.specs.declared.entry.Entry.{Entry}
use Rattle.serial.specs.Alone.{shows, shows_in, ran, tells, falls_short, applied, answered, short_at, Alone, RunsAlone}
use Rattle.serial.specs.Serial.{Ran, reads, after, before, serial}
use Rattle.serial.proofs.Steps.{follow, before_goes, before_stops}

-- a run of entries that are numbered from one more on
abbrev later : {M : Type 0} → Ran M → Ran M
later r = record { values = r.values; answers = r.answers; skipped = option_map suc r.skipped }

ran_later : (e : Entry) (es : List Entry) (o : Option ℕ) → ran (option_map suc o) (e ∷ es) ≡ e ∷ ran o es
ran_later e es None = refl
ran_later e es (Some j) = refl

module _ {M : Type 0} (k : Model M) (w : ℕ) where
  cond_later : (b : Bool) (x y : Ran M) → cond b (later x) (later y) ≡ later (cond b x y)
  cond_later true x y = refl
  cond_later false x y = refl

  before_later : (i : ℕ) (e : Entry) (a : Action) (vs : List M) (rest : Ran M) → before k (suc i) e a vs (later rest) ≡ later (before k i e a vs rest)
  before_later i e (Show n) vs rest = refl
  before_later i e (Need n b) vs rest = cond_later (lt_z (reads k e n vs) b) (record { values = vs; answers = []; skipped = Some i }) rest
  before_later i e (Change v n m) vs rest = refl

  serial_later : (i : ℕ) (es : List Entry) (vs : List M) → serial k w (suc i) es vs ≡ later (serial k w i es vs)
  serial_later i [] vs = refl
  serial_later i (e ∷ es) vs =
      ap (before k (suc i) e e.action vs) (serial_later (suc i) es (after k w e e.action vs))
      ∙ before_later i e e.action vs (serial k w (suc i) es (after k w e e.action vs))

  tells_shows : (e : Entry) (a : Action) (vs : List M) → length (tells k e a vs) ≡ shows_in a
  tells_shows e (Show n) vs = refl
  tells_shows e (Need n b) vs = refl
  tells_shows e (Change v n m) vs = refl

  -- an entry that falls short does nothing else
  pub short_idle : (e : Entry) (a : Action) (vs : List M) → falls_short k e a vs ≡ true → (after k w e a vs ≡ vs) × (tells k e a vs ≡ [])
  short_idle e (Show n) vs h = absurd (true≢false (sym h))
  short_idle e (Need n b) vs h = (refl, refl)
  short_idle e (Change v n m) vs h = absurd (true≢false (sym h))

  module _ (e : Entry) (es : List Entry) (vs : List M) where
    abbrev vs' : List M
    vs' = after k w e e.action vs

    stopped_later : (o : Option ℕ) (i : ℕ) → ((j : ℕ) → o ≡ Some j → short_at k w j es vs' ≡ true) → option_map suc o ≡ Some i → short_at k w i (e ∷ es) vs ≡ true
    stopped_later None i all h = let z : ◌≡◌ {A = ℕ} 0 1 = cc in absurd (omega arith)
    stopped_later (Some j) i all h =
        let p : suc j ≡ i = cc in
        subst (λ (n : ℕ). short_at k w n (e ∷ es) vs ≡ true) p (all j refl)

    passed_later : (o : Option ℕ) (i : ℕ) → falls_short k e e.action vs ≡ false → ((j : ℕ) → j < length (ran o es) → short_at k w j es vs' ≡ false)
        → i < length (ran (option_map suc o) (e ∷ es)) → short_at k w i (e ∷ es) vs ≡ false
    passed_later o zero here all h = here
    passed_later o (suc i) here all h = all i (omega (arith, ap length (ran_later e es o)))

    goes_on : (r : Ran M) → falls_short k e e.action vs ≡ false → Alone k w es vs' r → Alone k w (e ∷ es) vs (follow (tells k e e.action vs) (later r))
    goes_on r h a = record {
      values = a.values ∙ ap (λ (x : List Entry). applied k w x vs) (sym (ran_later e es r.skipped));
      answers =
          ap (λ (x : List ℤ). tells k e e.action vs ++ x) a.answers ∙ ap (λ (x : List Entry). answered k w x vs) (sym (ran_later e es r.skipped));
      many =
          length-append (tells k e e.action vs) r.answers ∙ ap (λ (n : ℕ). n + length r.answers) (tells_shows e e.action vs)
          ∙ ap (λ (n : ℕ). shows_in e.action + n) a.many
          ∙ ap shows (sym (ran_later e es r.skipped));
      passed = λ i. passed_later r.skipped i h a.passed;
      stopped = λ i. stopped_later r.skipped i a.stopped;
    }

    stops_here : falls_short k e e.action vs ≡ true → Alone k w (e ∷ es) vs (record { values = vs; answers = []; skipped = Some 0 })
    stops_here h = record {
      values = refl;
      answers = refl;
      many = refl;
      passed = λ i l. absurd (omega arith);
      stopped = λ i s. let p : ◌≡◌ {A = ℕ} 0 i = cc in subst (λ (n : ℕ). short_at k w n (e ∷ es) vs ≡ true) p h;
    }

    first : (b : Bool) → falls_short k e e.action vs ≡ b → Alone k w es vs' (serial k w 0 es vs') → Alone k w (e ∷ es) vs (serial k w 0 (e ∷ es) vs)
    first true h a =
        let idle = short_idle e e.action vs h in
        subst (λ (r : Ran M). Alone k w (e ∷ es) vs r)
        (sym (before_stops k w 0 e vs [] (serial k w 1 es vs') e.action h ∙ (λ j. record { values = idle.0 j; answers = idle.1 j; skipped = Some 0 })))
        (stops_here h)
    first false h a =
        subst (λ (r : Ran M). Alone k w (e ∷ es) vs r)
        (sym (before_goes k w 0 e vs [] (serial k w 1 es vs') e.action h ∙ ap (follow (tells k e e.action vs)) (serial_later 0 es vs')))
        (goes_on (serial k w 0 es vs') h a)

pub runs_alone : {M : Type 0} (k : Model M) → RunsAlone k
runs_alone k w [] vs = record {
  values = refl;
  answers = refl;
  many = refl;
  passed = λ i l. absurd (omega arith);
  stopped = λ i s. let z : ◌≡◌ {A = ℕ} 0 1 = cc in absurd (omega arith);
}
runs_alone k w (e ∷ es) vs = first k w e es vs (falls_short k e e.action vs) refl (runs_alone k w es (after k w e e.action vs))
