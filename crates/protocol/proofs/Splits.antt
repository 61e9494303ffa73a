-- The list of split records: what is found in it, and what its test says.
use Rattle.protocol.proofs.Base.{tells, cases_eq, inl, inr, ◌≡◌, refl, true, List, [], ◌∷◌, ℕ, zero, suc, ◌+◌, ◌≤◌, ◌<◌, arith, none-some, false≢true, Some, None, option_is_some, nth}
use Rattle.protocol.specs.Rules.{Model, SplitItem, find_split, is_split, good_from}

-- a key that is split is found
pub split_found : (ls : List SplitItem) (key : ℕ) → is_split ls key ≡ true → (j : ℕ) × (l : SplitItem) × (find_split 0 ls key ≡ Some (j, l))
split_found ls key h = elim (find_split 0 ls key) as (λ o. option_is_some o ≡ true → (j : ℕ) × (l : SplitItem) × (o ≡ Some (j, l))) [ None ↦ λ q. absurd (false≢true q) | Some r ↦ λ q. (r.0, r.1, refl) ] h

-- what is found stands at its place under the key
found_from : (ls : List SplitItem) (i key j : ℕ) (l : SplitItem) → find_split i ls key ≡ Some (j, l) → (n : ℕ) × (j ≡ i + n) × (nth ls n ≡ Some l) × (l.key ≡ key)
found_from [] i key j l h = absurd (none-some (j, l) h)
found_from (x ∷ ls) i key j l h = elim (cases_eq x.key key) [
  | inl e ↦ (0, grind (arith, tells), grind (arith, tells), grind (arith, tells))
  | inr d ↦ let r = found_from ls (suc i) key j l (grind (arith, tells)) in let q = r.1 in (suc r.0, omega arith, r.2, r.3)
]

pub found_at : (ls : List SplitItem) (key j : ℕ) (l : SplitItem) → find_split 0 ls key ≡ Some (j, l) → (nth ls j ≡ Some l) × (l.key ≡ key)
found_at ls key j l h = grind (arith, found_from)

module _ {M : Type 0} (k : Model M) (keys : ℕ) where
  -- what the test says of an item
  pub record Good (from : ℕ) (l : SplitItem) : Type 0 where
    pub low : from ≤ l.key
    pub inside : l.key < keys
    pub splits : (k.rule l.part l.verb).splits ≡ true

  pub good_item : (from : ℕ) (ls : List SplitItem) (j : ℕ) (l : SplitItem) → good_from k keys from ls ≡ true → nth ls j ≡ Some l → Good from l
  good_item from [] j l h p = absurd (none-some l p)
  good_item from (x ∷ ls) zero l h p = grind arith
  good_item from (x ∷ ls) (suc j) l h p = grind (arith, good_item (suc x.key) ls j l)

  good_found_from : (from i : ℕ) (ls : List SplitItem) (j : ℕ) (l : SplitItem) → good_from k keys from ls ≡ true → nth ls j ≡ Some l → find_split i ls l.key ≡ Some (i + j, l)
  good_found_from from i [] j l h p = absurd (none-some l p)
  good_found_from from i (x ∷ ls) zero l h p = let e : i ≡ i + 0 = omega arith in grind (arith, tells)
  good_found_from from i (x ∷ ls) (suc j) l h p =
      let e : suc i + j ≡ i + suc j = omega arith in
      grind (arith, tells, good_item (suc x.key) ls j l, good_found_from (suc x.key) (suc i) ls j l)

  -- each item is found under its key
  pub good_found : (ls : List SplitItem) (j : ℕ) (l : SplitItem) → good_from k keys 0 ls ≡ true → nth ls j ≡ Some l → find_split 0 ls l.key ≡ Some (j, l)
  good_found ls j l h p = grind (arith, good_found_from)
