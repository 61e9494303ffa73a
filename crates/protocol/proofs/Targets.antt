-- Which key is locked or written next, and which operation goes to a shard next.
use Rattle.protocol.proofs.Base.{◌≡◌, true, false, List, [], ◌∷◌, ℕ, ◌≤◌, arith, false≢true, Option, Some, None, AllByRecursion}
use Rattle.protocol.specs.Rules.{Entry, SplitItem, is_split, next_target, writes}

module _ (ls : List SplitItem) where
  -- a key that is written is not split, and is the key of an entry
  pub writes_unsplit : (es : List Entry) (key : ℕ) → writes ls es key ≡ true → is_split ls key ≡ false
  writes_unsplit [] key h = absurd (false≢true h)
  writes_unsplit (e ∷ es) key h = grind (arith, writes_unsplit es key)

  pub writes_key : (P : ℕ → Type 0) (es : List Entry) (key : ℕ) → AllByRecursion (λ e. P e.key) es → writes ls es key ≡ true → P key
  writes_key P [] key a h = absurd (false≢true h)
  writes_key P (e ∷ es) key a h = grind (arith, writes_key P es key)

  -- what is said of the next key: there is none, or it is the least that the entries write
  abbrev pub Next : List Entry → ℕ → Option ℕ → Type 0
  Next es from None = (key : ℕ) → writes ls es key ≡ true → from ≤ key → ⊥
  Next es from (Some c) = (writes ls es c ≡ true) × (from ≤ c) × ((key : ℕ) → writes ls es key ≡ true → from ≤ key → c ≤ key)

  pub next_key : (from : ℕ) (es : List Entry) → Next es from (next_target ls from es)
  next_key from [] = λ key w. absurd (false≢true w)
  next_key from (e ∷ es) = grind (arith, next_key from es)
