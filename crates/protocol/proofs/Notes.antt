-- Noted versions, and the check that finds none of them stale.
use Rattle.protocol.proofs.Base.{◌≡◌, true, false, not, ◌&&◌, ◌||◌, List, [], ◌∷◌, ◌++◌, ◌⊎◌, inl, inr, ℕ, arith, eqb, All-push, or_cases, false≢true, tells, Option, Some, None, option_is_some, AllByRecursion}
use Rattle.protocol.specs.Rules.{Note, Stamp, stamp_at, owned_by, locked_out, is_noted, note, first_conflict}

-- a record that no other worker has locked is free, or the worker's own
pub free_or_own : (o : Option ℕ) (w : ℕ) → (option_is_some o && not (owned_by o w)) ≡ false → (o ≡ None) ⊎ (o ≡ Some w)
free_or_own o w h = grind (arith, tells)

module _ (ss : List Stamp) (w : ℕ) where
  -- every noted record has its version, and no other worker has it locked
  abbrev pub Current : Note → Type 0
  Current n = ((stamp_at ss n.key).version ≡ n.version) × (locked_out ss w n.key ≡ false)

  pub no_conflict : (ns : List Note) → first_conflict ss w ns ≡ None → AllByRecursion Current ns
  no_conflict [] h = tt
  no_conflict (n ∷ ns) h = grind (arith, tells, no_conflict ns)

-- what holds of all notes holds of that on a noted key
pub noted_has : (P : Note → Type 0) (ns : List Note) (key : ℕ) → AllByRecursion P ns → is_noted ns key ≡ true → (version : ℕ) × P (record { key = key; version = version })
noted_has P [] key a h = absurd (false≢true h)
noted_has P (n ∷ ns) key a h = elim (or_cases (eqb n.key key) (is_noted ns key) h) [ inl p ↦ (n.version, grind (arith, tells)) | inr p ↦ noted_has P ns key a.1 p ]

noted_append : (ns : List Note) (n : Note) (key : ℕ) → is_noted (ns ++ (n ∷ [])) key ≡ (is_noted ns key || eqb n.key key)
noted_append [] n key = grind arith
noted_append (m ∷ ns) n key = let h = noted_append ns n key in grind arith

module _ (ns : List Note) (key version : ℕ) where
  -- a note keeps what was noted, and notes its key
  pub note_keeps : (other : ℕ) → is_noted ns other ≡ true → is_noted (note ns key version) other ≡ true
  note_keeps other h = grind (arith, noted_append)

  pub note_notes : is_noted (note ns key version) key ≡ true
  note_notes = grind (arith, noted_append)

  pub note_all : (P : Note → Type 0) → AllByRecursion P ns → P (record { key = key; version = version }) → AllByRecursion P (note ns key version)
  note_all P a p = grind (arith, All-push)
