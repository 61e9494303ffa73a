-- What a run alone means, entry by entry: which entries ran, what they answered, and which `need` stopped them.
use Rattle.std.specs.Prelude.{◌≡◌, ℕ, zero, suc, ◌+◌, ◌<◌, Bool, true, false, List, [], ◌∷◌, ◌++◌, length, take, ℤ, Some, None, Option, int_lt}
use Rattle.kinds.specs.Model.{Model}
use Rattle.slips.specs.declared.entry.Action.{Action}
use Rattle.slips.specs.declared.entry.Action.TheVariants.{Show, Need, Change}
use Rattle.slips.specs.declared.entry.Entry.{Entry}
use Rattle.serial.specs.Serial.{Ran, reads, after, serial}

-- how many of the entries are `show` entries
abbrev pub shows_in : Action → ℕ
shows_in (Show n) = 1
shows_in (Need n b) = 0
shows_in (Change v n m) = 0

abbrev pub shows : List Entry → ℕ
shows [] = 0
shows (e ∷ es) = shows_in e.action + shows es

-- the entries that ran: those before the `need` that skipped the rest, or all
abbrev pub ran : Option ℕ → List Entry → List Entry
ran None es = es
ran (Some i) es = take i es

module _ {M : Type 0} (k : Model M) where
  -- the numbers that an entry shows
  abbrev pub tells : Entry → Action → List M → List ℤ
  tells e (Show n) vs = reads k e n vs ∷ []
  tells e (Need n b) vs = []
  tells e (Change v n m) vs = []

  -- an entry is a `need` whose number is below its bound
  abbrev pub falls_short : Entry → Action → List M → Bool
  falls_short e (Show n) vs = false
  falls_short e (Need n b) vs = int_lt (reads k e n vs) b
  falls_short e (Change v n m) vs = false

  module _ (w : ℕ) where
    -- the operations of the entries, one after another, in their order
    abbrev pub applied : List Entry → List M → List M
    applied [] vs = vs
    applied (e ∷ es) vs = applied es (after k w e e.action vs)

    -- what the `show` entries read, each at its turn
    abbrev pub answered : List Entry → List M → List ℤ
    answered [] vs = []
    answered (e ∷ es) vs = tells e e.action vs ++ answered es (after k w e e.action vs)

    -- entry i falls short at its turn: at the values that the entries before it leave
    abbrev pub short_at : ℕ → List Entry → List M → Bool
    short_at i [] vs = false
    short_at zero (e ∷ es) vs = falls_short e e.action vs
    short_at (suc i) (e ∷ es) vs = short_at i es (after k w e e.action vs)

    pub record Alone (es : List Entry) (vs : List M) (r : Ran M) : Type 0 where
      -- exactly the operations of the entries that ran were applied
      pub values : r.values ≡ applied (ran r.skipped es) vs
      -- the answers are what the `show` entries that ran read at their turns
      pub answers : r.answers ≡ answered (ran r.skipped es) vs
      -- and there are as many as such entries
      pub many : length r.answers ≡ shows (ran r.skipped es)
      -- no entry that ran fell short at its turn
      pub passed : (i : ℕ) → i < length (ran r.skipped es) → short_at i es vs ≡ false
      -- and the one that skipped the rest did
      pub stopped : (i : ℕ) → r.skipped ≡ Some i → short_at i es vs ≡ true

-- every run alone, by every worker, of every transaction, on all values
abbrev pub RunsAlone : {M : Type 0} → Model M → Type 0
RunsAlone {M} k = (w : ℕ) (es : List Entry) (vs : List M) → Alone k w es vs (serial k w 0 es vs)
