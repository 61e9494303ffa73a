-- What the tests of a call have told where it is not refused.
use Rattle.protocol.proofs.Base.{◌≡◌, true, false, List, ◌⊎◌, ℕ, ◌-◌, ◌^◌, ◌<◌, arith, length, Option, None, Ok, option_is_some}
use Rattle.protocol.specs.Rules.{Model, Entry, Joined, Closing, Split, Merging, first_of, late, Shape, State, row_at, Call, Take, Draw, Step, Acknowledge, Merge, Collect, AnnounceSplit, AnnounceMerging, Release, all_acknowledged, left_over, runs, has_ended, good_split, tests}

pub none_is : {A : Type 0} (o : Option A) → option_is_some o ≡ false → o ≡ None
none_is o h = grind arith

module _ {M : Type 0} (k : Model M) (sh : Shape) (s : State) (table : List M) where
  abbrev pub Empty : ℕ → Type 0
  Empty w = (row_at s.rows w).current ≡ None

  abbrev pub Allowed : Call → Type 0
  Allowed (Take w text q) = (w < sh.workers) × ((s.phase ≡ Joined) ⊎ (s.phase ≡ Split)) × Empty w × (s.ticket ≡ 2 ^ 64 - 1 → ⊥) × ((es : List Entry) × (q ≡ Ok es) × (late k sh.keys w es ≡ None))
  Allowed (Draw w) = (w < sh.workers) × ((s.phase ≡ Joined) ⊎ (s.phase ≡ Closing)) × Empty w
  Allowed (Step w) = (w < sh.workers) × (runs (row_at s.rows w).current ≡ true)
  Allowed (Acknowledge w) = (w < sh.workers) × ((s.phase ≡ Closing) ⊎ (s.phase ≡ Merging)) × Empty w × (left_over s.phase (length s.split) (row_at s.rows w) ≡ false)
  Allowed (Merge w) = (w < sh.workers) × (s.phase ≡ Merging) × Empty w × ((row_at s.rows w).merged < length s.split)
  Allowed (Collect w ticket buffer) = (w < sh.workers) × (has_ended ticket (row_at s.rows w).current ≡ true)
  Allowed (AnnounceSplit ls) = (s.phase ≡ Joined) × (good_split k sh.keys ls ≡ true)
  Allowed AnnounceMerging = s.phase ≡ Split
  Allowed (Release p) = (s.phase ≡ p) × ((p ≡ Closing) ⊎ (p ≡ Merging)) × (all_acknowledged s.rows ≡ true)

  pub allowed : (c : Call) → first_of (tests k sh s table c) ≡ None → Allowed c
  allowed c h = grind arith
