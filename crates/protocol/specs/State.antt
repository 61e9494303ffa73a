-- What the rules speak of: transactions, the workers' rows, and the engine.
use Rattle.std.specs.Prelude.{ℕ, Bool, false, cond, List, [], take, ℤ, is_some, Some, None, Option, slice_index_or, slice_set}
use Rattle.slips.specs.declared.entry.Entry.{Entry}
use Rattle.protocol.specs.declared.data.Note.{Note}
use Rattle.protocol.specs.declared.data.Outcome.{Outcome}
use Rattle.protocol.specs.declared.data.Outcome.TheVariants.{Committed, Conflict, TurnedAway}
use Rattle.protocol.specs.declared.data.Phase.{Phase}
use Rattle.protocol.specs.declared.data.SplitItem.{SplitItem}
use Rattle.protocol.specs.declared.data.Stage.{Stage}
use Rattle.protocol.specs.declared.data.Stage.TheVariants.{Running, Locking, Checking, Writing, Sharding, Ended}
use Rattle.protocol.specs.declared.data.Stamp.{Stamp}
use Rattle.protocol.specs.declared.data.Told.{Told}

-- a transaction: its ticket and entries, how many of them have run, the `need` that skipped the rest,
-- the versions in the order of first readings, the answers so far, and what it does next
pub record Transaction : Type 0 where
  pub ticket : ℕ
  pub entries : List Entry
  pub done : ℕ
  pub skipped : Option ℕ
  pub noted : List Note
  pub answers : List ℤ
  pub stage : Stage

-- what there is of a worker: the transaction in its hand, those that wait, whether it has acknowledged,
-- and how many of its shards it has merged
pub record Row : Type 0 where
  pub current : Option Transaction
  pub stash : List Transaction
  pub acknowledged : Bool
  pub merged : ℕ

-- the engine's figures, which no call changes
pub record Shape : Type 0 where
  pub workers : ℕ
  pub keys : ℕ
  pub first : ℕ

-- the engine: the last ticket and the last place that were given, the phase with the list of split records,
-- a stamp for each record and a row for each worker
pub record State : Type 0 where
  pub ticket : ℕ
  pub place : ℕ
  pub phase : Phase
  pub split : List SplitItem
  pub stamps : List Stamp
  pub rows : List Row

-- ---- looking up

abbrev pub idle : Row
idle = record { current = None; stash = []; acknowledged = false; merged = 0 }

abbrev pub row_at : List Row → ℕ → Row
row_at rows w = slice_index_or rows w idle

abbrev pub stamp_at : List Stamp → ℕ → Stamp
stamp_at stamps key = slice_index_or stamps key (record { version = 0; owner = None })

-- the entries that have run
abbrev pub ran : Transaction → List Entry
ran t = take t.done t.entries

abbrev pub end_of : Stage → Option Outcome
end_of Running = None
end_of (Locking key) = None
end_of Checking = None
end_of (Writing place key) = None
end_of (Sharding place i) = None
end_of (Ended o) = Some o

abbrev pub told_of : Stage → Told
told_of g = cond (is_some (end_of g)) Told.Ended Told.Runs

-- the place of a transaction that has one
abbrev pub place_in : Outcome → Option ℕ
place_in (Committed place) = Some place
place_in (Conflict key) = None
place_in TurnedAway = None

abbrev pub place_of : Stage → Option ℕ
place_of Running = None
place_of (Locking key) = None
place_of Checking = None
place_of (Writing place key) = Some place
place_of (Sharding place i) = Some place
place_of (Ended o) = place_in o

-- ---- changing one part

-- a transaction as it begins
abbrev pub begin : ℕ → List Entry → Transaction
begin ticket entries = record { ticket = ticket; entries = entries; done = 0; skipped = None; noted = []; answers = []; stage = Running }

abbrev pub at_stage : Transaction → Stage → Transaction
at_stage t g = record { ticket = t.ticket; entries = t.entries; done = t.done; skipped = t.skipped; noted = t.noted; answers = t.answers; stage = g }

abbrev pub with_current : Row → Option Transaction → Row
with_current r h = record { current = h; stash = r.stash; acknowledged = r.acknowledged; merged = r.merged }

abbrev pub with_row : State → ℕ → Row → State
with_row s w r = record { ticket = s.ticket; place = s.place; phase = s.phase; split = s.split; stamps = s.stamps; rows = slice_set s.rows w r }
