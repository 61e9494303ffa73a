-- Runs of turns by anyone, in any order, and the serial run of the transactions that got a place.
use Rattle.std.specs.Prelude.{◌≡◌, ℕ, List, [], ◌∷◌, ◌++◌, ℤ, Some, None, Option}
use Rattle.kinds.specs.Model.{Model}
use Rattle.slips.specs.Reads.{ReadAs}
use Rattle.serial.specs.Serial.{Ran, serial}
use Rattle.protocol.specs.State.{Shape, State}
use Rattle.protocol.specs.Turns.{Call, Take, Draw, Step, Acknowledge, Merge, Collect, AnnounceSplit, AnnounceMerging, Release, Refused, Taking, Placing, Event, Taken, Placed, opened, turn}

-- ---- what happened

abbrev pub taking_in : Event → Option Taking
taking_in (Taken t) = Some t
taking_in (Placed p) = None

abbrev pub placing_in : Event → Option Placing
placing_in (Taken t) = None
placing_in (Placed p) = Some p

-- what f finds in the events, in their order
abbrev pub or_skip : {A : Type 0} → Option A → List A → List A
or_skip None xs = xs
or_skip (Some x) xs = x ∷ xs

abbrev pub those : {A : Type 0} → (Event → Option A) → List Event → List A
those f [] = []
those f (e ∷ es) = or_skip (f e) (those f es)

abbrev pub takings : List Event → List Taking
takings es = those taking_in es

abbrev pub placings : List Event → List Placing
placings es = those placing_in es

-- what a transaction gave its owner
pub record Readings : Type 0 where
  pub answers : List ℤ
  pub skipped : Option ℕ

-- ---- runs

-- the engine, its table, and all that has happened
pub record World (M : Type 0) : Type 0 where
  pub state : State
  pub table : List M
  pub events : List Event

-- a taking carries what its text is read as
abbrev pub Lawful : Call → Type 0
Lawful (Take w text q) = ReadAs text q
Lawful (Draw w) = Unit {0}
Lawful (Step w) = Unit {0}
Lawful (Acknowledge w) = Unit {0}
Lawful (Merge w) = Unit {0}
Lawful (Collect w ticket buffer) = Unit {0}
Lawful (AnnounceSplit ls) = Unit {0}
Lawful AnnounceMerging = Unit {0}
Lawful (Release p) = Unit {0}

module _ {M : Type 0} (k : Model M) where
  -- turns one after another, from the opening over the table `start`: each finds the table as the last one left it,
  -- but one that is refused may be lent any other
  pub data Runs (sh : Shape) (start : List M) : World M → Type 0 where
    opens : Runs sh start (record { state = opened sh; table = start; events = [] })
    makes : {x : World M} (c : Call) → Runs sh start x → Lawful c
        → Runs sh start (record {
          state = (turn k sh x.state x.table c).state;
          table = (turn k sh x.state x.table c).table;
          events = x.events ++ (turn k sh x.state x.table c).events;
        })
    refuses : {x : World M} (c : Call) (lent : List M) (code : List ℕ) → Runs sh start x → Lawful c → (turn k sh x.state lent c).answer ≡ Refused code
        → Runs sh start (record {
          state = (turn k sh x.state lent c).state;
          table = x.table;
          events = x.events ++ (turn k sh x.state lent c).events;
        })

  -- ---- the serial run

  -- a placed transaction alone
  abbrev pub alone : Placing → List M → Ran M
  alone p vs = serial k p.worker 0 p.entries vs

  -- the values after transactions alone, one after another
  abbrev pub values_by : List Placing → List M → List M
  values_by [] vs = vs
  values_by (p ∷ ps) vs = values_by ps (alone p vs).values

  -- and what each of them reads
  abbrev pub readings_by : List Placing → List M → List Readings
  readings_by [] vs = []
  readings_by (p ∷ ps) vs = record { answers = (alone p vs).answers; skipped = (alone p vs).skipped } ∷ readings_by ps (alone p vs).values
