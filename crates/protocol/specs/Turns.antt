-- The calls of the engine: how each is refused, and what it does otherwise.
use Rattle.std.specs.Prelude.{ℕ, zero, suc, ◌+◌, ◌-◌, ◌*◌, ◌^◌, Bool, true, false, cond, not, ◌&&◌, ◌||◌, List, [], ◌∷◌, ◌++◌, map, length, drop, replicate, ℤ, is_some, Some, None, Ok, Err, Option, Result, ◌==◌, nat_le, nat_lt, slice_set}
use Rattle.std.specs.List.{slice_get}
use Rattle.kinds.specs.Model.{Model}
use Rattle.slips.specs.declared.entry.Entry.{Entry}
use Rattle.serial.specs.Places.{modify}
use Rattle.protocol.specs.declared.data.Outcome.{Outcome}
use Rattle.protocol.specs.declared.data.Phase.{Phase}
use Rattle.protocol.specs.declared.data.Phase.TheVariants.{Joined, Closing, Split, Merging}
use Rattle.protocol.specs.declared.data.SplitItem.{SplitItem}
use Rattle.protocol.specs.declared.data.Stage.{Stage}
use Rattle.protocol.specs.declared.data.Stage.TheVariants.{Running, Locking, Checking, Writing, Sharding, Ended}
use Rattle.protocol.specs.declared.data.Stamp.{Stamp}
use Rattle.protocol.specs.Codes.{told_code, outcome_code}
use Rattle.protocol.specs.Refusing.{when, first_of, good_figures, late}
use Rattle.protocol.specs.State.{Transaction, Row, Shape, State, idle, row_at, end_of, place_of, begin, with_current, with_row}
use Rattle.protocol.specs.Entries.{split_in}
use Rattle.protocol.specs.Steps.{first_conflict, shard_at, Stepped, step_row}

-- ---- what is asked, what is answered, and what happened

-- a call, with what its caller hands in; a taking carries what its text was read as
pub data Call : Type 0 where
  -- the worker, and the text of a transaction
  Take : ℕ → List ℕ → Result (List Entry) (List ℕ) → Call
  -- the worker
  Draw Step Acknowledge Merge : ℕ → Call
  -- the worker and the ticket of the receipt, and a buffer
  Collect : ℕ → ℕ → List ℤ → Call
  AnnounceSplit : List SplitItem → Call
  AnnounceMerging : Call
  -- the phase of the token
  Release : Phase → Call

-- an answer: the code of a refusal; or what the call tells, by the definition of its enum, and the answers that it hands over
pub data Answer : Type 0 where
  Refused : List ℕ → Answer
  Gave : List ℕ → List ℤ → Answer

-- who took which ticket, with which text, and what that was read as
pub record Taking : Type 0 where
  pub ticket : ℕ
  pub worker : ℕ
  pub text : List ℕ
  pub entries : List Entry

-- which transaction got which place, and what it had read
pub record Placing : Type 0 where
  pub ticket : ℕ
  pub place : ℕ
  pub worker : ℕ
  pub entries : List Entry
  pub answers : List ℤ
  pub skipped : Option ℕ

pub data Event : Type 0 where
  Taken : Taking → Event
  Placed : Placing → Event

-- what a call makes
pub record Made (M : Type 0) : Type 0 where
  pub answer : Answer
  pub state : State
  pub table : List M
  pub events : List Event

-- what collecting leaves in a buffer: the answers in front, if it is not refused
abbrev pub left_in : List ℤ → Answer → List ℤ
left_in buffer (Refused c) = buffer
left_in buffer (Gave c zs) = zs ++ drop (length zs) buffer

-- ---- phases

abbrev pub turn_of : Phase → ℕ
turn_of Joined = 0
turn_of Closing = 1
turn_of Split = 2
turn_of Merging = 3

abbrev pub same_phase : Phase → Phase → Bool
same_phase p q = turn_of p == turn_of q

abbrev pub next_phase : Phase → Phase
next_phase Joined = Closing
next_phase Closing = Split
next_phase Split = Merging
next_phase Merging = Joined

abbrev pub all_acknowledged : List Row → Bool
all_acknowledged [] = true
all_acknowledged (r ∷ rs) = r.acknowledged && all_acknowledged rs

-- before it acknowledges, a worker has emptied its stash in closing, and merged all its shards in merging
abbrev pub left_over : Phase → ℕ → Row → Bool
left_over Joined items r = false
left_over Closing items r = nat_lt 0 (length r.stash)
left_over Split items r = false
left_over Merging items r = nat_lt r.merged items

-- ---- rows

-- the oldest that waits begins afresh, with the same ticket
abbrev pub drawn : Row → List Transaction → Row
drawn r [] = r
drawn r (t ∷ ts) = record { current = Some (begin t.ticket t.entries); stash = ts; acknowledged = r.acknowledged; merged = r.merged }

abbrev pub acknowledging : Bool → Row → Row
acknowledging b r = record { current = r.current; stash = r.stash; acknowledged = b; merged = r.merged }

abbrev pub merging : ℕ → Row → Row
merging n r = record { current = r.current; stash = r.stash; acknowledged = r.acknowledged; merged = n }

-- ---- the hand

abbrev pub outcome_of : Option Transaction → Option Outcome
outcome_of None = None
outcome_of (Some t) = end_of t.stage

-- it holds a transaction that has not ended
abbrev pub runs : Option Transaction → Bool
runs h = is_some h && not (is_some (outcome_of h))

-- it holds one with this ticket that has ended
abbrev pub has_ended : ℕ → Option Transaction → Bool
has_ended ticket None = false
has_ended ticket (Some t) = t.ticket == ticket && is_some (end_of t.stage)

-- the answers of a transaction that has its place
abbrev pub answers_of : Option Transaction → List ℤ
answers_of None = []
answers_of (Some t) = cond (is_some (place_of t.stage)) t.answers []

abbrev pub outcome_told : Option Outcome → List ℕ
outcome_told None = []
outcome_told (Some o) = outcome_code o

-- ---- places

-- the check that finds no conflict gives the next place
abbrev pub placing : ℕ → ℕ → Transaction → Option ℕ → List Event
placing w place t None = Placed (record { ticket = t.ticket; place = suc place; worker = w; entries = t.entries; answers = t.answers; skipped = t.skipped }) ∷ []
placing w place t (Some key) = []

abbrev pub placings_at : ℕ → List Stamp → ℕ → Transaction → Stage → List Event
placings_at w ss place t Running = []
placings_at w ss place t (Locking key) = []
placings_at w ss place t Checking = placing w place t (first_conflict ss w t.noted)
placings_at w ss place t (Writing p key) = []
placings_at w ss place t (Sharding p i) = []
placings_at w ss place t (Ended o) = []

-- the places that a step of this hand gives
abbrev pub placings : ℕ → List Stamp → ℕ → Option Transaction → List Event
placings w ss place None = []
placings w ss place (Some t) = placings_at w ss place t t.stage

-- the question whether no record is locked
abbrev pub quiet : List Stamp → Bool
quiet [] = true
quiet (st ∷ ss) = not (is_some st.owner) && quiet ss

-- ---- splitting and merging

-- the version that merging leaves: the last place that was given
abbrev pub revised : ℕ → Stamp → Stamp
revised place st = record { version = place; owner = st.owner }

abbrev pub key_of : Option SplitItem → List ℕ
key_of None = []
key_of (Some l) = l.key ∷ []

abbrev pub revise : ℕ → Option SplitItem → List Stamp → List Stamp
revise place None ss = ss
revise place (Some l) ss = modify l.key (revised place) ss

module _ {M : Type 0} (k : Model M) (keys : ℕ) where
  -- the items' keys rise from `from` on and are those of records, and their parts and verbs split
  abbrev pub good_from : ℕ → List SplitItem → Bool
  good_from from [] = true
  good_from from (l ∷ ls) = (nat_le from l.key && (nat_lt l.key keys && (k.rule l.part l.verb).splits)) && good_from (suc l.key) ls

  abbrev pub good_split : List SplitItem → Bool
  good_split ls = (nat_lt 0 (length ls) && nat_le (length ls) 16) && good_from 0 ls

  -- a worker's shards from number i on are made fresh for the items
  abbrev pub fresh_row : ℕ → ℕ → List SplitItem → List M → List M
  fresh_row w i [] table = table
  fresh_row w i (l ∷ ls) table = fresh_row w (suc i) ls (modify (shard_at keys w i) (k.rule l.part l.verb).fresh table)

  -- and those of every worker
  abbrev pub fresh_all : ℕ → List SplitItem → List M → List M
  fresh_all zero ls table = table
  fresh_all (suc w) ls table = fresh_row w 0 ls (fresh_all w ls table)

  -- a worker's shard i is merged into its record and becomes fresh
  abbrev pub merge_shard : ℕ → ℕ → SplitItem → Option M → List M → List M
  merge_shard w i l None table = table
  merge_shard w i l (Some x) table = modify (shard_at keys w i) (k.rule l.part l.verb).fresh (modify l.key ((k.rule l.part l.verb).merge x) table)

  abbrev pub merge_item : ℕ → ℕ → Option SplitItem → List M → List M
  merge_item w i None table = table
  merge_item w i (Some l) table = merge_shard w i l (slice_get table (shard_at keys w i)) table

-- ---- opening

-- an engine as it opens: nothing is locked, nothing was given, and every version is that of no place
abbrev pub opened : Shape → State
opened sh = record {
  ticket = sh.first - 1;
  place = sh.first - 1;
  phase = Joined;
  split = [];
  stamps = replicate sh.keys (record { version = sh.first - 1; owner = None });
  rows = replicate sh.workers idle;
}

module _ {M : Type 0} (k : Model M) (sh : Shape) where
  abbrev pub wrong_length : List M → Bool
  wrong_length table = not (length table == sh.keys + 16 * sh.workers)

  abbrev pub refuse_open : List M → Option (List ℕ)
  refuse_open table = first_of (when (not (good_figures sh.workers sh.keys sh.first)) (1 ∷ []) ∷ when (wrong_length table) (2 ∷ []) ∷ [])

  -- ---- the turns

  abbrev pub refuse_text : ℕ → Result (List Entry) (List ℕ) → Option (List ℕ)
  refuse_text w (Err c) = Some c
  refuse_text w (Ok es) = late k sh.keys w es

  module _ (s : State) (table : List M) where
    abbrev pub in_phase : Phase → Bool
    in_phase p = same_phase s.phase p

    abbrev pub row : ℕ → Row
    row w = row_at s.rows w

    abbrev pub hand : ℕ → Option Transaction
    hand w = (row w).current

    -- a call that names a worker tests the length of the table and the worker first
    abbrev pub of_worker : ℕ → List (Option (List ℕ)) → List (Option (List ℕ))
    of_worker w ts = when (wrong_length table) (2 ∷ []) ∷ when (nat_le sh.workers w) (3 ∷ []) ∷ ts

    -- the tests of a call, in the order of their numbers
    abbrev pub tests : Call → List (Option (List ℕ))
    tests (Take w text q) = of_worker w (
        when (not (in_phase Joined || in_phase Split)) (4 ∷ [])
        ∷ when (is_some (hand w)) (5 ∷ [])
        ∷ when (s.ticket == 2 ^ 64 - 1) (7 ∷ [])
        ∷ refuse_text w q
        ∷ [])
    tests (Draw w) = of_worker w (
        when (not (in_phase Joined || in_phase Closing)) (4 ∷ [])
        ∷ when (is_some (hand w)) (5 ∷ [])
        ∷ when (length (row w).stash == 0) (12 ∷ [])
        ∷ [])
    tests (Step w) = of_worker w (when (not (runs (hand w))) (6 ∷ []) ∷ [])
    tests (Acknowledge w) = of_worker w (
        when (not (in_phase Closing || in_phase Merging)) (4 ∷ [])
        ∷ when (is_some (hand w)) (5 ∷ [])
        ∷ when (left_over s.phase (length s.split) (row w)) (13 ∷ [])
        ∷ when (row w).acknowledged (14 ∷ [])
        ∷ [])
    tests (Merge w) = of_worker w (
        when (not (in_phase Merging)) (4 ∷ [])
        ∷ when (is_some (hand w)) (5 ∷ [])
        ∷ when (nat_le (length s.split) (row w).merged) (13 ∷ [])
        ∷ [])
    tests (Collect w ticket buffer) = of_worker w (
        when (not (has_ended ticket (hand w))) (17 ∷ [])
        ∷ when (nat_lt (length buffer) (length (answers_of (hand w)))) (18 ∷ [])
        ∷ [])
    tests (AnnounceSplit ls) =
        when (wrong_length table) (2 ∷ []) ∷ when (not (in_phase Joined)) (4 ∷ []) ∷ when (not (good_split k sh.keys ls)) (15 ∷ []) ∷ []
    tests AnnounceMerging = when (wrong_length table) (2 ∷ []) ∷ when (not (in_phase Split)) (4 ∷ []) ∷ []
    tests (Release p) =
        when (wrong_length table) (2 ∷ []) ∷ when (not (in_phase p && (same_phase p Closing || same_phase p Merging))) (4 ∷ [])
        ∷ when (not (all_acknowledged s.rows)) (16 ∷ [])
        ∷ []

    -- a call that tells something and has the state as its only other effect
    abbrev pub tells : List ℕ → State → Made M
    tells c s' = record { answer = Gave c []; state = s'; table = table; events = [] }

    abbrev pub moved_to : Phase → List SplitItem → List Row → State
    moved_to p ls rows = record { ticket = s.ticket; place = s.place; phase = p; split = ls; stamps = s.stamps; rows = rows }

    -- taking begins a transaction under the next ticket
    abbrev pub takes : ℕ → List ℕ → Result (List Entry) (List ℕ) → Made M
    takes w text (Err c) = record { answer = Refused c; state = s; table = table; events = [] }
    takes w text (Ok es) = record {
      answer = Gave (suc s.ticket ∷ []) [];
      state = record {
        ticket = suc s.ticket;
        place = s.place;
        phase = s.phase;
        split = s.split;
        stamps = s.stamps;
        rows = slice_set s.rows w (with_current (row w) (Some (begin (suc s.ticket) es)));
      };
      table = table;
      events = Taken (record { ticket = suc s.ticket; worker = w; text = text; entries = es }) ∷ [];
    }

    -- a step of a row, lifted to the engine
    abbrev pub steps : ℕ → Stepped M → Made M
    steps w r = record {
      answer = Gave (told_code r.told) [];
      state = record { ticket = s.ticket; place = r.place; phase = s.phase; split = s.split; stamps = r.stamps; rows = slice_set s.rows w r.row };
      table = r.table;
      events = placings w s.stamps s.place (hand w);
    }

    -- a worker merges its next shard
    abbrev pub merges : ℕ → ℕ → Option SplitItem → Made M
    merges w i l = record {
      answer = Gave (key_of l) [];
      state = record {
        ticket = s.ticket;
        place = s.place;
        phase = s.phase;
        split = s.split;
        stamps = revise s.place l s.stamps;
        rows = slice_set s.rows w (merging (suc i) (row w));
      };
      table = merge_item k sh.keys w i l table;
      events = [];
    }

    -- what a call that is not refused makes
    abbrev pub makes : Call → Made M
    makes (Take w text q) = takes w text q
    makes (Draw w) = tells [] (with_row s w (drawn (row w) (row w).stash))
    makes (Step w) = steps w (step_row k sh.keys (split_in s.phase s.split) w (row w) s.stamps s.place table (hand w))
    makes (Acknowledge w) = tells [] (with_row s w (acknowledging true (row w)))
    makes (Merge w) = merges w (row w).merged (slice_get s.split (row w).merged)
    makes (Collect w ticket buffer) = record {
      answer = Gave (outcome_told (outcome_of (hand w))) (answers_of (hand w));
      state = with_row s w (with_current (row w) None);
      table = table;
      events = [];
    }
    makes (AnnounceSplit ls) = record {
      answer = Gave [] [];
      state = moved_to Closing ls (map (merging 0) s.rows);
      table = fresh_all k sh.keys sh.workers ls table;
      events = [];
    }
    makes AnnounceMerging = tells [] (moved_to Merging s.split s.rows)
    makes (Release p) = tells [] (moved_to (next_phase p) s.split (map (acknowledging false) s.rows))

    abbrev pub turn_by : Call → Option (List ℕ) → Made M
    turn_by c (Some code) = record { answer = Refused code; state = s; table = table; events = [] }
    turn_by c None = makes c

    -- the turn: refused, and then nothing has changed; or else what the call makes
    abbrev pub turn : Call → Made M
    turn c = turn_by c (first_of (tests c))
