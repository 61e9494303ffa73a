-- What holds of the engine between calls, in terms of its state alone: who has which lock, that places never pass tickets,
-- and that whoever has acknowledged has nothing in hand.
use Rattle.std.specs.Prelude.{◌≡◌, ℕ, ◌+◌, ◌^◌, ◌<◌, ◌≤◌, Bool, true, false, cond, not, ◌&&◌, ◌||◌, List, [], ◌∷◌, length, is_some, Some, None, sum_by, Option, ◌==◌, nat_le, nat_lt}
use Rattle.kinds.specs.Model.{Model}
use Rattle.slips.specs.declared.entry.Entry.{Entry}
use Rattle.protocol.specs.declared.data.Phase.{Phase}
use Rattle.protocol.specs.declared.data.Phase.TheVariants.{Joined, Closing, Split, Merging}
use Rattle.protocol.specs.declared.data.SplitItem.{SplitItem}
use Rattle.protocol.specs.declared.data.Stage.{Stage}
use Rattle.protocol.specs.declared.data.Stage.TheVariants.{Running, Locking, Checking, Writing, Sharding, Ended}
use Rattle.protocol.specs.declared.data.Stamp.{Stamp}
use Rattle.protocol.specs.State.{Transaction, Row, Shape, State, row_at, stamp_at, ran, place_of}
use Rattle.protocol.specs.Entries.{changes, is_split, split_in}
use Rattle.protocol.specs.Turns.{Call, opened, turn}

-- ---- locks

module _ (ls : List SplitItem) where
  -- the entries have an operation on this key, and it is not split
  abbrev pub writes : List Entry → ℕ → Bool
  writes [] key = false
  writes (e ∷ es) key = (changes e && (not (is_split ls e.key) && e.key == key)) || writes es key

  -- the locks of a transaction: on what it has locked, until it is written
  abbrev pub holds_at : List Entry → ℕ → Stage → Bool
  holds_at es key Running = false
  holds_at es key (Locking c) = writes es key && nat_lt key c
  holds_at es key Checking = writes es key
  holds_at es key (Writing place c) = writes es key && nat_le c key
  holds_at es key (Sharding place i) = false
  holds_at es key (Ended o) = false

  abbrev pub holds : Option Transaction → ℕ → Bool
  holds None key = false
  holds (Some t) key = holds_at (ran t) key t.stage

  -- the key that is to be locked or written is one that the transaction changes
  abbrev pub aims_at : List Entry → Stage → Bool
  aims_at es Running = true
  aims_at es (Locking c) = writes es c
  aims_at es Checking = true
  aims_at es (Writing place c) = writes es c
  aims_at es (Sharding place i) = true
  aims_at es (Ended o) = true

  abbrev pub aims : Option Transaction → Bool
  aims None = true
  aims (Some t) = aims_at (ran t) t.stage

  -- a record is locked by exactly the worker whose transaction holds it
  abbrev pub Locks : List Stamp → List Row → Type 0
  Locks ss rows = (key w : ℕ) → key < length ss
      → ((stamp_at ss key).owner ≡ Some w → holds (row_at rows w).current key ≡ true) × (holds (row_at rows w).current key ≡ true → (stamp_at ss key).owner ≡ Some w)

  abbrev pub Aims : List Row → Type 0
  Aims rows = (w : ℕ) → aims (row_at rows w).current ≡ true

-- ---- tickets that have no place: in a hand, or waiting in a stash; f is what each counts

module _ (f : ℕ → ℕ) where
  abbrev pub in_hand : Option Transaction → ℕ
  in_hand None = 0
  in_hand (Some t) = cond (is_some (place_of t.stage)) 0 (f t.ticket)

  abbrev pub in_row : Row → ℕ
  in_row r = in_hand r.current + sum_by (λ (t : Transaction). f t.ticket) r.stash

  abbrev pub in_rows : List Row → ℕ
  in_rows rows = sum_by in_row rows

-- places given, and those that may still be given, are not more than the tickets
abbrev pub Counted : State → Type 0
Counted s = s.place + in_rows (λ _. 1) s.rows ≤ s.ticket

-- ---- acknowledging

-- when a worker may have acknowledged: with nothing in hand, and in closing with nothing stashed
abbrev pub may_rest : Phase → Row → Bool
may_rest Joined r = false
may_rest Closing r = not (is_some r.current) && length r.stash == 0
may_rest Split r = false
may_rest Merging r = not (is_some r.current)

abbrev pub Resting : Phase → List Row → Type 0
Resting p rows = (w : ℕ) → (row_at rows w).acknowledged ≡ true → may_rest p (row_at rows w) ≡ true

-- ---- all of it

pub record Sound (sh : Shape) (s : State) : Type 0 where
  pub rows : length s.rows ≡ sh.workers
  pub locks : Locks (split_in s.phase s.split) s.stamps s.rows
  pub aims : Aims (split_in s.phase s.split) s.rows
  pub counted : Counted s
  pub low : s.ticket < 2 ^ 64
  pub resting : Resting s.phase s.rows

-- it holds of an engine as it opens, and every turn keeps it, whatever it is lent
pub record StaysSound {M : Type 0} (k : Model M) : Type 0 where
  pub at_first : (sh : Shape) → sh.first < 2 ^ 64 → Sound sh (opened sh)
  pub after_a_turn : (sh : Shape) (s : State) (table : List M) (c : Call) → Sound sh s → Sound sh (turn k sh s table c).state
