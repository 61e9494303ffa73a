-- What holds of every world that turns lead to.
use Rattle.protocol.proofs.Base.{◌≡◌, true, false, cond, ◌||◌, List, [], ◌++◌, map, ℕ, zero, suc, ◌+◌, ◌*◌, ◌≤◌, ◌<◌, leb, ℤ, length, take, drop, Option, Some, None, Ok, counting, mapped, AllByRecursion, sum_by, nth}
use Rattle.protocol.specs.Rules.{Model, Operation, ReadAs, Entry, Note, Phase, Joined, Closing, Split, Merging, SplitItem, Stage, Running, Locking, Checking, Writing, Sharding, Ended, Stamp, late, Transaction, Row, Shape, State, row_at, stamp_at, place_of, looks, ops_on, apply_all, split_in, is_split, strays, sharded, is_noted, shard_at, Taking, Placing, Event, Taken, Placed, good_from, takings, placings, World, values_by, readings_by, SameSlip, readings_of, writes, Sound, in_rows}
use Rattle.protocol.proofs.Alone.{Finished, Gives}
use Rattle.protocol.specs.State.{ran}

-- ---- what happened

-- a transaction was taken for the worker
abbrev pub Live : List Event → ℕ → ℕ → List Entry → Type 0
Live events w ticket entries = (i : ℕ) × (text : List ℕ) × (nth events i ≡ Some (Taken (record { ticket = ticket; worker = w; text = text; entries = entries })))

-- and got a place
abbrev pub HasPlace : List Event → ℕ → Transaction → ℕ → Type 0
HasPlace events w t p =
    (i : ℕ) × (nth events i ≡ Some (Placed (record { ticket = t.ticket; place = p; worker = w; entries = t.entries; answers = t.answers; skipped = t.skipped })))

-- each ticket that was taken was placed once or is held once, or neither: whatever f is, it comes to no more
abbrev pub placed_weight : (ℕ → ℕ) → List Event → ℕ
placed_weight f events = sum_by (λ (p : Placing). f p.ticket) (placings events)

abbrev pub taken_weight : (ℕ → ℕ) → List Event → ℕ
taken_weight f events = sum_by (λ (t : Taking). f t.ticket) (takings events)

abbrev pub Weighed : List Event → List Row → Type 0
Weighed events rows = (f : ℕ → ℕ) → placed_weight f events + in_rows f rows ≤ taken_weight f events

module _ {M : Type 0} (k : Model M) (sh : Shape) where
  -- what happened is what is promised
  pub record Past (start : List M) (events : List Event) (ticket place : ℕ) : Type 0 where
    pub each_ticket : map (λ (t : Taking). t.ticket) (takings events) ≡ counting sh.first (length (takings events))
    pub each_place : map (λ (p : Placing). p.place) (placings events) ≡ counting sh.first (length (placings events))
    pub last_ticket : suc ticket ≡ sh.first + length (takings events)
    pub last_place : suc place ≡ sh.first + length (placings events)
    pub as_taken : (i : ℕ) (p : Placing) → nth events i ≡ Some (Placed p) → (j : ℕ) × (t : Taking) × (j < i) × (nth events j ≡ Some (Taken t)) × SameSlip t p
    pub as_read : (i : ℕ) (t : Taking) → nth events i ≡ Some (Taken t) → ReadAs t.text (Ok t.entries)
    pub same_readings : map readings_of (placings events) ≡ readings_by k (placings events) (take sh.keys start)

  -- ---- one transaction, under the split records ls

  -- a transaction that was taken for the worker, and whose entries passed the tests
  abbrev pub Ready : List Event → ℕ → Transaction → Type 0
  Ready events w t = Live events w t.ticket t.entries × (late k sh.keys w t.entries ≡ None)

  module _ (ls : List SplitItem) where
    -- what it has read so far is what its entries give on the values as they are, unless a noted version has changed
    pub record ReadsRight (ss : List Stamp) (table : List M) (w : ℕ) (es : List Entry) (noted : List Note) (answers : List ℤ) (skipped : Option ℕ) : Type 0 where
      pub covers : AllByRecursion (λ e. looks e ≡ true → is_noted noted e.key ≡ true) es
      pub bounds : AllByRecursion (λ (n : Note). (n.key < sh.keys) × (n.version ≤ (stamp_at ss n.key).version) × (is_split ls n.key ≡ false)) noted
      pub agrees : AllByRecursion (λ (n : Note). (stamp_at ss n.key).version ≡ n.version) noted → Gives k w es table answers skipped

    abbrev pub Faithful : List Stamp → List M → ℕ → Transaction → Type 0
    Faithful ss table w t = ReadsRight ss table w (ran t) t.noted t.answers t.skipped

    -- what is so at a stage
    abbrev pub StageOk : List Stamp → List M → ℕ → Transaction → Stage → Type 0
    StageOk ss table w t Running = Faithful ss table w t × (t.skipped ≡ None)
    StageOk ss table w t (Locking c) = Faithful ss table w t × Finished t
    StageOk ss table w t Checking = Faithful ss table w t × Finished t
    StageOk ss table w t (Writing p c) = (key : ℕ) → key < sh.keys → writes ls (ran t) key ≡ true → c ≤ key → (stamp_at ss key).version < p
    StageOk ss table w t (Sharding p i) = (e : Entry) × (nth (ran t) i ≡ Some e) × (sharded ls e ≡ true)
    StageOk ss table w t (Ended o) = Unit {0}

    pub record HandOk (ss : List Stamp) (table : List M) (events : List Event) (w : ℕ) (t : Transaction) : Type 0 where
      pub ready : Ready events w t
      -- on split records only the chosen operation has run
      pub chosen : AllByRecursion (λ e. strays ls e ≡ false) (ran t)
      pub placed : (p : ℕ) → place_of t.stage ≡ Some p → HasPlace events w t p
      pub stage : StageOk ss table w t t.stage

  -- how many shards a worker may have merged, by phase: none yet; or some, once nothing can reach them any more
  abbrev pub MergedOk : Phase → ℕ → Row → Type 0
  MergedOk Joined items r = Unit {0}
  MergedOk Closing items r = r.merged ≡ 0
  MergedOk Split items r = r.merged ≡ 0
  MergedOk Merging items r = (0 < r.merged → r.current ≡ None) × (r.acknowledged ≡ true → items ≤ r.merged)

  pub record RowOk (s : State) (table : List M) (events : List Event) (w : ℕ) (r : Row) : Type 0 where
    pub hand : (t : Transaction) → r.current ≡ Some t → HandOk (split_in s.phase s.split) s.stamps table events w t
    pub stash : AllByRecursion (Ready events w) r.stash
    pub merged : MergedOk s.phase (length s.split) r

  -- ---- values: those of the serial run are the table's with all that is owed to it

  -- operations of a placed transaction that have reached neither its record nor its shard
  abbrev pub pending_at : List SplitItem → ℕ → ℕ → List Entry → Stage → List Operation
  pending_at ls w key es Running = []
  pending_at ls w key es (Locking c) = []
  pending_at ls w key es Checking = []
  pending_at ls w key es (Writing p c) = cond (is_split ls key || leb c key) (ops_on w key es) []
  pending_at ls w key es (Sharding p i) = cond (is_split ls key) (ops_on w key (drop i es)) []
  pending_at ls w key es (Ended o) = []

  abbrev pub pending : List SplitItem → ℕ → ℕ → Option Transaction → List Operation
  pending ls w key None = []
  pending ls w key (Some t) = pending_at ls w key (ran t) t.stage

  -- with those that a worker's shard holds; `ops` has these by worker and key
  abbrev pub owed : State → (ℕ → ℕ → List Operation) → ℕ → ℕ → List Operation
  owed s ops key w = ops w key ++ pending (split_in s.phase s.split) w key (row_at s.rows w).current

  -- of the first n workers, the last one's first
  abbrev pub gathered : (ℕ → List Operation) → ℕ → List Operation
  gathered f zero = []
  gathered f (suc n) = f n ++ gathered f n

  -- an operation that a record is split for
  abbrev pub Fits : SplitItem → Operation → Type 0
  Fits l o = (o.part ≡ l.part) × (o.verb ≡ l.verb) × ((k.rule o.part o.verb).takes o.argument ≡ true)

  -- a shard began fresh and has had these operations
  pub record ShardOk (table : List M) (os : List Operation) (w i : ℕ) (l : SplitItem) : Type 0 where
    pub base : M
    pub holds : nth table (shard_at sh.keys w i) ≡ Some (apply_all k os ((k.rule l.part l.verb).fresh base))
    pub fit : AllByRecursion (Fits l) os

  pub record ValuesOk (s : State) (table ideal : List M) : Type 0 where
    pub ops : ℕ → ℕ → List Operation
    pub unsplit : (w key : ℕ) → w < sh.workers → is_split (split_in s.phase s.split) key ≡ false → ops w key ≡ []
    pub shards : (s.phase ≡ Joined → ⊥) → (w i : ℕ) (l : SplitItem) → w < sh.workers → nth s.split i ≡ Some l → ShardOk table (ops w l.key) w i l
    pub merged : s.phase ≡ Merging → (w i : ℕ) (l : SplitItem) → w < sh.workers → nth s.split i ≡ Some l → i < (row_at s.rows w).merged → ops w l.key ≡ []
    pub values : (key : ℕ) → key < sh.keys → nth ideal key ≡ mapped (apply_all k (gathered (owed s ops key) sh.workers)) (nth table key)

  -- ---- all of it

  pub record Sized (s : State) (table : List M) : Type 0 where
    pub table_len : length table ≡ sh.keys + 16 * sh.workers
    pub stamps_len : length s.stamps ≡ sh.keys
    pub split_good : good_from k sh.keys 0 s.split ≡ true
    pub split_few : length s.split ≤ 16
    pub versions : (key : ℕ) → (stamp_at s.stamps key).version ≤ s.place

  -- the values that the serial run leaves
  abbrev pub ideal : List M → List Event → List M
  ideal start events = values_by k (placings events) (take sh.keys start)

  pub record Kept (start : List M) (x : World M) : Type 0 where
    pub sized : Sized x.state x.table
    pub past : Past start x.events x.state.ticket x.state.place
    pub rows : (w : ℕ) → RowOk x.state x.table x.events w (row_at x.state.rows w)
    pub values : ValuesOk x.state x.table (ideal start x.events)

  pub record Inv (start : List M) (x : World M) : Type 0 where
    pub sound : Sound sh x.state
    pub weighed : Weighed x.events x.state.rows
    pub kept : Kept start x
