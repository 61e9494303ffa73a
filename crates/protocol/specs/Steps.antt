-- The steps of a transaction, stage by stage, on the parts that each of them touches.
use Rattle.std.specs.Prelude.{ℕ, suc, ◌+◌, ◌*◌, Bool, true, false, cond, not, ◌&&◌, ◌||◌, List, [], ◌∷◌, ◌++◌, map, length, ℤ, is_some, Some, None, Option, ◌==◌, nat_le, nat_lt}
use Rattle.std.specs.List.{slice_get}
use Rattle.kinds.specs.Model.{Model}
use Rattle.slips.specs.declared.entry.Entry.{Entry}
use Rattle.serial.specs.Alone.{tells, falls_short, applied}
use Rattle.serial.specs.Places.{modify}
use Rattle.protocol.specs.declared.data.Note.{Note}
use Rattle.protocol.specs.declared.data.Outcome.TheVariants.{Committed, Conflict, TurnedAway}
use Rattle.protocol.specs.declared.data.SplitItem.{SplitItem}
use Rattle.protocol.specs.declared.data.Stage.{Stage}
use Rattle.protocol.specs.declared.data.Stage.TheVariants.{Running, Locking, Checking, Writing, Sharding, Ended}
use Rattle.protocol.specs.declared.data.Stamp.{Stamp}
use Rattle.protocol.specs.declared.data.Told.{Told}
use Rattle.protocol.specs.State.{Transaction, Row, stamp_at, ran, told_of, at_stage, with_current}
use Rattle.protocol.specs.Entries.{looks, ops_of, ops_on, apply_all, find_split, strays, next_target, next_shard}

-- ---- which stage comes next; an empty one is passed over, but never the check

abbrev pub or_stage : {A : Type 0} → Option A → (A → Stage) → Stage → Stage
or_stage None f g = g
or_stage (Some a) f g = f a

module _ (ls : List SplitItem) (es : List Entry) where
  -- locking goes on with the least key from `from` on
  abbrev pub after_running : ℕ → Stage
  after_running from = or_stage (next_target ls from es) Locking Checking

  -- applying to shards goes on with the first operation from entry `from` on
  abbrev pub after_writing : ℕ → ℕ → Stage
  after_writing place from = or_stage (next_shard ls from es) (Sharding place) (Ended (Committed place))

  -- writing goes on with the least key from `from` on
  abbrev pub after_check : ℕ → ℕ → Stage
  after_check place from = or_stage (next_target ls from es) (Writing place) (after_writing place 0)

-- ---- locks and versions

abbrev pub owned_by : Option ℕ → ℕ → Bool
owned_by None w = false
owned_by (Some j) w = j == w

-- another worker has the record locked
abbrev pub locked_out : List Stamp → ℕ → ℕ → Bool
locked_out ss w key = is_some (stamp_at ss key).owner && not (owned_by (stamp_at ss key).owner w)

abbrev pub lock_for : ℕ → Stamp → Stamp
lock_for w st = record { version = st.version; owner = Some w }

abbrev pub free_own : ℕ → Stamp → Stamp
free_own w st = record { version = st.version; owner = cond (owned_by st.owner w) None st.owner }

-- the version that a write leaves, unlocked
abbrev pub stamped : ℕ → Stamp → Stamp
stamped place st = record { version = place; owner = None }

abbrev pub is_noted : List Note → ℕ → Bool
is_noted [] key = false
is_noted (n ∷ ns) key = n.key == key || is_noted ns key

-- the version is noted at the first reading of the key
abbrev pub note : List Note → ℕ → ℕ → List Note
note ns key version = cond (is_noted ns key) ns (ns ++ (record { key = key; version = version } ∷ []))

-- the record has another version than was noted, or another worker has it locked
abbrev pub stale : List Stamp → ℕ → Note → Bool
stale ss w n = not ((stamp_at ss n.key).version == n.version) || locked_out ss w n.key

-- the first such record, in the order of first readings
abbrev pub first_conflict : List Stamp → ℕ → List Note → Option ℕ
first_conflict ss w [] = None
first_conflict ss w (n ∷ ns) = cond (stale ss w n) (Some n.key) (first_conflict ss w ns)

-- a conflict ends the transaction with the record's key and frees its locks
abbrev pub clash : ℕ → List Stamp → Transaction → ℕ → Transaction × List Stamp
clash w ss t key = (at_stage t (Ended (Conflict key)), map (free_own w) ss)

-- ---- running

-- one entry more has run
abbrev pub one_more : Transaction → List Note → List ℤ → Option ℕ → Transaction
one_more t noted answers skipped =
    record { ticket = t.ticket; entries = t.entries; done = suc t.done; skipped = skipped; noted = noted; answers = answers; stage = Running }

-- no entry is left to run
abbrev pub has_run : Transaction → Bool
has_run t = is_some t.skipped || nat_le (length t.entries) t.done

-- after the last entry comes the next stage
abbrev pub settled : List SplitItem → Transaction → Transaction
settled ls t = cond (has_run t) (at_stage t (after_running ls (ran t) 0)) t

-- the versions noted once an entry has run: one that looks at its record notes it
abbrev pub noting : List Stamp → Transaction → Entry → List Note
noting ss t e = cond (looks e) (note t.noted e.key (stamp_at ss e.key).version) t.noted

module _ {M : Type 0} (k : Model M) (ls : List SplitItem) (w : ℕ) where
  -- an entry reads the values as the transaction's own earlier operations leave them:
  -- `show` answers, a `need` below its bound skips the rest, and an operation is kept
  abbrev pub reading : List Stamp → List M → Transaction → Entry → Transaction
  reading ss values t e =
      settled ls (one_more t (noting ss t e) (t.answers ++ tells k e e.action values) (cond (falls_short k e e.action values) (Some t.done) None))

  -- looking at a record that another worker has locked is a conflict
  abbrev pub act : List Stamp → List M → Transaction → Entry → Transaction × List Stamp
  act ss table t e =
      cond (looks e && locked_out ss w e.key) (clash w ss t e.key) (reading ss (applied k w (ran t) table) t e, ss)

  -- the entry, and whether the transaction is to be stashed instead: anything but the chosen operation on a split record stashes it
  abbrev pub run_entry : List Stamp → List M → Transaction → Entry → Transaction × List Stamp × Bool
  run_entry ss table t e = cond (strays ls e) (t, ss, true) ((act ss table t e).0, (act ss table t e).1, false)

  abbrev pub run : List Stamp → List M → Transaction → Option Entry → Transaction × List Stamp × Bool
  run ss table t None = (t, ss, false)
  run ss table t (Some e) = run_entry ss table t e

-- ---- locking and checking

module _ (ls : List SplitItem) (w : ℕ) where
  abbrev pub lock : List Stamp → Transaction → ℕ → Transaction × List Stamp
  lock ss t key =
      cond (locked_out ss w key) (clash w ss t key) (at_stage t (after_running ls (ran t) (suc key)), modify key (lock_for w) ss)

  -- a check that finds no conflict gives the next place
  abbrev pub check_by : List Stamp → ℕ → Transaction → Option ℕ → Transaction × List Stamp × ℕ
  check_by ss place t None = (at_stage t (after_check ls (ran t) (suc place) 0), ss, suc place)
  check_by ss place t (Some key) = ((clash w ss t key).0, (clash w ss t key).1, place)

  abbrev pub check : List Stamp → ℕ → Transaction → Transaction × List Stamp × ℕ
  check ss place t = check_by ss place t (first_conflict ss w t.noted)

-- ---- writing records and shards

-- where in the table shard i of a worker lies
abbrev pub shard_at : ℕ → ℕ → ℕ → ℕ
shard_at keys w i = keys + (16 * w + i)

-- the shard of a split key
abbrev pub shard_of : Option (ℕ × SplitItem) → ℕ
shard_of None = 0
shard_of (Some l) = l.0

module _ {M : Type 0} (k : Model M) (ls : List SplitItem) (w : ℕ) where
  -- the kept operations on a key, in the order of the entries; its version becomes the place, and it is unlocked
  abbrev pub write : List Stamp → List M → Transaction → ℕ → ℕ → Transaction × List Stamp × List M
  write ss table t place key = (
    at_stage t (after_check ls (ran t) place (suc key)),
    modify key (stamped place) ss,
    modify key (apply_all k (ops_on w key (ran t))) table,
  )

  -- the operation of entry i, applied to the worker's own shard
  abbrev pub shard_by : ℕ → List M → Transaction → ℕ → ℕ → Option Entry → Transaction × List M
  shard_by keys table t place i None = (t, table)
  shard_by keys table t place i (Some e) = (
    at_stage t (after_writing ls (ran t) place (suc i)),
    modify (shard_at keys w (shard_of (find_split 0 ls e.key))) (apply_all k (ops_of w e)) table,
  )

  abbrev pub shard : ℕ → List M → Transaction → ℕ → ℕ → Transaction × List M
  shard keys table t place i = shard_by keys table t place i (slice_get (ran t) i)

-- ---- the step

-- what a step makes of the transaction and of what it is lent, and whether the transaction is to be stashed
pub record Moved (M : Type 0) : Type 0 where
  pub transaction : Transaction
  pub stamps : List Stamp
  pub place : ℕ
  pub table : List M
  pub aside : Bool

-- what it makes of the row
pub record Stepped (M : Type 0) : Type 0 where
  pub told : Told
  pub row : Row
  pub stamps : List Stamp
  pub place : ℕ
  pub table : List M

-- a transaction joins the back of the stash and empties the hand, or is turned away where four wait
abbrev pub put_aside : Row → Transaction → Told × Row
put_aside r t =
    cond (nat_lt (length r.stash) 4) (Told.Stashed, record { current = None; stash = r.stash ++ (t ∷ []); acknowledged = r.acknowledged; merged = r.merged })
    (Told.Ended, with_current r (Some (at_stage t (Ended TurnedAway))))

abbrev pub put_back : {M : Type 0} → Row → Moved M → Told × Row
put_back r m = cond m.aside (put_aside r m.transaction) (told_of m.transaction.stage, with_current r (Some m.transaction))

abbrev pub in_row : {M : Type 0} → Row → Moved M → Stepped M
in_row r m = record { told = (put_back r m).0; row = (put_back r m).1; stamps = m.stamps; place = m.place; table = m.table }

module _ {M : Type 0} (k : Model M) (keys : ℕ) (ls : List SplitItem) (w : ℕ) where
  abbrev pub move : List Stamp → ℕ → List M → Transaction → Stage → Moved M
  move ss place table t Running = let r = run k ls w ss table t (slice_get t.entries t.done) in record { transaction = r.0; stamps = r.1; place = place; table = table; aside = r.2 }
  move ss place table t (Locking key) = let r = lock ls w ss t key in record { transaction = r.0; stamps = r.1; place = place; table = table; aside = false }
  move ss place table t Checking = let r = check ls w ss place t in record { transaction = r.0; stamps = r.1; place = r.2; table = table; aside = false }
  move ss place table t (Writing p key) = let r = write k ls w ss table t p key in record { transaction = r.0; stamps = r.1; place = place; table = r.2; aside = false }
  move ss place table t (Sharding p i) = let r = shard k ls w keys table t p i in record { transaction = r.0; stamps = ss; place = place; table = r.1; aside = false }
  move ss place table t (Ended o) = record { transaction = t; stamps = ss; place = place; table = table; aside = false }

  -- one step of the row's transaction
  abbrev pub step_row : Row → List Stamp → ℕ → List M → Option Transaction → Stepped M
  step_row r ss place table None = record { told = Told.Ended; row = r; stamps = ss; place = place; table = table }
  step_row r ss place table (Some t) = in_row r (move ss place table t t.stage)
