-- The eight things that a step may do, each with what its tests have told.
use Rattle.protocol.proofs.Base.{◌≡◌, true, false, ◌&&◌, List, [], ℕ, suc, Some, None, nth, arith}
use Rattle.protocol.specs.Rules.{Model, Entry, applied, modify, SplitItem, Running, Locking, Checking, Writing, Sharding, Stamp, Transaction, place_of, at_stage, looks, strays, after_running, after_check, locked_out, lock_for, first_conflict, clash, reading, write, shard_by, Moved, move, Event, placing, placings_at}
use Rattle.protocol.specs.State.{ran}

module _ {M : Type 0} (k : Model M) (keys : ℕ) (ls : List SplitItem) (w : ℕ) (ss : List Stamp) (place : ℕ) (table : List M) (t : Transaction) where
  -- the transaction and the stamps change at most
  abbrev pub moved : Transaction × List Stamp → Moved M
  moved r = record { transaction = r.0; stamps = r.1; place = place; table = table; aside = false }

  abbrev pub wrote : Transaction × List Stamp × List M → Moved M
  wrote r = record { transaction = r.0; stamps = r.1; place = place; table = r.2; aside = false }

  abbrev pub shared : Transaction × List M → Moved M
  shared r = record { transaction = r.0; stamps = ss; place = place; table = r.1; aside = false }

  pub data Does : Moved M → List Event → Type 0 where
    rests : Does (moved (t, ss)) []
    reads : (e : Entry) → t.stage ≡ Running → nth t.entries t.done ≡ Some e → strays ls e ≡ false → (looks e && locked_out ss w e.key) ≡ false
        → Does (moved (reading k ls w ss (applied k w (ran t) table) t e, ss)) []
    strays_off : t.stage ≡ Running → Does (record { transaction = t; stamps = ss; place = place; table = table; aside = true }) []
    clashes : (key : ℕ) → place_of t.stage ≡ None → Does (moved (clash w ss t key)) []
    locks : (key : ℕ) → t.stage ≡ Locking key → locked_out ss w key ≡ false → Does (moved (at_stage t (after_running ls (ran t) (suc key)), modify key (lock_for w) ss)) []
    places : t.stage ≡ Checking → first_conflict ss w t.noted ≡ None
        → Does (record { transaction = at_stage t (after_check ls (ran t) (suc place) 0); stamps = ss; place = suc place; table = table; aside = false }) (placing w place t None)
    writes_on : (p key : ℕ) → t.stage ≡ Writing p key → Does (wrote (write k ls w ss table t p key)) []
    shards : (p i : ℕ) (e : Entry) → t.stage ≡ Sharding p i → nth (ran t) i ≡ Some e → Does (shared (shard_by k ls w keys table t p i (Some e))) []

  pub does : Does (move k keys ls w ss place table t t.stage) (placings_at w ss place t t.stage)
  does = grind (arith, rests, reads, strays_off, clashes, locks, places, writes_on, shards)
