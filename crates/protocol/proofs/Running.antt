-- Steps before the check: an entry runs or is stashed, a record is locked, or the transaction meets a conflict.
use Rattle.protocol.proofs.Base.{nth_getD, get_or_past, ◌≡◌, refl, sym, ap, subst, true, false, List, [], ◌∷◌, ◌++◌, append-nil, map, ℕ, suc, ◌<◌, arith, ltb, length, none-some, All-push, length-map, cond_both, Option, Some, None, AllByRecursion, nth, rules, get_or-map, common_steps}
use Rattle.protocol.specs.Rules.{Model, Entry, applied, modify, Outcome, TurnedAway, SplitItem, Running, Locking, Ended, Stamp, Told, Transaction, Row, Shape, State, row_at, stamp_at, place_in, place_of, at_stage, strays, split_in, after_running, lock_for, free_own, clash, reading, Moved, World}
use Rattle.protocol.proofs.Doing.{moved}
use Rattle.protocol.proofs.Frames.{faithful_grows, after, merged_step, Goes}
use Rattle.protocol.proofs.Invariant.{Ready, StageOk, HandOk, pending, Kept, Inv}
use Rattle.protocol.proofs.Owing.{stays_owing}
use Rattle.protocol.proofs.Places.{nth_modify, nth_modify_other, length_modify}
use Rattle.protocol.proofs.Reading.{Early, locks_on, reads_on}
use Rattle.protocol.specs.State.{ran}

-- locking and freeing leave the versions
locked_version : (w i key : ℕ) (ss : List Stamp) → (stamp_at (modify i (lock_for w) ss) key).version ≡ (stamp_at ss key).version
locked_version w i key ss = grind (arith, nth_getD, get_or_past, nth_modify, nth_modify_other, length_modify)

freed_version : (w key : ℕ) (ss : List Stamp) → (stamp_at (map (free_own w) ss) key).version ≡ (stamp_at ss key).version
freed_version w key ss = grind (arith, common_steps, get_or-map, get_or_past)

module _ {M : Type 0} (k : Model M) (sh : Shape) (start : List M) (x : World M) (inv : Inv k sh start x) (w : ℕ) (inside : w < sh.workers)
    (t : Transaction) (held : (row_at x.state.rows w).current ≡ Some t) where
  abbrev s : State
  s = x.state

  abbrev ls : List SplitItem
  ls = split_in s.phase s.split

  abbrev row : Row
  row = row_at s.rows w

  abbrev to : Transaction × List Stamp → Moved M
  to = moved k sh.keys ls w s.stamps s.place x.table t

  hand : HandOk k sh ls s.stamps x.table x.events w t
  hand = (inv.kept.rows w).hand t held

  owed_before : place_of t.stage ≡ None → (key : ℕ) → pending k sh ls w key row.current ≡ []
  owed_before unplaced key = grind arith

  -- the stamps may change, but not the versions
  module _ (ss : List Stamp) (len : length ss ≡ length s.stamps) (same : (key : ℕ) → (stamp_at ss key).version ≡ (stamp_at s.stamps key).version) where
    -- a step after which the worker has another hand and stash, and owes what it owed
    stays : (o : Option Transaction) (ts : List Transaction) → ((u : Transaction) → o ≡ Some u → HandOk k sh ls ss x.table x.events w u) → AllByRecursion (Ready k sh x.events w) ts
        → ((key : ℕ) → pending k sh ls w key o ≡ pending k sh ls w key row.current)
        → Kept k sh start (after k sh start x w s.ticket s.place ss (record { current = o; stash = ts; acknowledged = row.acknowledged; merged = row.merged }) x.table [])
    stays o ts hands stash owes = stays_owing k sh start x inv w ss _ inside len same
        (λ u e. subst (λ es. HandOk k sh ls ss x.table es w u) (sym (append-nil x.events)) (hands u e)) (subst (λ es. AllByRecursion (Ready k sh es w) ts) (sym (append-nil x.events)) stash)
        (merged_step k sh s.phase (length s.split) row _ t held refl refl (inv.kept.rows w).merged) refl owes

    -- a transaction that has no place goes on without one
    goes_on : (u : Transaction) → place_of t.stage ≡ None → Early k sh ls w ss x.table x.events u
        → Kept k sh start (after k sh start x w s.ticket s.place ss (record { current = Some u; stash = row.stash; acknowledged = row.acknowledged; merged = row.merged }) x.table [])
    goes_on u unplaced ok = grind (arith, stays)

    -- or ends without one
    ends : (o : Outcome) → place_in o ≡ None → place_of t.stage ≡ None
        → Kept k sh start (after k sh start x w s.ticket s.place ss (record { current = Some (at_stage t (Ended o)); stash = row.stash; acknowledged = row.acknowledged; merged = row.merged }) x.table [])
    ends o none unplaced = grind (arith, goes_on)

  pub rests_ok : Goes k sh start x w (to (t, s.stamps)) []
  rests_ok = grind (arith, stays, hand)

  pub reads_ok : (e : Entry) → t.stage ≡ Running → nth t.entries t.done ≡ Some e → strays ls e ≡ false → Goes k sh start x w (to (reading k ls w s.stamps (applied k w (ran t) x.table) t e, s.stamps)) []
  reads_ok e running next fits =
      let g = subst (StageOk k sh ls s.stamps x.table w t) running hand.stage in
      goes_on s.stamps refl (λ _. refl) _ (ap place_of running) (reads_on k sh ls w s.stamps x.table x.events t e next fits hand.ready hand.chosen g.0 g.1)

  pub strays_ok : t.stage ≡ Running → Goes k sh start x w (record { transaction = t; stamps = s.stamps; place = s.place; table = x.table; aside = true }) []
  strays_ok running = cond_both (ltb (length row.stash) 4) _ _ (λ (q : Told × Row). Kept k sh start (after k sh start x w s.ticket s.place s.stamps q.1 x.table []))
      (λ _. stays s.stamps refl (λ _. refl) None (row.stash ++ (t ∷ [])) (λ u e. absurd (none-some u e))
      (All-push (Ready k sh x.events w) row.stash t (inv.kept.rows w).stash hand.ready) (λ key. sym (owed_before (ap place_of running) key)))
      (λ _. ends s.stamps refl (λ _. refl) TurnedAway refl (ap place_of running))

  pub clashes_ok : (key : ℕ) → place_of t.stage ≡ None → Goes k sh start x w (to (clash w s.stamps t key)) []
  clashes_ok key unplaced = search (rules, ends, length-map, freed_version)

  pub locks_ok : (key : ℕ) → t.stage ≡ Locking key → Goes k sh start x w (to (at_stage t (after_running ls (ran t) (suc key)), modify key (lock_for w) s.stamps)) []
  locks_ok key locking =
      let ss = modify key (lock_for w) s.stamps in
      let same = λ (j : ℕ). locked_version w key j s.stamps in
      let g = subst (StageOk k sh ls s.stamps x.table w t) locking hand.stage in
      let f = faithful_grows k sh ls s.stamps ss x.table x.table (record { up = λ j. omega (arith, same j); still = λ j l f e. refl }) w t g.0 in
      goes_on ss (length_modify s.stamps key (lock_for w)) same _ (ap place_of locking) (locks_on k sh ls w ss x.table x.events t hand.ready hand.chosen (suc key) f g.1)
