-- The check that finds no conflict: the transaction gets the next place, and what it read is what it reads alone at that place.
use Rattle.protocol.proofs.Base.{◌≡◌, refl, sym, ap, subst, ◌∙◌, true, false, List, [], ◌∷◌, ◌++◌, append-nil, ◌⊎◌, inl, inr, ℕ, suc, ◌<◌, arith, length, same_Some, nth_seam, All-weaker, cases_eq, cases_Bool, tells, Option, Some, None, mapped, nth, mapped_id}
use Rattle.protocol.specs.Rules.{Model, Laws, Operation, applied, Ran, serial, Checking, SplitItem, Transaction, Row, Shape, State, row_at, stamp_at, at_stage, with_current, ops_on, apply_all, split_in, is_split, after_check, first_conflict, Placing, Event, Placed, placing, World, writes, holds_at, holds}
use Rattle.protocol.proofs.Alone.{Finished, Agree, gives_agrees, whole}
use Rattle.protocol.proofs.Commuting.{last_done}
use Rattle.protocol.proofs.Frames.{ready_longer, after, moves_row, merged_step, Goes}
use Rattle.protocol.proofs.Invariant.{Faithful, StageOk, HandOk, owed, gathered, ideal, Inv}
use Rattle.protocol.proofs.Notes.{free_or_own, no_conflict, noted_has}
use Rattle.protocol.proofs.Operations.{no_writes, applied_at}
use Rattle.protocol.proofs.Owing.{gathered_same, gathered_none, unlocked_owes, owes_then, values_by}
use Rattle.protocol.proofs.Past.{ideal_placed, past_placed}
use Rattle.protocol.proofs.Places.{all_both, mapped_mapped, mapped_same}
use Rattle.protocol.proofs.Shards.{fits_ran}
use Rattle.protocol.proofs.Stages.{check_owes, check_place, check_ok}
use Rattle.protocol.specs.State.{ran}

module _ {M : Type 0} (k : Model M) (laws : Laws k) (sh : Shape) (start : List M) (x : World M) (inv : Inv k sh start x) (w : ℕ) (inside : w < sh.workers)
    (t : Transaction) (held : (row_at x.state.rows w).current ≡ Some t) (checking : t.stage ≡ Checking) (fresh : first_conflict x.state.stamps w t.noted ≡ None) where
  abbrev s : State
  s = x.state

  abbrev ls : List SplitItem
  ls = split_in s.phase s.split

  -- the place, the transaction with it, and the row that holds it
  abbrev place : Placing
  place = record { ticket = t.ticket; place = suc s.place; worker = w; entries = t.entries; answers = t.answers; skipped = t.skipped }

  abbrev new : List Event
  new = Placed place ∷ []

  abbrev next : Transaction
  next = at_stage t (after_check ls (ran t) (suc s.place) 0)

  abbrev row : Row
  row = with_current (row_at s.rows w) (Some next)

  abbrev vs : List M
  vs = ideal k sh start x.events

  abbrev ops : ℕ → ℕ → List Operation
  ops = inv.kept.values.ops

  abbrev now : ℕ → ℕ → List Operation
  now key = owed k sh (after k sh start x w s.ticket (suc s.place) s.stamps row x.table new).state ops key

  hand : HandOk k sh ls s.stamps x.table x.events w t
  hand = (inv.kept.rows w).hand t held

  checked : Faithful k sh ls s.stamps x.table w t × Finished t
  checked = subst (StageOk k sh ls s.stamps x.table w t) checking hand.stage

  own_before : (key : ℕ) → owed k sh s ops key w ≡ ops w key
  own_before key = grind (arith, append-nil)

  -- what each worker owes now: the transaction's operations are owed too
  owes_now : (key j : ℕ) → ((j ≡ w) × (now key j ≡ owed k sh s ops key w ++ ops_on w key (ran t))) ⊎ ((j ≡ w → ⊥) × (owed k sh s ops key j ≡ now key j))
  owes_now key j =
      let o = owes_then k sh start x inv w s.ticket (suc s.place) s.stamps row new inside ops key (λ i d. refl) j in
      let a = own_before key in
      let b = check_owes k sh ls w key (ran t) (suc s.place) 0 in
      grind (arith, tells)

  -- so the records that it looked at have the serial run's values: they are not split, and no other worker has them locked
  agree : Agree k w (ran t) vs x.table
  agree = All-weaker _ _ (λ e c look.
      let n = (noted_has _ t.noted e.key (all_both _ _ t.noted checked.0.bounds (no_conflict s.stamps w t.noted fresh)) (c look)).1 in
      let none = gathered_none k sh (owed k sh s ops e.key) sh.workers (λ j v. elim (cases_eq j w) [
        | inl d ↦ rw d (own_before e.key ∙ inv.kept.values.unsplit w e.key inside n.0.2)
        | inr d ↦ unlocked_owes k sh start x inv e.key j n.0.0 v n.0.2 (λ o. let own = free_or_own _ w n.1.1 in d (grind arith))
      ]) in
      inv.kept.values.values e.key n.0.0 ∙ ap (λ os. mapped (apply_all k os) (nth x.table e.key)) none ∙ mapped_id (nth x.table e.key)) (ran t) checked.0.covers

  alone_is : serial k w 0 t.entries vs ≡ record { values = applied k w (ran t) vs; answers = t.answers; skipped = t.skipped }
  alone_is = whole k w t vs checked.1 (gives_agrees k w (ran t) vs x.table t.answers t.skipped agree
      (checked.0.agrees (All-weaker _ _ (λ n c. c.0) t.noted (no_conflict s.stamps w t.noted fresh))))

  -- its operations may be done last: on a split record they commute, one that it writes is its own, and on any other it has none
  last : (key : ℕ) → key < sh.keys → (y : M) → apply_all k (gathered k sh (now key) sh.workers) y ≡ apply_all k (ops_on w key (ran t)) (apply_all k (gathered k sh (owed k sh s ops key) sh.workers) y)
  last key low y = elim (cases_Bool (is_split ls key)) [
    | inl h ↦ done (inl h)
    | inr h ↦ elim (cases_Bool (writes ls (ran t) key)) [
      | inl q ↦ done (inr (h, (inv.sound.locks key w (omega (arith, inv.kept.sized.stamps_len))).1 (ap (λ (o : Option Transaction). holds ls o key) held ∙ ap (holds_at ls (ran t) key) checking ∙ q)))
      | inr q ↦
          let z = no_writes w key ls (ran t) h q in
          let g = gathered_same k sh (now key) (owed k sh s ops key) sh.workers (λ j u. let o = owes_now key j in let e = append-nil (owed k sh s ops key w) in grind arith) in
          rw (z, g) refl
    ]
  ]
    where
      others : (j : ℕ) → j < sh.workers → (j ≡ w → ⊥) → owed k sh s ops key j ≡ now key j
      others j u d = let o = owes_now key j in grind arith

      mine : now key w ≡ owed k sh s ops key w ++ ops_on w key (ran t)
      mine = let o = owes_now key w in grind arith

      done : (is_split ls key ≡ true) ⊎ ((is_split ls key ≡ false) × ((stamp_at s.stamps key).owner ≡ Some w))
          → apply_all k (gathered k sh (now key) sh.workers) y ≡ apply_all k (ops_on w key (ran t)) (apply_all k (gathered k sh (owed k sh s ops key) sh.workers) y)
      done own = last_done k laws sh start x inv w inside key low (now key) others own (ops_on w key (ran t)) mine (λ j l f. fits_ran k sh ls w key j l f t 0 hand.ready.1 hand.chosen) y

  pub places_ok : Goes k sh start x w (record { transaction = next; stamps = s.stamps; place = suc s.place; table = x.table; aside = false }) (placing w s.place t None)
  places_ok = moves_row k sh start x w s.ticket (suc s.place) s.stamps row x.table new inv inside refl refl (λ key. refl) (omega arith)
      (past_placed k sh start x.events s.ticket s.place inv.kept.past place refl hand.ready.0 (ap (λ (r : Ran M). r.answers) alone_is) (ap (λ (r : Ran M). r.skipped) alone_is))
      (λ u e. subst (HandOk k sh ls s.stamps x.table (x.events ++ new) w) (same_Some next u e) (record {
        ready = ready_longer k sh x.events new w t hand.ready;
        chosen = hand.chosen;
        placed = λ p h. rw (← same_Some _ p (sym (check_place ls (ran t) (suc s.place) 0) ∙ h)) (length x.events, nth_seam x.events (Placed place));
        stage = check_ok k sh ls s.stamps x.table w next (suc s.place) 0 (λ key l a b. omega (arith, inv.kept.sized.versions key));
      }))
      (All-weaker _ _ (ready_longer k sh x.events new w) (row_at s.rows w).stash (inv.kept.rows w).stash)
      (merged_step k sh s.phase (length s.split) (row_at s.rows w) row t held refl refl (inv.kept.rows w).merged)
      (values_by k sh start x inv w s.ticket (suc s.place) s.stamps row new inside x.table (λ i l. refl) refl (λ key low.
      ap (λ (us : List M). nth us key) (ideal_placed k sh start x.events place ∙ ap (λ (a : Ran M). a.values) alone_is)
      ∙ applied_at k w key (ran t) vs ∙ ap (mapped (apply_all k (ops_on w key (ran t)))) (inv.kept.values.values key low)
      ∙ mapped_mapped _ _ (nth x.table key) ∙ mapped_same _ _ (λ y. sym (last key low y)) (nth x.table key)))
