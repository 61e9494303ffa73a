-- A placed transaction writes a record.
use Rattle.protocol.proofs.Base.{◌≡◌, refl, sym, ap, subst, ◌∙◌, Bool, true, false, cond, ◌||◌, List, [], ◌++◌, append-nil, ◌⊎◌, inl, inr, ℕ, suc, ◌≤◌, ◌<◌, arith, leb, length, All-weaker, All-take, cases_eq, and_from, le-leb, tells, Option, Some, mapped, nth}
use Rattle.protocol.specs.Rules.{Model, Laws, Operation, modify, SplitItem, Writing, Stamp, Transaction, Row, Shape, State, row_at, stamp_at, place_of, at_stage, with_current, ops_on, apply_all, split_in, is_split, after_check, stamped, write, World, writes, holds_at, holds, aims_at, aims}
use Rattle.protocol.proofs.Commuting.{first_done}
use Rattle.protocol.proofs.Doing.{wrote}
use Rattle.protocol.proofs.Finding.{admitted}
use Rattle.protocol.proofs.Frames.{ready_longer, after, moves, merged_step, Goes}
use Rattle.protocol.proofs.Invariant.{StageOk, HandOk, pending_at, pending, owed, gathered, Inv}
use Rattle.protocol.proofs.Owing.{owes_then, values_by, owes_still}
use Rattle.protocol.proofs.Past.{ideal_none, past_none, placed_low}
use Rattle.protocol.proofs.Places.{nth_modify, nth_modify_other, length_modify, get_or_modify, get_or_modify_other, mapped_mapped, mapped_same}
use Rattle.protocol.proofs.Stages.{check_place, check_owes, check_ok, placed_on}
use Rattle.protocol.proofs.Targets.{writes_unsplit, writes_key}
use Rattle.protocol.specs.State.{ran}

module _ {M : Type 0} (k : Model M) (laws : Laws k) (sh : Shape) (start : List M) (x : World M) (inv : Inv k sh start x) (w : ℕ) (inside : w < sh.workers)
    (t : Transaction) (held : (row_at x.state.rows w).current ≡ Some t) (p c : ℕ) (writing : t.stage ≡ Writing p c) where
  abbrev s : State
  s = x.state

  abbrev ls : List SplitItem
  ls = split_in s.phase s.split

  -- the stamps, the table and the row behind the write
  abbrev ss : List Stamp
  ss = modify c (stamped p) s.stamps

  abbrev os : List Operation
  os = ops_on w c (ran t)

  abbrev table : List M
  table = modify c (apply_all k os) x.table

  abbrev next : Transaction
  next = at_stage t (after_check ls (ran t) p (suc c))

  abbrev row : Row
  row = with_current (row_at s.rows w) (Some next)

  abbrev ops : ℕ → ℕ → List Operation
  ops = inv.kept.values.ops

  abbrev now : ℕ → ℕ → List Operation
  now key = owed k sh (after k sh start x w s.ticket s.place ss row table []).state ops key

  hand : HandOk k sh ls s.stamps x.table x.events w t
  hand = (inv.kept.rows w).hand t held

  -- the record is the transaction's own, and older than its place
  written : writes ls (ran t) c ≡ true
  written = ap (aims_at ls (ran t)) (sym writing) ∙ ap (aims ls) (sym held) ∙ inv.sound.aims w

  low : c < sh.keys
  low = writes_key ls (λ i. i < sh.keys) (ran t) c (All-take _ t.done t.entries (All-weaker _ _ (λ e h. h.0) t.entries (admitted k sh.keys w t.entries hand.ready.1))) written

  unsplit : is_split ls c ≡ false
  unsplit = writes_unsplit ls (ran t) c written

  own : (stamp_at s.stamps c).owner ≡ Some w
  own = (inv.sound.locks c w (omega (arith, low, inv.kept.sized.stamps_len))).1
      (ap (λ (o : Option Transaction). holds ls o c) held ∙ ap (holds_at ls (ran t) c) writing ∙ and_from (writes ls (ran t) c) (leb c c) written (le-leb c c (omega arith)))

  older : (key : ℕ) → key < sh.keys → writes ls (ran t) key ≡ true → c ≤ key → (stamp_at s.stamps key).version < p
  older = subst (StageOk k sh ls s.stamps x.table w t) writing hand.stage

  -- the version of each record is what it was, or it is the record that is written
  version_is : (key : ℕ) → ((key ≡ c) × ((stamp_at ss key).version ≡ p) × ((stamp_at s.stamps key).version < p)) ⊎ ((key ≡ c → ⊥) × ((stamp_at ss key).version ≡ (stamp_at s.stamps key).version))
  version_is key = grind (arith, get_or_modify, low, get_or_modify_other)

  -- what is owed stays, but for the record itself, where it is done
  owes : (key : ℕ) → (key ≡ c → ⊥) → pending k sh ls w key (Some next) ≡ pending k sh ls w key (row_at s.rows w).current
  owes key d = check_owes k sh ls w key (ran t) p (suc c) ∙ ap (λ (b : Bool). cond (is_split ls key || b) (ops_on w key (ran t)) []) (grind (arith, tells))
      ∙ sym (ap (pending k sh ls w key) held ∙ ap (pending_at k sh ls w key (ran t)) writing)

  own_before : owed k sh s ops c w ≡ os ++ []
  own_before = grind (arith, unsplit, append-nil)

  at_key : mapped (apply_all k (gathered k sh (owed k sh s ops c) sh.workers)) (nth x.table c) ≡ mapped (apply_all k (gathered k sh (now c) sh.workers)) (nth table c)
  at_key =
      let then = owes_then k sh start x inv w s.ticket s.place ss row [] inside ops c (λ j d. refl) in
      let none : now c w ≡ [] =
      (let a = inv.kept.values.unsplit w c inside unsplit in let b = check_owes k sh ls w c (ran t) p (suc c) in let u = unsplit in let o = then w in grind (arith, tells)) in
      mapped_same _ _ (first_done k laws sh start x inv w inside c low (now c) (λ j u d. let o = then j in grind arith) (inr (unsplit, own)) os [] own_before none) (nth x.table c)
      ∙ sym (mapped_mapped _ _ (nth x.table c)) ∙ ap (mapped (apply_all k (gathered k sh (now c) sh.workers))) (sym (nth_modify x.table c (apply_all k os)))

  pub writes_ok : Goes k sh start x w (wrote k sh.keys ls w s.stamps s.place x.table t (write k ls w s.stamps x.table t p c)) []
  writes_ok = moves k sh start x w s.ticket s.place ss row table [] inv inside (record {
    table_len = length_modify x.table c _;
    stamps_len = length_modify s.stamps c _;
    grows = record { up = λ key. omega (arith, version_is key); still = λ key l f e. nth_modify_other x.table c key _ (λ d. let v = version_is key in grind arith) };
    versions = λ key. omega (arith, version_is key, placed_low k sh start x.events s.ticket s.place inv.kept.past w t p (hand.placed p (ap place_of writing)), inv.kept.sized.versions key);
    locked = λ key j d e. let v = version_is key in let o = own in grind arith;
    past = past_none k sh start x.events s.ticket s.place inv.kept.past;
    hand = placed_on k sh ls s.stamps ss x.table table x.events [] w t p _ hand (ap place_of writing) (check_place ls (ran t) p (suc c))
        (check_ok k sh ls ss table w t p (suc c) (λ key l h g. omega (arith, version_is key, older key l h (omega arith))));
    stash = All-weaker _ _ (ready_longer k sh x.events [] w) (row_at s.rows w).stash (inv.kept.rows w).stash;
    merged = merged_step k sh s.phase (length s.split) (row_at s.rows w) _ t held refl refl (inv.kept.rows w).merged;
    values = values_by k sh start x inv w s.ticket s.place ss row [] inside table (λ i l. nth_modify_other x.table c i _ (λ (e : i ≡ c). omega (arith, low))) refl (λ key l.
        ap (λ (us : List M). nth us key) (ideal_none k sh start x.events) ∙ inv.kept.values.values key l ∙ elim (cases_eq key c) [
          | inl e ↦ rw e at_key
          | inr d ↦
              let same = owes_still k sh start x inv w s.ticket s.place ss row [] inside key (owes key d) in
              (λ i. mapped (apply_all k (sym same i)) (sym (nth_modify_other x.table c key (apply_all k os) d) i))
        ]);
  })
