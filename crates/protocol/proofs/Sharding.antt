-- A placed transaction applies an operation to its worker's own shard.
use Rattle.protocol.proofs.Base.{◌≡◌, refl, sym, ap, ◌∙◌, true, cond, List, [], ◌++◌, append_assoc, ◌⊎◌, inl, inr, ℕ, suc, ◌<◌, arith, eqb, length, All-append, All-weaker, cases_eq, tells, Some, mapped, nth}
use Rattle.protocol.specs.Rules.{Model, Operation, Entry, modify, Merging, SplitItem, Sharding, Transaction, Row, Shape, State, row_at, place_of, at_stage, with_current, ops_of, apply_all, split_in, find_split, is_split, after_writing, shard_at, shard_by, World, Split}
use Rattle.protocol.proofs.Doing.{shared}
use Rattle.protocol.proofs.Finding.{admitted}
use Rattle.protocol.proofs.Frames.{ready_longer, moves, merged_step, Goes}
use Rattle.protocol.proofs.Invariant.{HandOk, pending, owed, ShardOk, Inv, gathered}
use Rattle.protocol.proofs.Operations.{apply_append}
use Rattle.protocol.proofs.Owing.{gathered_same}
use Rattle.protocol.proofs.Past.{past_none}
use Rattle.protocol.proofs.Places.{nth_modify, nth_modify_other, length_modify, nth_taken, drop_one_more, all_nth}
use Rattle.protocol.proofs.Shards.{fits_entry, split_item, values_at}
use Rattle.protocol.proofs.Splits.{split_found, found_at, good_item}
use Rattle.protocol.proofs.Stages.{writing_place, writing_owes, writing_ok, placed_on}
use Rattle.protocol.specs.State.{ran}

module _ {M : Type 0} (k : Model M) (sh : Shape) (start : List M) (x : World M) (inv : Inv k sh start x) (w : ℕ) (inside : w < sh.workers)
    (t : Transaction) (held : (row_at x.state.rows w).current ≡ Some t) (p i : ℕ) (e : Entry) (sharding : t.stage ≡ Sharding p i) (next : nth (ran t) i ≡ Some e) where
  abbrev s : State
  s = x.state

  abbrev ls : List SplitItem
  ls = split_in s.phase s.split

  abbrev row : Row
  row = with_current (row_at s.rows w) (Some (at_stage t (after_writing ls (ran t) p (suc i))))

  abbrev ops : ℕ → ℕ → List Operation
  ops = inv.kept.values.ops

  hand : HandOk k sh ls s.stamps x.table x.events w t
  hand = (inv.kept.rows w).hand t held

  split : is_split ls e.key ≡ true
  split = grind arith

  -- the entry's operation is owed no more
  owes : (key : ℕ) → pending k sh ls w key (row_at s.rows w).current ≡ cond (eqb e.key key) (ops_of w e) [] ++ pending k sh ls w key row.current
  owes key =
      let a = writing_owes k sh ls w key (ran t) p (suc i) in
      let b = drop_one_more (ran t) i e next in
      grind (arith, tells, held, sharding, split)

  -- its record is split, as item j of the list
  module _ (j : ℕ) (l : SplitItem) (found : find_split 0 ls e.key ≡ Some (j, l)) where
    abbrev at : ℕ
    at = shard_at sh.keys w j

    abbrev table : List M
    table = modify at (apply_all k (ops_of w e)) x.table

    key_is : l.key ≡ e.key
    key_is = (found_at ls e.key j l found).1

    item : (nth s.split j ≡ Some l) × ((s.phase ≡ Split) ⊎ (s.phase ≡ Merging))
    item = split_item s.phase s.split j l (found_at ls e.key j l found).0

    elsewhere : (q : ℕ) → (q ≡ at → ⊥) → nth table q ≡ nth x.table q
    elsewhere q = nth_modify_other x.table at q (apply_all k (ops_of w e))

    shard : ShardOk k sh table (ops w l.key ++ ops_of w e) w j l
    shard =
        let before = inv.kept.values.shards (λ h. let q = item.1 in grind arith) w j l inside item.0 in
        let fine = all_nth _ t.entries i e (admitted k sh.keys w t.entries hand.ready.1) (nth_taken t.entries t.done i e next) in
        record {
          base = before.base;
          holds = nth_modify x.table at _ ∙ ap (mapped (apply_all k (ops_of w e))) before.holds ∙ ap Some (sym (apply_append k (ops w l.key) (ops_of w e) _));
          fit = All-append _ (ops w l.key) (ops_of w e) before.fit (fits_entry k sh ls w e.key j l found e refl (all_nth _ (ran t) i e hand.chosen next) fine.1);
        }

    -- all that is owed to the record stays owed
    at_key : (g : ℕ → List Operation) → g w ≡ (ops w l.key ++ ops_of w e) ++ pending k sh ls w l.key row.current → ((v : ℕ) → (v ≡ w → ⊥) → owed k sh s ops l.key v ≡ g v)
        → mapped (apply_all k (gathered k sh (owed k sh s ops l.key) sh.workers)) (nth x.table l.key) ≡ mapped (apply_all k (gathered k sh g sh.workers)) (nth table l.key)
    at_key g own others =
        let same = gathered_same k sh (owed k sh s ops l.key) g sh.workers (λ v u. elim (cases_eq v w) [
          | inl d ↦ let o = owes l.key in let c = key_is in let a = append_assoc (ops w l.key) (ops_of w e) (pending k sh ls w l.key row.current) in rw d (grind (arith, tells))
          | inr d ↦ others v d
        ]) in
        let good = good_item k sh.keys 0 s.split j l inv.kept.sized.split_good item.0 in
        (λ n. mapped (apply_all k (same n)) (sym (elsewhere l.key (λ d. omega (arith, good.inside))) n))

    shard_ok : Goes k sh start x w (shared k sh.keys ls w s.stamps s.place x.table t (at_stage t (after_writing ls (ran t) p (suc i)), table)) []
    shard_ok = moves k sh start x w s.ticket s.place s.stamps row table [] inv inside (record {
      table_len = length_modify x.table at _;
      stamps_len = refl;
      grows = record { up = λ key. omega arith; still = λ key u f h. elsewhere key (λ d. omega arith) };
      versions = inv.kept.sized.versions;
      locked = λ key v d h. refl;
      past = past_none k sh start x.events s.ticket s.place inv.kept.past;
      hand = placed_on k sh ls s.stamps s.stamps x.table table x.events [] w t p _ hand (ap place_of sharding) (writing_place ls (ran t) p (suc i)) (writing_ok k sh ls s.stamps table w t p (suc i));
      stash = All-weaker _ _ (ready_longer k sh x.events [] w) (row_at s.rows w).stash (inv.kept.rows w).stash;
      merged = merged_step k sh s.phase (length s.split) (row_at s.rows w) _ t held refl refl (inv.kept.rows w).merged;
      values = values_at k sh start x inv w inside j l item.0 (rw key_is split) s.stamps row table (ops w l.key ++ ops_of w e) (λ q c d. elsewhere q c) shard
          (λ q n c. let m = (inv.kept.rows w).merged in let h = held in absurd (grind arith))
          (λ key d. let o = owes key in let c = key_is in grind (arith, tells)) at_key;
    })

  pub shards_ok : Goes k sh start x w (shared k sh.keys ls w s.stamps s.place x.table t (shard_by k ls w sh.keys x.table t p i (Some e))) []
  shards_ok = let f = split_found ls e.key split in rw f.2 (shard_ok f.0 f.1 f.2)
