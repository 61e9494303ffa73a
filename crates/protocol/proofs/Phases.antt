-- Turns that change the phase, and the opening.
use Rattle.protocol.proofs.Base.{◌≡◌, refl, sym, ap, ◌∙◌, Bool, true, false, not, List, [], ◌∷◌, ◌++◌, map, ◌⊎◌, inl, inr, ℕ, ◌+◌, ◌*◌, ◌≤◌, ◌<◌, arith, eqb, length, get_or, replicate, length-replicate, none-some, nth_within, All-weaker, eqb-true, leb-true, false≢true, tells, Some, None, mapped, nth, common_steps, get_or-replicate, get_or_past, mapped_id}
use Rattle.protocol.specs.Rules.{Model, Operation, Phase, Joined, Closing, Split, Merging, SplitItem, Stamp, when, first_of, good_figures, Transaction, Shape, State, Row, idle, row_at, apply_all, split_in, is_split, shard_at, all_acknowledged, acknowledging, merging, next_phase, good_from, good_split, fresh_all, opened, refuse_open, World, may_rest}
use Rattle.protocol.proofs.Frames.{ready_longer, hand_grows}
use Rattle.protocol.proofs.Invariant.{MergedOk, RowOk, pending, owed, ShardOk, Kept, Inv}
use Rattle.protocol.proofs.Owing.{gathered_same, gathered_none}
use Rattle.protocol.proofs.Past.{past_none, ideal_none}
use Rattle.protocol.proofs.Places.{nth_take, nth_there, nth_modify_other, length_modify}
use Rattle.protocol.proofs.Shards.{fresh_keeps, fresh_shard}
use Rattle.protocol.proofs.Soundness.{row_map, each_done, all_empty}
use Rattle.protocol.proofs.Splits.{split_found, found_at}

-- what holds of each of many that are the same, and of what is past them
each_same : {A : Type 0} (P : A → Type 0) (n i : ℕ) (a d : A) → P a → P d → P (get_or (replicate n a) i d)
each_same P n i a d p q = grind (arith, common_steps, get_or-replicate, get_or_past)

-- no test of the opening found anything
fine_figures : (a b : Bool) → first_of (when (not a) (1 ∷ []) ∷ when (not b) (2 ∷ []) ∷ []) ≡ None → (a ≡ true) × (b ≡ true)
fine_figures a b h = grind arith

module _ {M : Type 0} (k : Model M) (sh : Shape) (start : List M) where
  idle_ok : (w : ℕ) → RowOk k sh (opened sh) start [] w idle
  idle_ok w = record { hand = λ t e. absurd (none-some t e); stash = tt; merged = tt }

  -- an engine as it opens
  pub opens_ok : refuse_open k sh start ≡ None → Kept k sh start (record { state = opened sh; table = start; events = [] })
  opens_ok fine =
      let f = fine_figures (good_figures sh.workers sh.keys sh.first) (eqb (length start) (sh.keys + 16 * sh.workers)) fine in
      let first : 1 ≤ sh.first = grind (arith, tells, f.0) in
      record {
        sized = record {
          table_len = eqb-true _ _ f.1;
          stamps_len = length-replicate sh.keys _;
          split_good = refl;
          split_few = omega arith;
          versions = λ key. each_same (λ (st : Stamp). st.version ≤ (opened sh).place) sh.keys key _ _ (omega arith) (omega arith);
        };
        past = record {
          each_ticket = refl;
          each_place = refl;
          last_ticket = omega arith;
          last_place = omega arith;
          as_taken = λ i p h. absurd (none-some _ h);
          as_read = λ i t h. absurd (none-some _ h);
          same_readings = refl;
        };
        rows = λ w. each_same (RowOk k sh (opened sh) start [] w) sh.workers w idle idle (idle_ok w) (idle_ok w);
        values = record {
          ops = λ w key. [];
          unsplit = λ w key u h. refl;
          shards = λ h. absurd (h refl);
          merged = λ h. absurd (grind arith);
          values = λ key u. nth_take start sh.keys key u ∙ sym (mapped_id (nth start key)) ∙ ap (λ os. mapped (apply_all k os) (nth start key)) (sym (gathered_none k sh _ sh.workers
              (λ j v. each_same (λ (r : Row). pending k sh [] j key r.current ≡ []) sh.workers j idle idle refl refl)));
        };
      }

  module _ (x : World M) (inv : Inv k sh start x) where
    abbrev s : State
    s = x.state

    -- the phase, the list and the rows change, and perhaps the table
    abbrev To : Phase → List SplitItem → List Row → List M → Type 0
    To p ls rows table = Kept k sh start (record {
      state = record { ticket = s.ticket; place = s.place; phase = p; split = ls; stamps = s.stamps; rows = rows };
      table = table;
      events = x.events ++ [];
    })

    abbrev split : List SplitItem
    split = split_in s.phase s.split

    abbrev ops : ℕ → ℕ → List Operation
    ops = inv.kept.values.ops

    -- what such a turn has to show: other records are split only where all hands are empty
    record Shifts (p : Phase) (ls : List SplitItem) (rows : List Row) (table : List M) : Type 0 where
      good : (good_from k sh.keys 0 ls ≡ true) × (length ls ≤ 16) × (length table ≡ length x.table)
      records : (key : ℕ) → key < sh.keys → nth table key ≡ nth x.table key
      keeps : (w : ℕ) → ((row_at rows w).current ≡ (row_at s.rows w).current) × ((row_at rows w).stash ≡ (row_at s.rows w).stash)
      hands : (w : ℕ) (t : Transaction) → (row_at s.rows w).current ≡ Some t → split ≡ split_in p ls
      merged : (w : ℕ) → MergedOk k sh p (length ls) (row_at rows w) × (p ≡ Merging → (row_at rows w).merged ≡ 0)
      unsplit : (w key : ℕ) → w < sh.workers → is_split (split_in p ls) key ≡ false → ops w key ≡ []
      shards : (p ≡ Joined → ⊥) → (w i : ℕ) (l : SplitItem) → w < sh.workers → nth ls i ≡ Some l → ShardOk k sh table (ops w l.key) w i l

    shifts : (p : Phase) (ls : List SplitItem) (rows : List Row) (table : List M) → Shifts p ls rows table → To p ls rows table
    shifts p ls rows table m =
        let old = inv.kept in
        let owes : (key j : ℕ) → pending k sh split j key (row_at s.rows j).current ≡ pending k sh (split_in p ls) j key (row_at rows j).current =
        λ key j. grind (arith, m.keeps j, m.hands j) in
        record {
          sized = record { table_len = m.good.2 ∙ old.sized.table_len; stamps_len = old.sized.stamps_len; split_good = m.good.0; split_few = m.good.1; versions = old.sized.versions };
          past = past_none k sh start x.events s.ticket s.place old.past;
          rows = λ w. record {
            hand = λ t e.
                let c = sym (m.keeps w).0 ∙ e in
                rw (← m.hands w t c) (hand_grows k sh split s.stamps s.stamps x.table table
                (record { up = λ key. omega arith; still = λ key u f e. m.records key u }) w t x.events [] (λ key u h. refl) ((old.rows w).hand t c));
            stash = rw (m.keeps w).1 (All-weaker _ _ (ready_longer k sh x.events [] w) (row_at s.rows w).stash (old.rows w).stash);
            merged = (m.merged w).0;
          };
          values = record {
            ops = ops;
            unsplit = m.unsplit;
            shards = m.shards;
            merged = λ h w i l u n c. let z = (m.merged w).1 h in absurd (omega arith);
            values = λ key u.
                let g = gathered_same k sh (owed k sh s ops key) _ sh.workers (λ j v. ap (λ os. ops j key ++ os) (owes key j)) in
                ap (λ (us : List M). nth us key) (ideal_none k sh start x.events) ∙ old.values.values key u ∙ (λ n. mapped (apply_all k (g n)) (sym (m.records key u) n));
          };
        }

    -- what is known of a row's merged shards in a phase
    merged_in : (p : Phase) → s.phase ≡ p → (w : ℕ) → MergedOk k sh p (length s.split) (row_at s.rows w)
    merged_in p phase w = grind arith

    pub splits_ok : (ls : List SplitItem) → s.phase ≡ Joined → good_split k sh.keys ls ≡ true → To Closing ls (map (merging 0) s.rows) (fresh_all k sh.keys sh.workers ls x.table)
    splits_ok ls phase good =
        let few = leb-true (length ls) 16 (grind arith) in
        let none = λ (w key : ℕ) (u : w < sh.workers). inv.kept.values.unsplit w key u (ap (λ p. is_split (split_in p s.split) key) phase) in
        let row = row_map (merging 0) refl s.rows in
        shifts Closing ls (map (merging 0) s.rows) (fresh_all k sh.keys sh.workers ls x.table) (record {
          good = (grind arith, few, fresh_keeps k sh.keys (λ us. length us ≡ length x.table) sh.workers ls x.table (λ w j l us a b e. length_modify us _ _ ∙ e) refl);
          records = λ key u. fresh_keeps k sh.keys (λ us. nth us key ≡ nth x.table key) sh.workers ls x.table (λ w j l us a b e. nth_modify_other us _ key _ (λ c. omega arith) ∙ e) refl;
          keeps = λ w. rw (row w) (refl, refl);
          hands = λ w t e. ap (λ p. split_in p s.split) phase;
          merged = λ w. (ap (λ (r : Row). r.merged) (row w), λ h. absurd (grind arith));
          unsplit = λ w key u h. none w key u;
          shards = λ h w i l u n.
              let b = nth_there x.table (shard_at sh.keys w i) (omega (arith, nth_within ls i l n, inv.kept.sized.table_len)) in
              rw (none w l.key u) (record { base = b.0; holds = fresh_shard k sh.keys sh.workers ls x.table w i l b.0 few u n b.1; fit = tt });
        })

    pub merging_ok : s.phase ≡ Split → To Merging s.split s.rows x.table
    merging_ok phase = shifts Merging s.split s.rows x.table (record {
      good = (inv.kept.sized.split_good, inv.kept.sized.split_few, refl);
      records = λ key u. refl;
      keeps = λ w. (refl, refl);
      hands = λ w t e. ap (λ p. split_in p s.split) phase;
      merged = λ w.
          let z = merged_in Split phase w in
          ((λ a. absurd (omega arith), λ a. absurd (false≢true (ap (λ p. may_rest p (row_at s.rows w)) (sym phase) ∙ inv.sound.resting w a))), λ h. z);
      unsplit = λ w key u h. inv.kept.values.unsplit w key u (ap (λ p. is_split (split_in p s.split) key) phase ∙ h);
      shards = λ h. inv.kept.values.shards (λ e. grind arith);
    })

    pub releases_ok : (p : Phase) → s.phase ≡ p → (p ≡ Closing) ⊎ (p ≡ Merging) → all_acknowledged s.rows ≡ true → To (next_phase p) s.split (map (acknowledging false) s.rows) x.table
    releases_ok p phase either done = shifts (next_phase p) s.split (map (acknowledging false) s.rows) x.table (record {
      good = (inv.kept.sized.split_good, inv.kept.sized.split_few, refl);
      records = λ key u. refl;
      keeps = λ w. rw (row_map (acknowledging false) refl s.rows w) (refl, refl);
      hands = λ w t e. absurd (none-some t (sym (all_empty sh s inv.sound done w) ∙ e));
      merged = λ w. elim either [
        | inl e ↦ rw e (ap (λ (r : Row). r.merged) (row_map (acknowledging false) refl s.rows w) ∙ merged_in Closing (phase ∙ e) w, λ h. absurd (grind arith))
        | inr e ↦ rw e (tt, λ h. absurd (grind arith))
      ];
      unsplit = λ w key u h. none w key u;
      shards = λ h. inv.kept.values.shards (λ e. grind arith);
    })
      where
        -- a key that is split has been merged by all
        none : (w key : ℕ) → w < sh.workers → ops w key ≡ []
        none w key u = grind (arith, split_found, found_at, each_done, nth_within)
