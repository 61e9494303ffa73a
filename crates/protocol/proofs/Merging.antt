-- A worker merges its next shard.
use Rattle.protocol.proofs.Base.{◌≡◌, refl, sym, ap, subst, ◌∙◌, true, false, List, [], ◌++◌, ◌⊎◌, inl, inr, ℕ, suc, ◌<◌, arith, length, All-weaker, get_or_past, nth_getD, cases_eq, Option, Some, None, mapped, nth, none-some}
use Rattle.protocol.specs.Rules.{Model, Laws, Operation, modify, Merging, SplitItem, Stamp, Transaction, Shape, State, Row, row_at, stamp_at, split_in, is_split, apply_all, shard_at, merging, revised, revise, merge_shard, merge_item, World, holds}
use Rattle.protocol.proofs.Commuting.{first_done, merge_all}
use Rattle.protocol.proofs.Frames.{ready_longer, after, moves}
use Rattle.protocol.proofs.Invariant.{MergedOk, pending, owed, gathered, ShardOk, Kept, Inv}
use Rattle.protocol.proofs.Past.{past_none}
use Rattle.protocol.proofs.Places.{nth_modify, nth_modify_other, length_modify, nth_there}
use Rattle.protocol.proofs.Shards.{values_at}
use Rattle.protocol.proofs.Splits.{Good, good_item, good_found}
use Rattle.protocol.proofs.Targets.{writes_unsplit}

-- the version of each record is what it was, or it is the record whose version is revised
revised_at : (ss : List Stamp) (place i key : ℕ) → let ss' = modify i (revised place) ss in
    ((stamp_at ss' key).version ≡ (stamp_at ss key).version) ⊎ ((key ≡ i) × ((stamp_at ss' key).version ≡ place))
revised_at ss place i key = grind (arith, nth_getD, get_or_past, nth_modify, nth_modify_other, length_modify)

-- a record that is held is not split
holds_unsplit : (ls : List SplitItem) (o : Option Transaction) (key : ℕ) → holds ls o key ≡ true → is_split ls key ≡ false
holds_unsplit ls o key h = grind (arith, writes_unsplit)

module _ {M : Type 0} (k : Model M) (laws : Laws k) (sh : Shape) (start : List M) (x : World M) (inv : Inv k sh start x) (w : ℕ) (inside : w < sh.workers) where
  abbrev s : State
  s = x.state

  abbrev row : Row
  row = row_at s.rows w

  module _ (phase : s.phase ≡ Merging) (empty : row.current ≡ None) (l : SplitItem) (there : nth s.split row.merged ≡ Some l) where
    abbrev ls : List SplitItem
    ls = split_in s.phase s.split

    abbrev at : ℕ
    at = shard_at sh.keys w row.merged

    abbrev os : List Operation
    os = inv.kept.values.ops w l.key

    good : Good k sh.keys 0 l
    good = good_item k sh.keys 0 s.split row.merged l inv.kept.sized.split_good there

    split : is_split ls l.key ≡ true
    split = grind (arith, good_found)

    shard : ShardOk k sh x.table os w row.merged l
    shard = inv.kept.values.shards (λ e. grind arith) w row.merged l inside there

    abbrev held : M
    held = apply_all k os ((k.rule l.part l.verb).fresh shard.base)

    -- the table with the shard merged and made fresh
    abbrev table : List M
    table = merge_shard k sh.keys w row.merged l (Some held) x.table

    elsewhere : (p : ℕ) → (p ≡ at → ⊥) → (p ≡ l.key → ⊥) → nth table p ≡ nth x.table p
    elsewhere p c d = nth_modify_other _ at p _ c ∙ nth_modify_other x.table l.key p _ d

    -- what the shard held has been done to the record
    at_key : (g : ℕ → List Operation) → g w ≡ [] ++ pending k sh ls w l.key row.current → ((j : ℕ) → (j ≡ w → ⊥) → owed k sh s inv.kept.values.ops l.key j ≡ g j)
        → mapped (apply_all k (gathered k sh (owed k sh s inv.kept.values.ops l.key) sh.workers)) (nth x.table l.key) ≡ mapped (apply_all k (gathered k sh g sh.workers)) (nth table l.key)
    at_key g own others =
        let v = nth_there x.table l.key (omega (arith, good.inside, inv.kept.sized.table_len)) in
        let a = first_done k laws sh start x inv w inside l.key good.inside g (λ j u. others j) (inl split) os [] (ap (λ o. os ++ pending k sh ls w l.key o) empty) (own ∙ ap (pending k sh ls w l.key) empty) v.0 in
        let m = merge_all k laws sh l good.splits os shard.base v.0 shard.fit in
        let d : l.key ≡ at → ⊥ = λ e. omega (arith, good.inside) in
        rw (nth_modify_other, nth_modify, v.1) (cc)

    pub merges_ok :
        Kept k sh start (after k sh start x w s.ticket s.place (revise s.place (Some l) s.stamps) (merging (suc row.merged) row) (merge_item k sh.keys w row.merged (Some l) x.table) [])
    merges_ok =
        let old = inv.kept in
        let items = subst (λ p. MergedOk k sh p (length s.split) row) phase (old.rows w).merged in
        let version_is = revised_at s.stamps s.place l.key in
        rw shard.holds (moves k sh start x w s.ticket s.place _ _ table [] inv inside (record {
          table_len = length_modify _ at _ ∙ length_modify x.table l.key _;
          stamps_len = length_modify s.stamps l.key _;
          grows = record {
            up = λ key. omega (arith, old.sized.versions key, version_is key);
            still = λ key u free same. elsewhere key (λ e. omega arith) (λ (e : key ≡ l.key). let h = split in grind arith);
          };
          versions = λ key. omega (arith, old.sized.versions key, version_is key);
          locked = λ key j d own. elim (version_is key) [
            | inl c ↦ c
            | inr c ↦
                let h = holds_unsplit ls (row_at s.rows j).current key ((inv.sound.locks key j (omega (arith, good.inside, old.sized.stamps_len))).0 own) in
                let f = split in
                absurd (grind arith)
          ];
          past = past_none k sh start x.events s.ticket s.place old.past;
          hand = λ t e. absurd (none-some t (sym empty ∙ e));
          stash = All-weaker _ _ (ready_longer k sh x.events [] w) row.stash (old.rows w).stash;
          merged = subst (λ p. MergedOk k sh p (length s.split) (merging (suc row.merged) row)) (sym phase) (λ u. empty, λ a. omega (arith, items.1 a));
          values = values_at k sh start x inv w inside row.merged l there split _ (merging (suc row.merged) row) table [] elsewhere
              (record { base = held; holds = nth_modify _ at _ ∙ ap (mapped _) (nth_modify_other x.table l.key at _ (λ e. omega (arith, good.inside)) ∙ shard.holds); fit = tt })
              (λ q n c. elim (cases_eq n row.merged) [ inl e ↦ inl (e, refl) | inr e ↦ inr (e, omega arith) ]) (λ key d. refl) at_key;
        }))
