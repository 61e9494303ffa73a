-- The operations of entries on one key, and what they make of its value.
use Rattle.protocol.proofs.Base.{◌≡◌, refl, sym, true, false, cond, List, [], ◌∷◌, ◌++◌, append_assoc, ℕ, arith, eqb, length, take, drop, take-append-drop, nth_drop, drop-drop, Option, Some, None, mapped, AllByRecursion, nth, mapped_id}
use Rattle.protocol.specs.Rules.{Model, Operation, Action, Entry, applied, after, SplitItem, action_ops, ops_on, apply_all, is_split, sharded, next_shard, writes}
use Rattle.protocol.proofs.Finding.{found, not_found}
use Rattle.protocol.proofs.Places.{nth_modify, nth_modify_other, length_modify}

module _ (w key : ℕ) where
  pub ops_on_append : (es fs : List Entry) → ops_on w key (es ++ fs) ≡ ops_on w key es ++ ops_on w key fs
  ops_on_append [] fs = refl
  ops_on_append (e ∷ es) fs = grind (arith, ops_on_append es, append_assoc)

  module _ (ls : List SplitItem) where
    -- a key that is not split and that no entry writes has no operation
    pub no_writes : (es : List Entry) → is_split ls key ≡ false → writes ls es key ≡ false → ops_on w key es ≡ []
    no_writes [] s h = refl
    no_writes (e ∷ es) s h = grind (arith, no_writes es)

    -- entries with no operation on any split key
    no_shards : (es : List Entry) → is_split ls key ≡ true → AllByRecursion (λ e. sharded ls e ≡ false) es → ops_on w key es ≡ []
    no_shards [] s h = refl
    no_shards (e ∷ es) s h = grind (arith, no_shards es s h.1)

    -- what is said of the next entry with an operation on a split key, from a number on
    abbrev pub NextShard : List Entry → ℕ → Option ℕ → Type 0
    NextShard es from None = ops_on w key (drop from es) ≡ []
    NextShard es from (Some j) = ops_on w key (drop from es) ≡ ops_on w key (drop j es)

    pub next_ops : (es : List Entry) (from : ℕ) → is_split ls key ≡ true → NextShard es from (next_shard ls from es)
    next_ops es from s = go (next_shard ls from es) refl
      where
        go : (o : Option ℕ) → next_shard ls from es ≡ o → NextShard es from o
        go None h = no_shards (drop from es) s (not_found (sharded ls) from (drop from es) h)
        go (Some j) h =
            let f = found (sharded ls) from (drop from es) j h in
            let n = no_shards (take f.number (drop from es)) s f.before in
            grind (arith, ops_on_append, take-append-drop f.number (drop from es), drop-drop f.number from es)

-- the next entry with an operation on a split key is one
pub next_sharded : (ls : List SplitItem) (es : List Entry) (from j : ℕ) → next_shard ls from es ≡ Some j → (e : Entry) × (nth es j ≡ Some e) × (sharded ls e ≡ true)
next_sharded ls es from j h = let f = found (sharded ls) from (drop from es) j h in (f.entry, grind (arith, nth_drop), f.passes)

module _ {M : Type 0} (k : Model M) where
  pub apply_append : (os ps : List Operation) (x : M) → apply_all k (os ++ ps) x ≡ apply_all k ps (apply_all k os x)
  apply_append [] ps x = refl
  apply_append (o ∷ os) ps x = apply_append os ps ((k.rule o.part o.verb).apply o.argument x)

  -- operations on what others left
  pub mapped_append : (os ps : List Operation) (o : Option M) → mapped (apply_all k ps) (mapped (apply_all k os) o) ≡ mapped (apply_all k (os ++ ps)) o
  mapped_append os ps o = grind (arith, apply_append)

  module _ (w key : ℕ) where
    after_at : (e : Entry) (a : Action) (vs : List M) → nth (after k w e a vs) key ≡ mapped (apply_all k (cond (eqb e.key key) (action_ops w e.part a) [])) (nth vs key)
    after_at e a vs = grind (arith, nth_modify, nth_modify_other)

    -- each value has had its own operations
    pub applied_at : (es : List Entry) (vs : List M) → nth (applied k w es vs) key ≡ mapped (apply_all k (ops_on w key es)) (nth vs key)
    applied_at [] vs = sym (mapped_id (nth vs key))
    applied_at (e ∷ es) vs = grind (arith, applied_at es, after_at, mapped_append)

  pub length_applied : (w : ℕ) (es : List Entry) (vs : List M) → length (applied k w es vs) ≡ length vs
  length_applied w [] vs = refl
  length_applied w (e ∷ es) vs = grind (arith, length_applied w es, length_modify)
