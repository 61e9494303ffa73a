-- What is pending at the stage that comes next, and what is so there.
use Rattle.protocol.proofs.Base.{◌++◌, ◌≡◌, ◌∙◌, true, cond, ◌||◌, List, [], ℕ, ◌≤◌, ◌<◌, arith, leb, drop, tells, Option, Some, None}
use Rattle.protocol.specs.Rules.{Event, at_stage, Model, Entry, SplitItem, Stage, Stamp, Transaction, Shape, stamp_at, place_of, ops_on, is_split, next_target, next_shard, or_stage, after_writing, after_check, writes}
use Rattle.protocol.proofs.Places.{nth_longer}
use Rattle.protocol.proofs.Invariant.{HandOk, StageOk, pending_at}
use Rattle.protocol.proofs.Operations.{no_writes, NextShard, next_ops, next_sharded}
use Rattle.protocol.proofs.Targets.{Next, next_key}
use Rattle.protocol.specs.State.{ran}

-- what holds of the stage that comes next, by what is known of the next key or entry
or_both : {A : Type 0} (Q : Option A → Type 0) (P : Stage → Type 0) (f : A → Stage) (g : Stage) → ((a : A) → Q (Some a) → P (f a)) → (Q None → P g) → (o : Option A) → Q o → P (or_stage o f g)
or_both Q P f g some none o q = grind arith

-- whatever comes behind the check, the transaction has its place
module _ (ls : List SplitItem) (es : List Entry) (p from : ℕ) where
  pub writing_place : place_of (after_writing ls es p from) ≡ Some p
  writing_place = grind arith

  pub check_place : place_of (after_check ls es p from) ≡ Some p
  check_place = grind arith

module _ {M : Type 0} (k : Model M) (sh : Shape) (ls : List SplitItem) where
  module _ (w key : ℕ) (es : List Entry) (p : ℕ) where
    -- behind the writing the operations on split records are owed, from an entry on
    pub writing_owes : (from : ℕ) → pending_at k sh ls w key es (after_writing ls es p from) ≡ cond (is_split ls key) (ops_on w key (drop from es)) []
    writing_owes from =
        or_both (λ o. is_split ls key ≡ true → NextShard w key ls es from o) (λ g. pending_at k sh ls w key es g ≡ cond (is_split ls key) (ops_on w key (drop from es)) []) _ _
        (λ j h. grind (arith, h)) (λ h. grind (arith, h)) (next_shard ls from es) (next_ops w key ls es from)

    -- behind the check these, and all on records that are not split, from a key on
    pub check_owes : (from : ℕ) → pending_at k sh ls w key es (after_check ls es p from) ≡ cond (is_split ls key || leb from key) (ops_on w key es) []
    check_owes from =
        or_both (Next ls es from) (λ g. pending_at k sh ls w key es g ≡ cond (is_split ls key || leb from key) (ops_on w key es) []) _ _
        (λ c n. grind (arith, tells, n.1, n.2 key, no_writes w key ls es))
        (λ n. writing_owes 0 ∙ grind (arith, tells, n key, no_writes w key ls es)) (next_target ls from es) (next_key ls from es)

  -- what is so behind the writing, and behind the check if what is to be written has lower versions
  module _ (ss : List Stamp) (table : List M) (w : ℕ) (t : Transaction) (p : ℕ) where
    pub writing_ok : (from : ℕ) → StageOk k sh ls ss table w t (after_writing ls (ran t) p from)
    writing_ok from = grind (arith, next_sharded)

    pub check_ok : (from : ℕ) → ((key : ℕ) → key < sh.keys → writes ls (ran t) key ≡ true → from ≤ key → (stamp_at ss key).version < p) → StageOk k sh ls ss table w t (after_check ls (ran t) p from)
    check_ok from low = grind (arith, writing_ok, next_key)

  -- a transaction that has its place goes on
  pub placed_on : (ss ss' : List Stamp) (table table' : List M) (es new : List Event) (w : ℕ) (t : Transaction) (p : ℕ) (g : Stage) → HandOk k sh ls ss table es w t → place_of t.stage ≡ Some p → place_of g ≡ Some p
      → StageOk k sh ls ss' table' w t g → (u : Transaction) → Some (at_stage t g) ≡ Some u → HandOk k sh ls ss' table' (es ++ new) w u
  placed_on ss ss' table table' es new w t p g hand was is ok u e = grind (arith, nth_longer)
