-- Who owns which record: what each stage holds, and what a step locks and frees.
use Rattle.protocol.proofs.Base.{◌≡◌, refl, Bool, true, ◌&&◌, List, ℕ, suc, ◌<◌, arith, leb, ltb, length, get_or-map, length-map, tells, Option, Some, None}
use Rattle.protocol.specs.Rules.{Model, Entry, modify, SplitItem, Stage, Running, Stamp, Transaction, Row, stamp_at, at_stage, after_running, after_check, owned_by, lock_for, free_own, stamped, one_more, settled, Moved, put_aside, put_back, Event, writes, holds_at, holds, aims_at, aims}
use Rattle.protocol.proofs.Doing.{Does, rests, reads, strays_off, clashes, locks, places, writes_on, shards}
use Rattle.protocol.proofs.Places.{length_modify, get_or_modify, get_or_modify_other}
use Rattle.protocol.proofs.Targets.{next_key}
use Rattle.protocol.specs.State.{ran}

-- ---- what the next stage holds

module _ (ls : List SplitItem) (es : List Entry) where
  -- at this stage the keys of a test are held, and the next key is one that is written
  abbrev Holds : Stage → (ℕ → Bool) → Type 0
  Holds g test = (aims_at ls es g ≡ true) × ((key : ℕ) → holds_at ls es key g ≡ test key)

  -- where locking goes on from a key, those below it are held
  after_running_holds : (from : ℕ) → Holds (after_running ls es from) (λ key. writes ls es key && ltb key from)
  after_running_holds from = let n = next_key ls from es in (grind arith, λ key. grind (arith, tells))

  -- where writing goes on from a key, it and those above it are held
  after_check_holds : (place from : ℕ) → Holds (after_check ls es place from) (λ key. writes ls es key && leb from key)
  after_check_holds place from = let n = next_key ls from es in (grind arith, λ key. grind (arith, tells))

-- ---- what a turn of worker w leaves locked

module _ (ls : List SplitItem) (w : ℕ) (ss : List Stamp) where
  -- a record is the worker's own where its hand holds it, and to the others as it was
  abbrev OwnerOk : Option Transaction → ℕ → Option ℕ → Type 0
  OwnerOk h key o = (owned_by o w ≡ holds ls h key) × ((j : ℕ) → (j ≡ w → ⊥) → owned_by o j ≡ owned_by (stamp_at ss key).owner j)

  pub record Owns (ss' : List Stamp) (h : Option Transaction) : Type 0 where
    pub same_length : length ss' ≡ length ss
    pub owners : (key : ℕ) → key < length ss → OwnerOk h key (stamp_at ss' key).owner
    pub aimed : aims ls h ≡ true

  -- the stamps stay, and so does what is held
  pub still : (old new : Option Transaction) → ((key : ℕ) → key < length ss → owned_by (stamp_at ss key).owner w ≡ holds ls old key)
      → ((key : ℕ) → holds ls new key ≡ holds ls old key) → aims ls new ≡ true → Owns ss new
  still old new held same a = grind arith

  -- one stamp changes
  pub one_owner : (key : ℕ) (f : Stamp → Stamp) (h : Option Transaction) → aims ls h ≡ true → (key < length ss → OwnerOk h key (f (stamp_at ss key)).owner)
      → ((other : ℕ) → other < length ss → (other ≡ key → ⊥) → owned_by (stamp_at ss other).owner w ≡ holds ls h other) → Owns (modify key f ss) h
  one_owner key f h a here there = record { same_length = length_modify ss key f; owners = λ other l. grind (arith, get_or_modify, get_or_modify_other); aimed = a }

-- a step of a hand that holds what the worker owns
module _ {M : Type 0} (k : Model M) (keys : ℕ) (ls : List SplitItem) (w : ℕ) (ss : List Stamp) (place : ℕ) (table : List M) (t : Transaction)
    (held : (key : ℕ) → key < length ss → owned_by (stamp_at ss key).owner w ≡ holds_at ls (ran t) key t.stage) (aimed : aims_at ls (ran t) t.stage ≡ true) where
  stays : (new : Option Transaction) → ((key : ℕ) → holds ls new key ≡ holds_at ls (ran t) key t.stage) → aims ls new ≡ true → Owns ls w ss ss new
  stays new same a = still ls w ss (Some t) new held same a

  settles : t.stage ≡ Running → (u : Transaction) → u.stage ≡ Running → Owns ls w ss ss (Some (settled ls u))
  settles g u f = let a = after_running_holds ls (ran u) 0 in stays (Some (settled ls u)) (λ key. grind (arith, tells, a.1 key)) (grind arith)

  pub step_owns : {m : Moved M} {new : List Event} (r : Row) → Does k keys ls w ss place table t m new → Owns ls w ss m.stamps (put_back r m).1.current
  step_owns r rests = stays (Some t) (λ key. refl) aimed
  step_owns r (reads e g next fits free) = settles g (one_more t _ _ _) refl
  step_owns r (strays_off g) = stays (put_aside r t).1.current (λ key. grind arith) (grind arith)
  step_owns r (clashes key g) = record {
    same_length = length-map ss (free_own w);
    owners = λ key l.
        let d : Stamp = record { version = 0; owner = None } in
        rw (get_or-map (free_own w) ss key d d l) (grind (arith, tells), λ j n. grind (arith, tells));
    aimed = refl;
  }
  step_owns r (locks key g free) =
      let a = after_running_holds ls (ran t) (suc key) in
      one_owner ls w ss key (lock_for w) (Some (at_stage t (after_running ls (ran t) (suc key)))) a.0
      (λ l. (grind (arith, tells, a.1 key), λ j d. grind (arith, tells))) (λ other l n. grind (arith, tells, a.1 other, held other l))
  step_owns r (places g fresh) =
      let a = after_check_holds ls (ran t) (suc place) 0 in
      stays (Some (at_stage t (after_check ls (ran t) (suc place) 0))) (λ key. grind (arith, tells, a.1 key)) a.0
  step_owns r (writes_on p key g) =
      let a = after_check_holds ls (ran t) p (suc key) in
      one_owner ls w ss key (stamped p) (Some (at_stage t (after_check ls (ran t) p (suc key)))) a.0
      (λ l. (grind (arith, tells, a.1 key), λ j d. grind (arith, tells, held key l))) (λ other l n. grind (arith, tells, a.1 other, held other l))
  step_owns r (shards p i e g there) = grind arith
