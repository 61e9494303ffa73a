-- Every turn of every run keeps the invariant.
use Rattle.protocol.proofs.Base.{◌≡◌, refl, sym, subst, ◌∙◌, true, List, [], ◌++◌, append-nil, ℕ, ◌<◌, ◌^◌, arith, false≢true, Option, Some, None, Result, common_steps, rules, tells}
use Rattle.protocol.specs.Rules.{Model, Laws, ReadAs, Entry, SplitItem, first_of, Transaction, Shape, State, row_at, split_in, Moved, step_row, Call, Take, Draw, Step, Acknowledge, Merge, Collect, AnnounceSplit, AnnounceMerging, Release, Event, Made, Refused, runs, refuse_open, tests, merges, makes, turn_by, turn, World, Lawful, Runs, opens, refuses, Unchanged}
use Rattle.protocol.proofs.Allowed.{allowed}
use Rattle.protocol.proofs.Committing.{places_ok}
use Rattle.protocol.proofs.Doing.{Does, rests, reads, strays_off, clashes, locks, places, writes_on, shards, does}
use Rattle.protocol.proofs.Frames.{after, Goes}
use Rattle.protocol.proofs.Hands.{takes_ok, draws_ok, collects_ok, acknowledges_ok}
use Rattle.protocol.proofs.Invariant.{Kept, Inv}
use Rattle.protocol.proofs.Merging.{merges_ok}
use Rattle.protocol.proofs.Past.{weight_append}
use Rattle.protocol.proofs.Phases.{opens_ok, splits_ok, merging_ok, releases_ok}
use Rattle.protocol.proofs.Places.{nth_there}
use Rattle.protocol.proofs.Running.{rests_ok, reads_ok, strays_ok, clashes_ok, locks_ok}
use Rattle.protocol.proofs.Sharding.{shards_ok}
use Rattle.protocol.proofs.Soundness.{idle_weigh, opened_sound, weighs, turn_sound}
use Rattle.protocol.proofs.Writing.{writes_ok}
use Rattle.protocol.specs.Runs.{makes as goes_on}
use Rattle.protocol.specs.Turns.{placings, takes}

-- a refused turn changes nothing
module _ {M : Type 0} (k : Model M) (sh : Shape) (s : State) (lent : List M) (code : List ℕ) where
  pub unchanged : (c : Call) → (turn k sh s lent c).answer ≡ Refused code → Unchanged k sh s lent c
  unchanged c h = grind arith

module _ {M : Type 0} (k : Model M) (laws : Laws k) (sh : Shape) (start : List M) where
  -- the world after what a turn made
  abbrev then : World M → Made M → World M
  then x m = record { state = m.state; table = m.table; events = x.events ++ m.events }

  module _ (x : World M) (inv : Inv k sh start x) where
    abbrev s : State
    s = x.state

    abbrev Fine : Made M → Type 0
    Fine m = Kept k sh start (then x m)

    -- a step does one of eight things
    step_fine : (w : ℕ) → w < sh.workers → (t : Transaction) → (row_at s.rows w).current ≡ Some t → (m : Moved M) (new : List Event)
        → Does k sh.keys (split_in s.phase s.split) w s.stamps s.place x.table t m new → Goes k sh start x w m new
    step_fine w l t h m new rests = rests_ok k sh start x inv w l t h
    step_fine w l t h m new (reads e a b c d) = reads_ok k sh start x inv w l t h e a b c
    step_fine w l t h m new (strays_off a) = strays_ok k sh start x inv w l t h a
    step_fine w l t h m new (clashes key a) = clashes_ok k sh start x inv w l t h key a
    step_fine w l t h m new (locks key a b) = locks_ok k sh start x inv w l t h key a
    step_fine w l t h m new (places a b) = places_ok k laws sh start x inv w l t h a b
    step_fine w l t h m new (writes_on p key a) = writes_ok k laws sh start x inv w l t h p key a
    step_fine w l t h m new (shards p i e a b) = shards_ok k sh start x inv w l t h p i e a b

    hand_fine : (w : ℕ) → w < sh.workers → (o : Option Transaction) → (row_at s.rows w).current ≡ o → runs o ≡ true
        → let m = step_row k sh.keys (split_in s.phase s.split) w (row_at s.rows w) s.stamps s.place x.table o in
        Kept k sh start (after k sh start x w s.ticket m.place m.stamps m.row m.table (placings w s.stamps s.place o))
    hand_fine w l None h r = absurd (false≢true r)
    hand_fine w l (Some t) h r = step_fine w l t h _ _ (does k sh.keys (split_in s.phase s.split) w s.stamps s.place x.table t)

    makes_fine : (c : Call) → Lawful c → first_of (tests k sh s x.table c) ≡ None → Fine (makes k sh s x.table c)
    makes_fine (Take w text q) read h =
        let a = allowed k sh s x.table (Take w text q) h in
        let r = a.4 in
        subst (λ (p : Result (List Entry) (List ℕ)). Fine (takes k sh s x.table w text p)) (sym r.1)
        (takes_ok k sh start x inv w a.0 text r.0 a.2 a.1 r.2 (subst (ReadAs text) r.1 read))
    makes_fine (Draw w) _ h = let a = allowed k sh s x.table (Draw w) h in draws_ok k sh start x inv w a.0 a.2 a.1
    makes_fine (Step w) _ h = let a = allowed k sh s x.table (Step w) h in hand_fine w a.0 (row_at s.rows w).current refl a.1
    makes_fine (Acknowledge w) _ h = let a = allowed k sh s x.table (Acknowledge w) h in acknowledges_ok k sh start x inv w a.0 a.2 a.3
    makes_fine (Merge w) _ h =
        let a = allowed k sh s x.table (Merge w) h in
        let l = nth_there s.split (row_at s.rows w).merged a.3 in
        subst (λ (o : Option SplitItem). Fine (merges k sh s x.table w (row_at s.rows w).merged o)) (sym l.1) (merges_ok k laws sh start x inv w a.0 a.1 a.2 l.0 l.1)
    makes_fine (Collect w ticket buffer) _ h = grind (arith, tells, collects_ok)
    makes_fine (AnnounceSplit ls) _ h = let a = allowed k sh s x.table (AnnounceSplit ls) h in splits_ok k sh start x inv ls a.0 a.1
    makes_fine AnnounceMerging _ h = merging_ok k sh start x inv (allowed k sh s x.table AnnounceMerging h)
    makes_fine (Release p) _ h = let a = allowed k sh s x.table (Release p) h in releases_ok k sh start x inv p a.0 a.1 a.2

    -- a turn that changes nothing
    still : x ≡ record { state = s; table = x.table; events = x.events ++ [] }
    still = grind (arith, append-nil)

    turn_fine : (c : Call) → Lawful c → (o : Option (List ℕ)) → first_of (tests k sh s x.table c) ≡ o → Fine (turn_by k sh s x.table c o)
    turn_fine c r o h = grind (arith, common_steps, makes_fine)

    turn_inv : (c : Call) → Lawful c → Inv k sh start (then x (turn k sh s x.table c))
    turn_inv c r = record { sound = turn_sound k sh s x.table inv.sound c; weighed = λ f. grind (arith, weight_append, weighs); kept = turn_fine c r (first_of (tests k sh s x.table c)) refl }

  -- what holds of every world that a run leads to
  pub run_inv : refuse_open k sh start ≡ None → sh.first < 2 ^ 64 → (x : World M) → Runs k sh start x → Inv k sh start x
  run_inv fine low x opens = search (rules, opened_sound, idle_weigh, opens_ok)
  run_inv fine low x (goes_on {x = y} c r lawful) = turn_inv y (run_inv fine low y r) c lawful
  run_inv fine low x (refuses {x = y} c lent code r lawful h) =
      let u = unchanged k sh y.state lent code c h in
      subst (Inv k sh start) (still y (run_inv fine low y r) ∙ (λ i. record { state = sym u.state i; table = y.table; events = y.events ++ sym u.events i })) (run_inv fine low y r)
