-- Every turn keeps what holds of the engine between calls: its locks, its counts, and that whoever has acknowledged rests.
use Rattle.protocol.proofs.Base.{length-replicate, ◌≡◌, refl, sym, ap, ◌∙◌, Bool, true, false, List, [], ◌∷◌, map, ◌⊎◌, inl, inr, ℕ, zero, suc, ◌+◌, ◌≤◌, ◌<◌, ◌^◌, arith, length, set, replicate, get_or_past, length-set, length-map, get_or-replicate, tells, Option, Some, None, Ok, Err, rules, sum_by-replicate, get_or-map, common_steps}
use Rattle.protocol.specs.Rules.{Model, Phase, Closing, Merging, SplitItem, Stamp, Transaction, Row, Shape, State, idle, row_at, stamp_at, with_current, split_in, owned_by, Moved, put_back, move, step_row, Call, Take, Draw, Step, Acknowledge, Merge, Collect, AnnounceSplit, AnnounceMerging, Release, next_phase, all_acknowledged, drawn, acknowledging, merging, revised, revise, opened, makes, turn, holds, aims, in_rows, may_rest, Counted, Sound, StaysSound}
use Rattle.protocol.proofs.Allowed.{Allowed, allowed}
use Rattle.protocol.proofs.Doing.{does}
use Rattle.protocol.proofs.Invariant.{placed_weight, taken_weight}
use Rattle.protocol.proofs.Locks.{Owns, still, one_owner, step_owns}
use Rattle.protocol.proofs.Places.{set_cases}
use Rattle.protocol.proofs.Weights.{made_weighs}

-- ---- being the owner, as it is said of locks and as a test

locked_so : (o : Option ℕ) (w : ℕ) (b : Bool) → owned_by o w ≡ b → (o ≡ Some w → b ≡ true) × (b ≡ true → o ≡ Some w)
locked_so o w b e = (λ h. grind (arith, tells), λ h. grind (arith, tells))

-- ---- rows

pub idle_weigh : (f : ℕ → ℕ) (n : ℕ) → in_rows f (replicate n idle) ≡ 0
idle_weigh f n = grind (arith, sum_by-replicate)

-- a row of a list where each is changed
pub row_map : (f : Row → Row) → f idle ≡ idle → (rows : List Row) (w : ℕ) → row_at (map f rows) w ≡ f (row_at rows w)
row_map f e rows w = grind (arith, common_steps, get_or-map, get_or_past)

-- where all have acknowledged, each has
pub each_done : (rows : List Row) (w : ℕ) → all_acknowledged rows ≡ true → w < length rows → (row_at rows w).acknowledged ≡ true
each_done [] w h u = absurd (omega arith)
each_done (r ∷ rows) zero h u = grind arith
each_done (r ∷ rows) (suc w) h u = each_done rows w (grind arith) (omega arith)

-- and no hand has anything
pub all_empty : (sh : Shape) (s : State) → Sound sh s → all_acknowledged s.rows ≡ true → (w : ℕ) → (row_at s.rows w).current ≡ None
all_empty sh s sound done w = grind (arith, each_done, get_or_past)

-- who has a transaction in hand has not acknowledged, and a step leaves it so
stepped_rests : {M : Type 0} (p : Phase) (r : Row) (t : Transaction) (m : Moved M) → r.current ≡ Some t → (r.acknowledged ≡ true → may_rest p r ≡ true)
    → (put_back r m).1.acknowledged ≡ true → may_rest p (put_back r m).1 ≡ true
stepped_rests p r t m e rests h = grind arith

-- ---- turns

module _ (sh : Shape) (s : State) (sound : Sound sh s) where
  abbrev ls : List SplitItem
  ls = split_in s.phase s.split

  abbrev row : ℕ → Row
  row w = row_at s.rows w

  -- its locks, by the test
  was_own : (w key : ℕ) → key < length s.stamps → owned_by (stamp_at s.stamps key).owner w ≡ holds ls (row w).current key
  was_own w key l = grind arith

  abbrev after : ℕ → ℕ → ℕ → List Stamp → Row → State
  after w ticket place ss r = record { ticket = ticket; place = place; phase = s.phase; split = s.split; stamps = ss; rows = set s.rows w r }

  -- a turn that changes one row
  row_sound : (w ticket place : ℕ) (ss : List Stamp) (r : Row) → w < sh.workers → Owns ls w s.stamps ss r.current → (r.acknowledged ≡ true → may_rest s.phase r ≡ true)
      → ticket < 2 ^ 64 → Counted (after w ticket place ss r) → Sound sh (after w ticket place ss r)
  row_sound w ticket place ss r inside owns rests low counted =
      let l : w < length s.rows = omega (arith, sound.rows) in
      record {
        rows = length-set s.rows w r ∙ sound.rows;
        locks = λ key j u.
            let v : key < length s.stamps = omega (arith, owns.same_length) in
            locked_so (stamp_at ss key).owner j _ (set_cases (λ i (q : Row). owned_by (stamp_at ss key).owner i ≡ holds ls q.current key) s.rows w r idle l
            (owns.owners key v).0 (λ i d. (owns.owners key v).1 i d ∙ was_own i key v) j);
        aims = set_cases (λ j (q : Row). aims ls q.current ≡ true) s.rows w r idle l owns.aimed (λ j d. sound.aims j);
        counted = counted;
        low = low;
        resting = set_cases (λ j (q : Row). q.acknowledged ≡ true → may_rest s.phase q ≡ true) s.rows w r idle l rests (λ j d. sound.resting j);
      }

  -- and no stamp or place
  hand_sound : (w ticket : ℕ) (r : Row) → w < sh.workers → ((key : ℕ) → holds ls r.current key ≡ holds ls (row w).current key) → aims ls r.current ≡ true
      → (r.acknowledged ≡ true → may_rest s.phase r ≡ true) → ticket < 2 ^ 64
      → Counted (after w ticket s.place s.stamps r) → Sound sh (after w ticket s.place s.stamps r)
  hand_sound w ticket r inside same aimed = row_sound w ticket s.place s.stamps r inside (still ls w s.stamps (row w).current r.current (was_own w) same aimed)

  -- a turn to another phase, where each hand keeps what it has, and the split records stay or every hand is empty
  phase_sound : (p : Phase) (items : List SplitItem) (rows : List Row) → length rows ≡ length s.rows → ((w : ℕ) → (row_at rows w).current ≡ (row w).current)
      → (split_in p items ≡ ls) ⊎ ((w : ℕ) → (row w).current ≡ None) → ((w : ℕ) → (row_at rows w).acknowledged ≡ true → may_rest p (row_at rows w) ≡ true)
      → let then : State = record { ticket = s.ticket; place = s.place; phase = p; split = items; stamps = s.stamps; rows = rows } in Counted then → Sound sh then
  phase_sound p items rows len hands alike rests counted = grind arith

  -- merging changes a version, and no owner
  revise_owns : (w : ℕ) (o : Option SplitItem) → Owns ls w s.stamps (revise s.place o s.stamps) (row w).current
  revise_owns w None = still ls w s.stamps (row w).current (row w).current (was_own w) (λ key. refl) (sound.aims w)
  revise_owns w (Some l) =
      one_owner ls w s.stamps l.key (revised s.place) (row w).current (sound.aims w) (λ u. (was_own w l.key u, λ j d. refl)) (λ other u n. was_own w other u)

  module _ {M : Type 0} (k : Model M) (table : List M) where
    made_counted : (c : Call) → Allowed k sh s table c → Counted (makes k sh s table c).state
    made_counted c a = grind (arith, made_weighs)

    step_sound : (w : ℕ) → w < sh.workers → (o : Option Transaction) → (row w).current ≡ o → let m = step_row k sh.keys ls w (row w) s.stamps s.place table o in
        Counted (after w s.ticket m.place m.stamps m.row) → Sound sh (after w s.ticket m.place m.stamps m.row)
    step_sound w l None e = hand_sound w s.ticket (row w) l (λ key. refl) (sound.aims w) (sound.resting w) sound.low
    step_sound w l (Some t) e =
        let m = move k sh.keys ls w s.stamps s.place table t t.stage in
        let d = does k sh.keys ls w s.stamps s.place table t in
        row_sound w s.ticket m.place m.stamps (put_back (row w) m).1 l
        (step_owns k sh.keys ls w s.stamps s.place table t (λ key u. grind (arith, was_own w key u)) (grind (arith, sound.aims w)) (row w) d)
        (λ h. stepped_rests s.phase (row w) t m e (sound.resting w) h) sound.low

    made_sound : (c : Call) → Allowed k sh s table c → Sound sh (makes k sh s table c).state
    made_sound (Take w text (Err c)) a = sound
    made_sound (Take w text (Ok es)) a = grind (arith, common_steps)
    made_sound (Draw w) a = hand_sound w s.ticket (drawn (row w) (row w).stash) a.0 (λ key. grind (arith, a.2)) (grind (arith, a.2))
        (λ h. grind (arith, tells, sound.resting w, a.1, a.2)) sound.low (made_counted (Draw w) a)
    made_sound (Step w) a = step_sound w a.0 (row w).current refl (made_counted (Step w) a)
    made_sound (Acknowledge w) a = grind (arith, common_steps)
    made_sound (Merge w) a = grind (arith, common_steps, revise_owns)
    made_sound (Collect w ticket buffer) a = hand_sound w s.ticket (with_current (row w) None) a.0 (λ key. grind (arith, a.1)) refl
        (λ h. grind (arith, sound.resting w h, a.1)) sound.low (made_counted (Collect w ticket buffer) a)
    made_sound (AnnounceSplit items) a = phase_sound Closing items (map (merging 0) s.rows) (length-map s.rows (merging 0))
        (λ w. ap (λ (r : Row). r.current) (row_map (merging 0) refl s.rows w)) (inl (sym (ap (λ p. split_in p s.split) a.0)))
        (λ w h. grind (arith, sound.resting w, a.0, row_map (merging 0) refl s.rows w))
        (made_counted (AnnounceSplit items) a)
    made_sound AnnounceMerging a = phase_sound Merging s.split s.rows refl (λ w. refl) (inl (sym (ap (λ p. split_in p s.split) a)))
        (λ w h. grind (arith, sound.resting w h)) (made_counted AnnounceMerging a)
    made_sound (Release p) a = phase_sound (next_phase p) s.split (map (acknowledging false) s.rows) (length-map s.rows (acknowledging false))
        (λ w. ap (λ (r : Row). r.current) (row_map (acknowledging false) refl s.rows w)) (inr (all_empty sh s sound a.2))
        (λ w h. grind (arith, row_map (acknowledging false) refl s.rows w)) (made_counted (Release p) a)

module _ {M : Type 0} (k : Model M) (sh : Shape) where
  pub opened_sound : sh.first < 2 ^ 64 → Sound sh (opened sh)
  opened_sound low = grind (arith, length-replicate, get_or-replicate, get_or_past, idle_weigh)

  module _ (s : State) (table : List M) (sound : Sound sh s) where
    -- a turn gives no ticket a place that it does not hold, and holds no more tickets than it takes
    pub weighs : (f : ℕ → ℕ) (c : Call) → placed_weight f (turn k sh s table c).events + in_rows f (turn k sh s table c).state.rows ≤ in_rows f s.rows + taken_weight f (turn k sh s table c).events
    weighs f c = grind (arith, made_weighs)

    pub turn_sound : (c : Call) → Sound sh (turn k sh s table c).state
    turn_sound c = let m = made_sound sh s sound k table c in grind (arith, allowed)

pub stays_sound_lem : {M : Type 0} (k : Model M) → StaysSound k
stays_sound_lem k = search (rules, opened_sound, turn_sound)
