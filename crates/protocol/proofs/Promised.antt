-- The promise, from what holds of every world that turns lead to.
use Rattle.protocol.proofs.Base.{◌≡◌, refl, sym, ap, ◌∙◌, Bool, true, cond, List, [], ◌∷◌, inl, inr, ℕ, zero, suc, ◌+◌, ◌≤◌, ◌<◌, arith, eqb, ℤ, length, take, length-take, none-some, sum_by-cons, get_or-le-sum_by, cases_order, eq-eqb, tells, Option, Some, None, counting, option_is_some, sum_by, nth, rules, folded_map, same_lists, gets}
use Rattle.protocol.specs.Rules.{Model, Laws, Outcome, Committed, Conflict, TurnedAway, Phase, Joined, Ended, Stamp, outcome_code, Transaction, Shape, State, idle, row_at, stamp_at, place_in, place_of, split_in, is_split, Collect, Gave, Taking, Placing, Event, Taken, Placed, quiet, refuse_open, turn, taking_in, placing_in, placings, takings, World, values_by, times_placed, RightlyTold, Kept, Promise, in_row, in_hand}
use Rattle.serial.proofs.Alone.{runs_alone}
use Rattle.protocol.proofs.Invariant.{taken_weight, Past, owed, ideal, Inv}
use Rattle.protocol.proofs.Operations.{length_applied}
use Rattle.protocol.proofs.Owing.{gathered_none, unlocked_owes}
use Rattle.protocol.proofs.Past.{before_later, counted_at}
use Rattle.protocol.proofs.Phases.{opens_ok}
use Rattle.protocol.proofs.Places.{nth_take}
use Rattle.protocol.proofs.Turning.{unchanged, run_inv}

-- ---- in time

module _ {M : Type 0} (k : Model M) (sh : Shape) (start : List M) (es : List Event) (ticket place : ℕ) (past : Past k sh start es ticket place) where
  -- a ticket is taken once
  taken_once : (i j : ℕ) (t u : Taking) → nth es i ≡ Some (Taken t) → nth es j ≡ Some (Taken u) → t.ticket ≡ u.ticket → i ≡ j
  taken_once i j t u a b same =
      let p = (counted_at taking_in (λ (v : Taking). v.ticket) sh.first (length (takings es)) es i (Taken t) t past.each_ticket a refl).0 in
      let q = (counted_at taking_in (λ (v : Taking). v.ticket) sh.first (length (takings es)) es j (Taken u) u past.each_ticket b refl).0 in
      elim (cases_order i j) [
        | inl e ↦ e
        | inr (inl l) ↦ absurd (omega (arith, before_later taking_in es i j (Taken t) t l a refl))
        | inr (inr l) ↦ absurd (omega (arith, before_later taking_in es j i (Taken u) u l b refl))
      ]

  in_time : (h i j : ℕ) (p q : Placing) (t : Taking) → h < i → nth es h ≡ Some (Placed p) → nth es i ≡ Some (Taken t) → nth es j ≡ Some (Placed q) → q.ticket ≡ t.ticket → p.place < q.place
  in_time h i j p q t l a b c same =
      let u = past.as_taken j q c in
      let e = taken_once i u.0 t u.1 b u.3 (sym same ∙ u.4.ticket) in
      let m = (counted_at placing_in (λ (r : Placing). r.place) sh.first (length (placings es)) es h (Placed p) p past.each_place a refl).0 in
      let n = (counted_at placing_in (λ (r : Placing). r.place) sh.first (length (placings es)) es j (Placed q) q past.each_place c refl).0 in
      omega (arith, before_later placing_in es h j (Placed p) p (omega (arith, u.2)) a refl)

-- ---- tickets

-- a ticket counts one, and any other nothing
abbrev one : ℕ → ℕ → ℕ
one n m = cond (eqb m n) 1 0

counts_once : (n first m : ℕ) → (sum_by (one n) (counting first m) ≤ 1) × (n < first → sum_by (one n) (counting first m) ≡ 0)
counts_once n first zero = (omega arith, λ _. refl)
counts_once n first (suc m) =
    let c = sum_by-cons (one n) first (counting (first + 1) m) in
    let r = counts_once n (first + 1) m in
    grind (arith, tells)

-- ---- values

quiet_free : (ss : List Stamp) (key : ℕ) → quiet ss ≡ true → (stamp_at ss key).owner ≡ None
quiet_free [] key h = refl
quiet_free (st ∷ ss) zero h = grind arith
quiet_free (st ∷ ss) (suc key) h = quiet_free ss key (grind arith)

module _ {M : Type 0} (k : Model M) where
  length_by : (ps : List Placing) (vs : List M) → length (values_by k ps vs) ≡ length vs
  length_by [] vs = refl
  length_by (p ∷ ps) vs = grind (arith, length_by ps, runs_alone k p.worker p.entries vs, length_applied)

  module _ (sh : Shape) (start : List M) (fine : refuse_open k sh start ≡ None) (x : World M) (inv : Inv k sh start x) where
    abbrev s : State
    s = x.state

    same_values : s.phase ≡ Joined → quiet s.stamps ≡ true → take sh.keys x.table ≡ ideal k sh start x.events
    same_values joined free = same_lists (take sh.keys x.table) (ideal k sh start x.events) (omega (arith, long, length_by (placings x.events) (take sh.keys start), from)) (λ key d l.
        let low : key < sh.keys = omega (arith, long) in
        let none = gathered_none k sh (owed k sh s inv.kept.values.ops key) sh.workers (λ w v.
        unlocked_owes k sh start x inv key w low v (ap (λ (p : Phase). is_split (split_in p s.split) key) joined) (λ e. none-some w (sym (quiet_free s.stamps key free) ∙ e))) in
        grind (arith, gets, nth_take, inv.kept.values.values key low))
      where
        long : length (take sh.keys x.table) ≡ sh.keys
        long = omega (arith, length-take sh.keys x.table, inv.kept.sized.table_len)

        from : length (take sh.keys start) ≡ sh.keys
        from = omega (arith, length-take sh.keys start, (opens_ok k sh start fine).sized.table_len)

    weighs_one : (n : ℕ) → taken_weight (one n) x.events ≤ 1
    weighs_one n = omega (arith, folded_map (λ (t : Taking). t.ticket) (λ m y. m + one n y) 0 (takings x.events), ap (sum_by (one n)) inv.kept.past.each_ticket, (counts_once n sh.first (length (takings x.events))).0)

    -- ---- what collecting tells

    times_one : (n : ℕ) → times_placed x.events n ≤ 1
    times_one n = omega (arith, inv.weighed (one n), weighs_one n)

    -- a ticket that a hand holds without a place was never placed
    unplaced : (w n : ℕ) (t : Transaction) → w < sh.workers → (row_at s.rows w).current ≡ Some t → t.ticket ≡ n → place_of t.stage ≡ None → times_placed x.events n ≡ 0
    unplaced w n t l held is none =
        let h : in_hand (one n) (row_at s.rows w).current ≡ 1 = ap (in_hand (one n)) held ∙ ap (λ (o : Option ℕ). cond (option_is_some o) 0 (one n t.ticket)) none ∙ ap (λ (b : Bool). cond b 1 0) (eq-eqb t.ticket n is) in
        omega (arith, inv.weighed (one n), weighs_one n, get_or-le-sum_by (in_row (one n)) s.rows w idle (omega (arith, inv.sound.rows)))

    told : (w n : ℕ) (t : Transaction) → w < sh.workers → (row_at s.rows w).current ≡ Some t → t.ticket ≡ n → (o : Outcome) → t.stage ≡ Ended o
        → RightlyTold x.events n (cond (option_is_some (place_in o)) t.answers []) o
    told w n t l held is (Committed p) g =
        let h = ((inv.kept.rows w).hand t held).placed p (ap place_of g) in
        (h.0, _, h.1, is, refl, refl)
    told w n t l held is (Conflict key) g = (unplaced w n t l held is (ap place_of g), refl)
    told w n t l held is TurnedAway g = (unplaced w n t l held is (ap place_of g), refl)

    as_collected : (lent : List M) (w n : ℕ) (buffer : List ℤ) (c : List ℕ) (zs : List ℤ) → (turn k sh s lent (Collect w n buffer)).answer ≡ Gave c zs → (o : Outcome) × (c ≡ outcome_code o) × RightlyTold x.events n zs o
    as_collected lent w n buffer c zs h = grind (arith, told)

    pub kept : Kept k sh start x
    kept = search (rules, same_values, in_time, times_one, as_collected)

pub promised : {M : Type 0} (k : Model M) → Laws k → Promise k
promised k laws = record {
  of_runs = λ sh start x fine low runs. kept k sh start fine x (run_inv k laws sh start fine low x runs);
  of_refusals = λ sh s lent c code. unchanged k sh s lent code c;
  of_takings = λ sh s lent w text q c zs h. grind arith;
  of_others = λ sh s lent c t i h. grind arith;
}
