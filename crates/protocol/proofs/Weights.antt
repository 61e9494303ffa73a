-- The tickets that have no place: what a turn adds to them, and what it takes from them.
use Rattle.protocol.proofs.Base.{◌≡◌, List, [], ℕ, ◌+◌, ◌≤◌, ◌<◌, arith, length, set, sum_by_push, sum_by-set, Option, Some, None, common_steps}
use Rattle.protocol.specs.Rules.{Model, SplitItem, Stamp, Transaction, Row, Shape, State, idle, row_at, split_in, Moved, put_back, step_row, Call, Event, drawn, makes, in_row, in_rows}
use Rattle.protocol.proofs.Allowed.{Allowed}
use Rattle.protocol.proofs.Doing.{Does, rests, reads, strays_off, clashes, locks, places, writes_on, shards, does}
use Rattle.protocol.proofs.Invariant.{placed_weight, taken_weight}
use Rattle.protocol.specs.Turns.{placings}

module _ (f : ℕ → ℕ) where
  -- one row is new
  set_weighs : (rows : List Row) (w : ℕ) (r : Row) (p q : ℕ) → w < length rows → p + in_row f r ≤ in_row f (row_at rows w) + q → p + in_rows f (set rows w r) ≤ in_rows f rows + q
  set_weighs rows w r p q l h = omega (arith, sum_by-set (in_row f) rows w r idle l)

  abbrev ticket_weight : Transaction → ℕ
  ticket_weight t = f t.ticket

  drawn_weighs : (r : Row) (ts : List Transaction) → r.current ≡ None → r.stash ≡ ts → in_row f (drawn r ts) ≤ in_row f r
  drawn_weighs r ts empty e = grind (arith, common_steps)

-- a step gives the place that it takes a ticket from
module _ {M : Type 0} (k : Model M) (keys : ℕ) (ls : List SplitItem) (w : ℕ) (ss : List Stamp) (place : ℕ) (table : List M) (t : Transaction) where
  step_weighs : (f : ℕ → ℕ) (r : Row) → r.current ≡ Some t → {m : Moved M} {new : List Event} → Does k keys ls w ss place table t m new
      → placed_weight f new + in_row f (put_back r m).1 ≤ in_row f r + taken_weight f new
  step_weighs f r h rests = grind arith
  step_weighs f r h (reads e g next fits free) = grind arith
  step_weighs f r h (strays_off g) = grind (arith, sum_by_push (ticket_weight f) r.stash t)
  step_weighs f r h (clashes key g) = grind arith
  step_weighs f r h (locks key g free) = grind arith
  step_weighs f r h (places g fresh) = grind arith
  step_weighs f r h (writes_on p key g) = grind arith
  step_weighs f r h (shards p i e g there) = grind arith

  step_counts : {m : Moved M} {new : List Event} → Does k keys ls w ss place table t m new → (m.place ≡ place + placed_weight (λ _. 1) new) × (taken_weight (λ _. 1) new ≡ 0)
  step_counts h = grind arith

-- ---- calls

-- no ticket is given a place that is not held, and no more are held than are taken; the counters go by what has happened
pub record Weighs (s : State) (rows : List Row) (place ticket : ℕ) (new : List Event) : Type 0 where
  pub weight : (f : ℕ → ℕ) → placed_weight f new + in_rows f rows ≤ in_rows f s.rows + taken_weight f new
  pub places : place ≡ s.place + placed_weight (λ _. 1) new
  pub tickets : ticket ≡ s.ticket + taken_weight (λ _. 1) new

module _ {M : Type 0} (k : Model M) (sh : Shape) (s : State) (table : List M) (full : length s.rows ≡ sh.workers) where
  abbrev ls : List SplitItem
  ls = split_in s.phase s.split

  abbrev row : ℕ → Row
  row w = row_at s.rows w

  -- nothing happens
  rows_weigh : (rows : List Row) → ((f : ℕ → ℕ) → in_rows f rows ≤ in_rows f s.rows) → Weighs s rows s.place s.ticket []
  rows_weigh rows h = grind arith

  row_weighs : (w : ℕ) → w < sh.workers → (r : Row) → ((f : ℕ → ℕ) → in_row f r ≤ in_row f (row w)) → Weighs s (set s.rows w r) s.place s.ticket []
  row_weighs w l r h = rows_weigh (set s.rows w r) (λ f. omega (arith, set_weighs f s.rows w r 0 0 (omega arith) (omega (arith, h f))))

  -- a step of the row's hand
  hand_weighs : (w : ℕ) → w < sh.workers → (o : Option Transaction) → (row w).current ≡ o → let m = step_row k sh.keys ls w (row w) s.stamps s.place table o in
      Weighs s (set s.rows w m.row) m.place s.ticket (placings w s.stamps s.place o)
  hand_weighs w l None e = row_weighs w l (row w) (λ f. omega arith)
  hand_weighs w l (Some t) e =
      let d = does k sh.keys ls w s.stamps s.place table t in
      let c = step_counts k sh.keys ls w s.stamps s.place table t d in
      record { weight = λ f. set_weighs f s.rows w _ _ _ (omega arith) (step_weighs k sh.keys ls w s.stamps s.place table t f (row w) e d); places = c.0; tickets = omega (arith, c.1) }

  pub made_weighs : (c : Call) → Allowed k sh s table c → let m = makes k sh s table c in Weighs s m.state.rows m.state.place m.state.ticket m.events
  made_weighs c a = grind (arith, common_steps, drawn_weighs, hand_weighs)
