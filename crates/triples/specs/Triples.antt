-- Triples, in their order, and by order alone.
use Rattle.std.specs.Prelude.{ℕ, Bool, cond, ℤ, pos, ◌==◌}
use Rattle.std.specs.declared.cmp.Ordering.{Ordering}
use Rattle.std.specs.Ordering.{is_lt, int_cmp, nat_cmp, ordering_then}
use Rattle.triples.specs.declared.triple.Triple.{Triple}
use Rattle.kinds.specs.declared.operation.Argument.{Argument}

-- what an argument leaves behind
abbrev pub triple_of : Argument → Triple
triple_of a = record { order = a.number; worker = a.worker; mark = a.mark }

-- the triple of zeros
abbrev pub zero : Triple
zero = record { order = pos 0; worker = 0; mark = 0 }

-- the order, the worker or the mark of a triple
abbrev pub field : ℕ → Triple → ℤ
field k e = cond (k == 0) e.order (cond (k == 1) (pos e.worker) (pos e.mark))

-- the numbers by which triples are compared, one after the other
abbrev pub numbers : Triple → ℤ × (ℕ × ℕ)
numbers e = (e.order, (e.worker, e.mark))

-- by order, then by worker, then by mark
abbrev pub ranked : Triple → Triple → Ordering
ranked x y = ordering_then (int_cmp (numbers x).0 (numbers y).0) (ordering_then (nat_cmp (numbers x).1.0 (numbers y).1.0) (nat_cmp (numbers x).1.1 (numbers y).1.1))

-- x is ranked below y
abbrev pub lower : Triple → Triple → Bool
lower x y = is_lt (ranked x y)

-- by order alone
abbrev pub by_order : Triple → Triple → Ordering
by_order x y = int_cmp x.order y.order

-- the greater of two values, by a test whether one is below the other
abbrev pub greater : {X : Type 0} → (X → X → Bool) → X → X → X
greater lt x y = cond (lt x y) y x

-- the greater of two triples
abbrev pub better : Triple → Triple → Triple
better = greater lower
