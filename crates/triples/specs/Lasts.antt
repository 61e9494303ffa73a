-- The kind of the last triple.
use Rattle.std.specs.Prelude.{ℕ, Bool, [], ◌∷◌, ℤ, pos, Some, None, Option, slice_index_or}
use Rattle.std.specs.declared.cmp.Ordering.{Ordering}
use Rattle.std.specs.Ordering.{is_lt, int_cmp, nat_cmp, ordering_then}
use Rattle.triples.specs.declared.triple.Triple.{Triple}
use Rattle.kinds.specs.declared.operation.Verb.{Verb}
use Rattle.kinds.specs.declared.operation.Verb.TheVariants.{Put, Add, Max, Min, Last, Top}
use Rattle.kinds.specs.declared.operation.Argument.{Argument}
use Rattle.triples.specs.Triples.{triple_of, numbers, greater}
use Rattle.kinds.specs.Model.{Rule, Model}
use Rattle.kinds.specs.Rules.{any, refused, joins, single}
use Rattle.std.specs.Option.{option_cmp}

-- the meaning of a `Last`: empty, or a triple
abbrev pub Latest : Type 0
Latest = Option Triple

-- the numbers by which two of them are compared
abbrev pub numbers_if : Latest → Option (ℤ × (ℕ × ℕ))
numbers_if None = None
numbers_if (Some e) = Some (numbers e)

-- as triples are, and empty is below all
abbrev pub compared : Latest → Latest → Ordering
compared x y = (option_cmp (λ x y. ordering_then (int_cmp x.0 y.0) (ordering_then (nat_cmp x.1.0 y.1.0) (nat_cmp x.1.1 y.1.1)))) (numbers_if x) (numbers_if y)

-- x is ranked below y
abbrev pub below : Latest → Latest → Bool
below x y = is_lt (compared x y)

-- what an argument says
abbrev pub of : Argument → Latest
of a = Some (triple_of a)

-- what each verb does
abbrev pub rules : Verb → Rule Latest
rules Put = refused
rules Add = refused
rules Max = refused
rules Min = refused
rules Last = joins any of (greater below) None
rules Top = refused

-- 1, the order, the worker and the mark; zeros where it is empty
abbrev pub show : ℕ → Latest → ℤ
show k None = pos 0
show k (Some e) = slice_index_or (pos 1 ∷ e.order ∷ pos e.worker ∷ pos e.mark ∷ []) k (pos 0)

-- the numbers 0 to 3 are shown
abbrev pub last_model : Model Latest
last_model = single rules 4 show
