-- The kind of the ten triples of the highest orders.
use Rattle.std.specs.Prelude.{◌≡◌, ℕ, ◌-◌, ◌/◌, ◌%◌, ◌≤◌, true, cond, T, List, [], length, take, ℤ, pos, fold, ◌==◌, slice_index_or, refl}
use Rattle.std.specs.declared.cmp.Ordering.TheVariants.{Equal}
use Rattle.std.proofs.Common.{sym, arith, length-take}
use mathlib.Core.HLevel.{is_prop→PathP}
use Rattle.std.proofs.Math.Bridge.{le_prop}
use Rattle.std.proofs.Math.Dec.{T_prop}
use Rattle.std.specs.Cmp.{IsTotalOrder, int_cmp_total, on_total}
use Rattle.std.proofs.lemmas.Bool.{cond_both}
use Rattle.triples.specs.declared.triple.Triple.{Triple}
use Rattle.kinds.specs.declared.operation.Verb.{Verb}
use Rattle.kinds.specs.declared.operation.Verb.TheVariants.{Put, Add, Max, Min, Last, Top}
use Rattle.triples.specs.Triples.{triple_of, zero, field, lower, by_order, better}
use Rattle.triples.specs.Falling.{falling, kept, inserted, falling_ins, falling_take}
use Rattle.kinds.specs.Model.{Rule, Model}
use Rattle.kinds.specs.Rules.{any, refused, single}

-- the meaning of a `Ten`: at most ten triples with falling orders
pub record Tops : Type 0 where
  pub triples : List Triple
  pub few : length triples ≤ 10
  pub falls : T (falling by_order triples)

-- the rest are facts, so the triples say all
pub tops_is : {x y : Tops} → x.triples ≡ y.triples → x ≡ y
tops_is {x} {y} e = λ i. record {
  triples = e i;
  few = is_prop→PathP (λ j. length (e j) ≤ 10) (λ j. le_prop) x.few y.few i;
  falls = is_prop→PathP (λ j. T (falling by_order (e j))) (λ j. T_prop (falling by_order (e j))) x.falls y.falls i;
}

-- e in its place by falling order; of one order the greater stays, and beyond ten the lowest leaves
abbrev pub topped : List Triple → Triple → List Triple
topped = kept by_order better 10

-- the first n are at most ten
pub take_few : (n : ℕ) (xs : List Triple) → n ≤ 10 → length (take n xs) ≤ 10
take_few n xs h = omega (arith, length-take n xs)

-- the first n of xs
abbrev pub tops : (n : ℕ) (xs : List Triple) → n ≤ 10 → T (falling by_order (take n xs)) → Tops
tops n xs few falls = record { triples = take n xs; few = take_few n xs few; falls = falls }

-- the orders are in a total order
pub order_total : IsTotalOrder by_order
order_total = on_total (λ (x : Triple). x.order) int_cmp_total

-- the greater of two triples of one order has that order
pub better_alike : (x y z : Triple) → by_order x y ≡ Equal → by_order (better x y) z ≡ by_order x z
better_alike x y z e = cond_both (lower x y) y x (λ w. by_order w z ≡ by_order x z) (λ _. sym (order_total.congr x y z e)) (λ _. refl)

-- the orders still fall
pub top_falls : (x : Tops) (e : Triple) → T (falling by_order (topped x.triples e))
top_falls x e =
    falling_take by_order 10 (inserted by_order better e x.triples)
    (falling_ins by_order better order_total.antisymm order_total.congr better_alike e x.triples x.falls)

-- the same of a meaning
abbrev pub top : Tops → Triple → Tops
top x e = tops 10 (inserted by_order better e x.triples) (omega arith) (top_falls x e)

-- no triple
abbrev pub empty : Tops
empty = record { triples = []; few = omega arith; falls = tt }

-- what each verb does; a shard's triples are taken in one by one
abbrev pub rules : Verb → Rule Tops
rules Put = refused
rules Add = refused
rules Max = refused
rules Min = refused
rules Last = refused
rules Top = record {
  takes = any;
  splits = true;
  apply = λ a x. top x (triple_of a);
  fresh = λ _. empty;
  merge = λ w x. fold top x w.triples;
}

-- how many there are, and then three numbers of each; zeros beyond the last
abbrev pub show : ℕ → Tops → ℤ
show k x = cond (k == 0) (pos (length x.triples)) (field ((k - 1) % 3) (slice_index_or x.triples ((k - 1) / 3) zero))

-- the numbers 0 to 30 are shown
abbrev pub ten_model : Model Tops
ten_model = single rules 31 show
