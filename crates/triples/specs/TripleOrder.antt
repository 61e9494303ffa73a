-- The greater of two triples: it joins them, and chooses among triples of one order.
use Rattle.std.specs.Prelude.{◌≡◌, ℕ, false, ◌⊎◌, ℤ, Some, None, refl}
use Rattle.std.specs.declared.cmp.Ordering.TheVariants.{Less, Equal, Greater}
use Rattle.std.specs.declared.cmp.Ordering.{Ordering}
use Rattle.std.proofs.Common.{sym, ap, ◌∙◌, true≢false, inl, inr}
use Rattle.std.specs.Cmp.{IsTotalOrder, int_cmp_total, nat_cmp_total, then_total, on_total}
use Rattle.std.specs.Cmp.Lexicographic.{options_total}
use Rattle.std.specs.Ordering.{is_lt, is_eq, ordering_reverse, ordering_then, int_cmp, nat_cmp}
use Rattle.std.specs.Option.{option_cmp}
use Rattle.std.proofs.lemmas.List.MinMax.{ranks_by}
use Rattle.std.proofs.lemmas.Map.Lookups.{exact_unsigned, exact_signed, exact_pairs}
use Rattle.std.proofs.lemmas.Bool.{cond_both}
use Rattle.triples.specs.declared.triple.Triple.{Triple}
use Rattle.triples.specs.Triples.{numbers, ranked, lower, greater, better, by_order}
use Rattle.triples.specs.Lasts.{Latest, numbers_if, compared, below}
use Rattle.triples.specs.GreaterJoin.{greater_join, greater_comm, greater_assoc}
use Rattle.triples.specs.Tens.{order_total, better_alike}
use Rattle.triples.specs.Ranking.{Ranking}
use Rattle.kinds.specs.RuleLaws.{Join}

-- ---- the three numbers, compared one after another, are in a total order, and so are those that may be missing

abbrev by_numbers : ℤ × (ℕ × ℕ) → ℤ × (ℕ × ℕ) → Ordering
by_numbers x y = ordering_then (int_cmp x.0 y.0) (ordering_then (nat_cmp x.1.0 y.1.0) (nat_cmp x.1.1 y.1.1))

numbers_total : IsTotalOrder by_numbers
numbers_total =
    then_total (on_total (λ (p : ℤ × (ℕ × ℕ)). p.0) int_cmp_total)
    (then_total (on_total (λ (p : ℤ × (ℕ × ℕ)). p.1.0) nat_cmp_total) (on_total (λ (p : ℤ × (ℕ × ℕ)). p.1.1) nat_cmp_total))

numbers_if_total : IsTotalOrder (option_cmp by_numbers)
numbers_if_total = options_total numbers_total

-- ---- triples that stand level are the same

numbers_exact : (x y : ℤ × (ℕ × ℕ)) → by_numbers x y ≡ Equal → x ≡ y
numbers_exact =
    exact_pairs int_cmp (λ (x y : ℕ × ℕ). ordering_then (nat_cmp x.0 y.0) (nat_cmp x.1 y.1)) exact_signed (exact_pairs nat_cmp nat_cmp exact_unsigned exact_unsigned)

triple_tied : (x y : Triple) → ranked x y ≡ Equal → x ≡ y
triple_tied x y e =
    let same = numbers_exact (numbers x) (numbers y) e in
    λ i. record { order = (same i).0; worker = (same i).1.0; mark = (same i).1.1 }

tied : (x y : Latest) → compared x y ≡ Equal → x ≡ y
tied None None e = refl
tied None (Some y) e = absurd (true≢false (ap is_lt e))
tied (Some x) None e = absurd (true≢false (sym (ap is_eq e)))
tied (Some x) (Some y) e = ap Some (triple_tied x y e)

unranked : (k : Ordering) → is_lt k ≡ false → is_lt (ordering_reverse k) ≡ false → k ≡ Equal
unranked Less p q = absurd (true≢false p)
unranked Equal p q = refl
unranked Greater p q = absurd (true≢false q)

level : (x y : Latest) → below x y ≡ false → below y x ≡ false → x ≡ y
level x y p q = tied x y (unranked (compared x y) p (sym (ap is_lt (numbers_if_total.antisymm (numbers_if y) (numbers_if x))) ∙ q))

lowest : (x : Latest) → below x None ≡ false
lowest None = refl
lowest (Some x) = refl

pub latest_join : Join (greater below) None
latest_join = greater_join (ranks_by numbers_if_total numbers_if) level None lowest

-- ---- the better of two triples

triple_level : (x y : Triple) → lower x y ≡ false → lower y x ≡ false → x ≡ y
triple_level x y p q = triple_tied x y (unranked (ranked x y) p (sym (ap is_lt (numbers_total.antisymm (numbers y) (numbers x))) ∙ q))

-- ---- by order alone, with the better of two

pub triple_ranking : Ranking by_order better
triple_ranking = record {
  total = order_total;
  better_alike = better_alike;
  better_comm = greater_comm (ranks_by numbers_total numbers) triple_level;
  better_assoc = greater_assoc (ranks_by numbers_total numbers) triple_level;
  better_same = λ x. cond_both (lower x x) x x (λ z. z ≡ x) (λ _. refl) (λ _. refl);
  either = λ x y. cond_both (lower x y) y x (λ z. (z ≡ x) ⊎ (z ≡ y)) (λ _. inr refl) (λ _. inl refl);
}
