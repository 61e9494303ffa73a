-- Only one list is the best of what has been seen.
use Rattle.std.proofs.Common.{◌≡◌, ℕ, zero, suc, ◌≤◌, T, ◌⊎◌, List, [], ◌∷◌, length, Ordering, Less, Equal, Greater, sym, refl, ap, ◌∙◌, inl, inr, ⊎_elim, arith}
use Rattle.std.specs.Ordering.{ordering_reverse}
use Rattle.triples.specs.Falling.{above, falling, parts}
use Rattle.triples.specs.Best.{Among, Full, Stands, Best}
use Rattle.triples.specs.Ranking.{Ranking}
use Rattle.std.proofs.lemmas.Cmp.{tied_itself}
use Rattle.triples.proofs.BestKept.{stands_below}

module _ {X : Type 0} {rank : X → X → Ordering} {better : X → X → X} (rk : Ranking rank better) where
  stands_self : (x : X) (l : List X) → Among x l → Stands rank better x l
  stands_self x [] h = absurd h
  stands_self x (y ∷ l) (inl e) = inl (ap (rank x) (sym e) ∙ tied_itself rk.total x, ap (better x) (sym e) ∙ rk.better_same x ∙ e)
  stands_self x (y ∷ l) (inr h) = inr (stands_self x l h)

  -- x is below y, or it has y's rank and y is the better
  abbrev AtMost : X → X → Type 0
  AtMost x y = (rank x y ≡ Less) ⊎ ((rank x y ≡ Equal) × (better x y ≡ y))

  at_most_first : (n : ℕ) (x y : X) (l : List X) → T (falling rank (y ∷ l)) → Stands rank better x (y ∷ l) ⊎ Full rank (suc n) x (y ∷ l) → AtMost x y
  at_most_first n x y l t (inl (inl s)) = inr s
  at_most_first n x y l t (inl (inr s)) = let falls = parts (above rank y l) (falling rank l) t in inl (stands_below rk x y l falls.0 falls.1 s)
  at_most_first n x y l t (inr f) = inl f.0

  both_at_most : (x y : X) → AtMost x y → AtMost y x → x ≡ y
  both_at_most x y (inl e) (inl d) = let bad : Less ≡ Greater = sym e ∙ rk.total.antisymm x y ∙ ap ordering_reverse d in cc
  both_at_most x y (inl e) (inr d) = let bad : Less ≡ Equal = sym e ∙ rk.total.antisymm x y ∙ ap ordering_reverse d.0 in cc
  both_at_most x y (inr e) (inl d) = let bad : Equal ≡ Greater = sym e.0 ∙ rk.total.antisymm x y ∙ ap ordering_reverse d in cc
  both_at_most x y (inr e) (inr d) = sym d.1 ∙ rk.better_comm y x ∙ e.1

  -- each of l stands in k, or is beyond its last
  abbrev Covers : ℕ → List X → List X → Type 0
  Covers n l k = (x : X) → Among x l → Stands rank better x k ⊎ Full rank n x k

  covers_rest : (n : ℕ) (y z : X) (l k : List X) → y ≡ z → T (falling rank (y ∷ l)) → Covers (suc n) (y ∷ l) (z ∷ k) → Covers n l k
  covers_rest n y z l k e t c x h = by (c x (inr h))
    where
      falls : T (above rank y l) × T (falling rank l)
      falls = parts (above rank y l) (falling rank l) t

      low : rank x z ≡ Less
      low = ap (rank x) (sym e) ∙ stands_below rk x y l falls.0 falls.1 (stands_self x l h)

      by : Stands rank better x (z ∷ k) ⊎ Full rank (suc n) x (z ∷ k) → Stands rank better x k ⊎ Full rank n x k
      by (inl (inl s)) = let bad : Less ≡ Equal = sym low ∙ s.0 in let z : ◌≡◌ {A = ℕ} 0 1 = cc in absurd (omega arith)
      by (inl (inr s)) = inl s
      by (inr f) = inr f.1

  none : (n : ℕ) (y : X) → 1 ≤ n → Full rank n y [] → ⊥
  none zero y h f = omega arith
  none (suc n) y h f = f

  covers_one : (n : ℕ) (l k : List X) → length l ≤ n → length k ≤ n → T (falling rank l) → T (falling rank k) → Covers n l k → Covers n k l → l ≡ k
  covers_one n [] [] p q t u c d = refl
  covers_one n (y ∷ l) [] p q t u c d = absurd (⊎_elim (λ s. s) (none n y (omega arith)) (c y (inl refl)))
  covers_one n [] (z ∷ k) p q t u c d = absurd (⊎_elim (λ s. s) (none n z (omega arith)) (d z (inl refl)))
  covers_one zero (y ∷ l) (z ∷ k) p q t u c d = absurd (omega arith)
  covers_one (suc n) (y ∷ l) (z ∷ k) p q t u c d =
      let first : y ≡ z = both_at_most y z (at_most_first n y z k u (c y (inl refl))) (at_most_first n z y l t (d z (inl refl))) in
      let rest = covers_one n l k (omega arith) (omega arith) (parts (above rank y l) (falling rank l) t).1 (parts (above rank z k) (falling rank k) u).1 (covers_rest n y z l k first t c) (covers_rest n z y k l (sym first) u d) in
      cc

  pub best_one : (n : ℕ) (seen l k : List X) → Best rank better n seen l → Best rank better n seen k → l ≡ k
  best_one n seen l k b c = covers_one n l k b.few c.few b.falls c.falls (λ x h. c.keeps x (b.from x h)) (λ x h. b.keeps x (c.from x h))
