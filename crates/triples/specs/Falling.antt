-- Lists by falling rank, of which the first n are kept.
use Rattle.std.specs.Prelude.{◌≡◌, ℕ, zero, suc, Bool, true, false, ◌&&◌, T, List, [], ◌∷◌, take, refl}
use Rattle.std.specs.declared.cmp.Ordering.TheVariants.{Less, Equal, Greater}
use Rattle.std.specs.declared.cmp.Ordering.{Ordering}
use Rattle.std.proofs.Common.{sym, ap, subst, ◌∙◌}
use Rattle.std.specs.Ordering.{is_gt, ordering_reverse}

-- one of three, by an ordering
abbrev pub by_rank : {X : Type 0} → Ordering → X → X → X → X
by_rank Less l e g = l
by_rank Equal l e g = e
by_rank Greater l e g = g

module _ {X : Type 0} (rank : X → X → Ordering) where
  -- x is ranked above the first of the list
  abbrev pub above : X → List X → Bool
  above x [] = true
  above x (y ∷ ys) = is_gt (rank x y)

  -- each is ranked above the next
  abbrev pub falling : List X → Bool
  falling [] = true
  falling (x ∷ xs) = above x xs && falling xs

  module _ (better : X → X → X) where
    -- a in its place; of one rank the better stays
    abbrev pub inserted : X → List X → List X
    inserted a [] = a ∷ []
    inserted a (x ∷ xs) = by_rank (rank a x) (x ∷ inserted a xs) (better a x ∷ xs) (a ∷ x ∷ xs)

    -- a in its place, of which the first n stay
    abbrev pub kept : ℕ → List X → X → List X
    kept n xs a = take n (inserted a xs)

-- ---- insertion and `take` leave a list falling

pub parts : (a b : Bool) → T (a && b) → T a × T b
parts true b t = (tt, t)
parts false b t = absurd t

both : (a b : Bool) → T a → T b → T (a && b)
both true b s t = t
both false b s t = s

module _ {X : Type 0} (rank : X → X → Ordering) where
  above_take : (m : ℕ) (x : X) (l : List X) → T (above rank x l) → T (above rank x (take m l))
  above_take zero x l t = tt
  above_take (suc m) x [] t = tt
  above_take (suc m) x (y ∷ l) t = t

  pub falling_take : (m : ℕ) (l : List X) → T (falling rank l) → T (falling rank (take m l))
  falling_take zero l t = tt
  falling_take (suc m) [] t = tt
  falling_take (suc m) (x ∷ xs) t =
      let falls = parts (above rank x xs) (falling rank xs) t in
      both (above rank x (take m xs)) _ (above_take m x xs falls.0) (falling_take m xs falls.1)

module _ {X : Type 0} (rank : X → X → Ordering) (better : X → X → X)
    (flip : (x y : X) → rank x y ≡ ordering_reverse (rank y x))
    (alike : (x y z : X) → rank x y ≡ Equal → rank x z ≡ rank y z)
    (better_alike : (x y z : X) → rank x y ≡ Equal → rank (better x y) z ≡ rank x z)
  where
    higher : (z a : X) → rank a z ≡ Less → T (is_gt (rank z a))
    higher z a e = subst (λ r. T (is_gt r)) (sym (flip z a ∙ ap ordering_reverse e)) tt

    above_ins : (z a : X) (l : List X) → rank a z ≡ Less → T (above rank z l) → T (above rank z (inserted rank better a l))
    above_ins z a [] e t = higher z a e
    above_ins z a (x ∷ xs) e t = by (rank a x) refl
      where
        by : (r : Ordering) → rank a x ≡ r → T (above rank z (by_rank r (x ∷ inserted rank better a xs) (better a x ∷ xs) (a ∷ x ∷ xs)))
        by Less d = t
        by Equal d = higher z (better a x) (better_alike a x z d ∙ e)
        by Greater d = higher z a e

    above_better : (a x : X) (l : List X) → rank a x ≡ Equal → T (above rank x l) → T (above rank (better a x) l)
    above_better a x [] e t = tt
    above_better a x (y ∷ l) e t = subst (λ r. T (is_gt r)) (sym (better_alike a x y e ∙ alike a x y e)) t

    pub falling_ins : (a : X) (l : List X) → T (falling rank l) → T (falling rank (inserted rank better a l))
    falling_ins a [] t = tt
    falling_ins a (x ∷ xs) t = by (rank a x) refl (parts (above rank x xs) (falling rank xs) t) (falling_ins a xs (parts (above rank x xs) (falling rank xs) t).1)
      where
        by : (r : Ordering) → rank a x ≡ r → T (above rank x xs) × T (falling rank xs) → T (falling rank (inserted rank better a xs)) → T (falling rank (by_rank r (x ∷ inserted rank better a xs) (better a x ∷ xs) (a ∷ x ∷ xs)))
        by Less e falls ih = both (above rank x (inserted rank better a xs)) _ (above_ins x a xs e falls.0) ih
        by Equal e falls ih = both (above rank (better a x) xs) _ (above_better a x xs e falls.0) falls.1
        by Greater e falls ih = both (is_gt (rank a x)) _ (subst (λ r. T (is_gt r)) (sym e) tt) t
