-- Lists whose front is ranked above an element, and what insertion leaves of it.
use Rattle.std.specs.Prelude.{◌≡◌, ℕ, zero, suc, ◌≤◌, T, List, [], ◌∷◌, take, refl}
use Rattle.std.specs.declared.cmp.Ordering.TheVariants.{Less, Equal, Greater}
use Rattle.std.specs.declared.cmp.Ordering.{Ordering}
use Rattle.std.proofs.Common.{ap, ◌∙◌, arith}
use Rattle.std.specs.Ordering.{ordering_reverse}
use Rattle.triples.specs.Falling.{by_rank, above, inserted, kept}
use Rattle.triples.specs.Best.{Full}
use Rattle.triples.specs.Ranking.{Ranking, less}
use Rattle.std.proofs.lemmas.Cmp.{tied_itself, alike_right}

module _ {X : Type 0} {rank : X → X → Ordering} {better : X → X → X} (rk : Ranking rank better) where
  abbrev ins : X → List X → List X
  ins = inserted rank better

  abbrev full : ℕ → X → List X → Type 0
  full = Full rank

  pub full_take : (m k : ℕ) (x : X) (l : List X) → m ≤ k → full m x l → full m x (take k l)
  full_take zero k x l h f = tt
  full_take (suc m) k x [] h f = absurd f
  full_take (suc m) zero x (y ∷ l) h f = omega arith
  full_take (suc m) (suc k) x (y ∷ l) h f = (f.0, full_take m k x l (omega arith) f.1)

  full_less : (m : ℕ) (x : X) (l : List X) → full (suc m) x l → full m x l
  full_less zero x l f = tt
  full_less (suc m) x [] f = absurd f
  full_less (suc m) x (y ∷ l) f = (f.0, full_less m x l f.1)

  full_lower : (m : ℕ) (z x : X) (l : List X) → rank z x ≡ Less → full m x l → full m z l
  full_lower zero z x l e f = tt
  full_lower (suc m) z x [] e f = absurd f
  full_lower (suc m) z x (y ∷ l) e f = (rk.total.trans z x y e f.0, full_lower m z x l e f.1)

  pub full_alike : (m : ℕ) (z x : X) (l : List X) → rank z x ≡ Equal → full m x l → full m z l
  full_alike zero z x l e f = tt
  full_alike (suc m) z x [] e f = absurd f
  full_alike (suc m) z x (y ∷ l) e f = (rk.total.congr z x y e ∙ f.0, full_alike m z x l e f.1)

  -- what is inserted takes no one out of the front
  pub full_more : (m : ℕ) (x a : X) (l : List X) → full m x l → full m x (ins a l)
  full_more zero x a l f = tt
  full_more (suc m) x a [] f = absurd f
  full_more (suc m) x a (y ∷ l) f = by (rank a y) refl (full_more m x a l f.1)
    where
      by : (r : Ordering) → rank a y ≡ r → full m x (ins a l) → full (suc m) x (by_rank r (y ∷ ins a l) (better a y ∷ l) (a ∷ y ∷ l))
      by Less e ih = (f.0, ih)
      by Equal e ih = (alike_right rk.total (better a y) y x (rk.better_alike a y y e ∙ e) ∙ f.0, f.1)
      by Greater e ih = (rk.total.trans x y a f.0 (rk.total.antisymm y a ∙ ap ordering_reverse e), full_less m x (y ∷ l) f)

  -- what is inserted behind the front makes it longer
  pub full_ins : (m : ℕ) (z x : X) (l : List X) → rank z x ≡ Less → full m x l → full (suc m) z (ins x l)
  full_ins zero z x [] e f = (e, tt)
  full_ins zero z x (y ∷ l) e f = by (rank x y) refl
    where
      by : (r : Ordering) → rank x y ≡ r → full 1 z (by_rank r (y ∷ ins x l) (better x y ∷ l) (x ∷ y ∷ l))
      by Less d = (rk.total.trans z x y e d, tt)
      by Equal d = (alike_right rk.total (better x y) x z (rk.better_alike x y x d ∙ tied_itself rk.total x) ∙ e, tt)
      by Greater d = (e, tt)
  full_ins (suc m) z x [] e f = absurd f
  full_ins (suc m) z x (y ∷ l) e f = let ih = full_ins m z x l e f.1 in let low = rk.total.trans z x y e f.0 in rw f.0 (low, ih)

  pub unmoved : (m : ℕ) (x : X) (l : List X) → full m x l → take m (ins x l) ≡ take m l
  unmoved zero x l f = refl
  unmoved (suc m) x [] f = absurd f
  unmoved (suc m) x (y ∷ l) f = let ih = unmoved m x l f.1 in rw f.0 (ap (λ r. y ∷ r) ih)

  -- ---- the first m of l are ranked above all of the falling list w

  abbrev pub FullOver : ℕ → List X → List X → Type 0
  FullOver m [] l = Unit {0}
  FullOver m (y ∷ w) l = full m y l

  pub over_none : (w l : List X) → FullOver 0 w l
  over_none [] l = tt
  over_none (y ∷ w) l = tt

  pub over_rest : (m : ℕ) (y : X) (w l : List X) → T (above rank y w) → full m y l → FullOver m w l
  over_rest m y [] l t f = tt
  over_rest m y (z ∷ w) l t f = full_lower m z y l (less rk y z t) f

  pub over_top : (n m : ℕ) (y : X) (w l : List X) → T (above rank y w) → suc m ≤ n → full m y l → FullOver (suc m) w (kept rank better n l y)
  over_top n m y [] l t h f = tt
  over_top n m y (z ∷ w) l t h f = full_take (suc m) n z (ins y l) h (full_ins m z y l (less rk y z t) f)
