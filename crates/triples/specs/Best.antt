-- What it is to hold the best of what has been seen, whatever program finds them.
use Rattle.std.specs.Prelude.{◌≡◌, ℕ, zero, suc, ◌≤◌, T, ◌⊎◌, List, [], ◌∷◌, length}
use Rattle.std.specs.declared.cmp.Ordering.TheVariants.{Less, Equal}
use Rattle.std.specs.declared.cmp.Ordering.{Ordering}
use Rattle.triples.specs.declared.triple.Triple.{Triple}
use Rattle.triples.specs.Falling.{falling}
use Rattle.triples.specs.Triples.{by_order, better}

-- x is in the list; by recursion, and not by an index as std's `Contains`, since all that is proved of it goes by cases on the list
abbrev pub Among : {X : Type 0} → X → List X → Type 0
Among x [] = ⊥
Among x (y ∷ ys) = (x ≡ y) ⊎ Among x ys

module _ {X : Type 0} (rank : X → X → Ordering) where
  -- the list has n elements at its front that are ranked above x
  abbrev pub Full : ℕ → X → List X → Type 0
  Full zero x ys = Unit {0}
  Full (suc n) x [] = ⊥
  Full (suc n) x (y ∷ ys) = (rank x y ≡ Less) × Full n x ys

  module _ (better : X → X → X) where
    -- an element of the list has x's rank, and is the better of the two
    abbrev pub Stands : X → List X → Type 0
    Stands x [] = ⊥
    Stands x (y ∷ ys) = ((rank x y ≡ Equal) × (better x y ≡ y)) ⊎ Stands x ys

    -- At most n are held, by falling rank, and each has been seen. Of what has been seen,
    -- either the best of its rank is held, or all that are held are ranked above it, and there are n of them.
    pub record Best (n : ℕ) (seen held : List X) : Type 0 where
      pub few : length held ≤ n
      pub falls : T (falling rank held)
      pub from : (x : X) → Among x held → Among x seen
      pub keeps : (x : X) → Among x seen → Stands x held ⊎ Full n x held

-- the ten triples of the highest orders, and of one order the greatest
abbrev pub BestTen : List Triple → List Triple → Type 0
BestTen = Best by_order better 10

-- what is held is the best of what has been seen, and no other list is
pub record Holds (seen held : List Triple) : Type 0 where
  pub best : BestTen seen held
  pub only : (l : List Triple) → BestTen seen l → l ≡ held
