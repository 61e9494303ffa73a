-- Lists by place: a change of one element, and a number read off one.
use Rattle.std.specs.Prelude.{ℕ, zero, suc, List, [], ◌∷◌, ℤ, pos}

module _ {A : Type 0} where
  -- f at place i, if there is one
  abbrev pub modify : ℕ → (A → A) → List A → List A
  modify i f [] = []
  modify zero f (x ∷ xs) = f x ∷ xs
  modify (suc i) f (x ∷ xs) = x ∷ modify i f xs

  -- the number that f reads at place i, and 0 past the end
  abbrev pub peek : ℕ → (A → ℤ) → List A → ℤ
  peek i f [] = pos 0
  peek zero f (x ∷ xs) = f x
  peek (suc i) f (x ∷ xs) = peek i f xs
