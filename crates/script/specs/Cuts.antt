-- A text cut at the first of a byte.
use Rattle.std.specs.Prelude.{ℕ, cond, List, [], ◌∷◌, Some, None, Option, ◌==◌}

-- what stands before the first such byte, all where there is none
abbrev pub front : ℕ → List ℕ → List ℕ
front b [] = []
front b (c ∷ cs) = cond (c == b) [] (c ∷ front b cs)

-- what stands behind it
abbrev pub behind : ℕ → List ℕ → Option (List ℕ)
behind b [] = None
behind b (c ∷ cs) = cond (c == b) (Some cs) (behind b cs)
