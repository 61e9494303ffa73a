-- How a refusal is written.
use Rattle.std.specs.Prelude.{ℕ, List, [], ◌∷◌, ◌++◌, codes, decimal}

-- the number of a refusal, the entry and the byte that it names; want of memory has no number
abbrev pub refusal_text : List ℕ → List ℕ
refusal_text [] = codes "no memory"
refusal_text (n ∷ []) = codes "refused " ++ decimal n
refusal_text (n ∷ e ∷ []) = codes "refused " ++ (decimal n ++ (codes " entry " ++ decimal e))
refusal_text (n ∷ e ∷ b ∷ more) = codes "refused " ++ (decimal n ++ (codes " entry " ++ (decimal e ++ (codes " byte " ++ decimal b))))
