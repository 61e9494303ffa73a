-- What the front of a written text stands for, and what the bytes read so far make of the rest.
use Rattle.std.proofs.Common.{◌≡◌, ℕ, ◌<◌, ◌≤◌, List, [], ◌∷◌, ◌++◌, length, get_or, drop, Option, arith}
use Rattle.std.specs.Option.{option_map, option_and_then}
use Rattle.std.proofs.lemmas.Grind.{common_steps}
use Rattle.script.specs.Escapes.{hex_pair, onto, unescaped}

pub reads_line : (text : List ℕ) → 2 ≤ length text → get_or text 0 0 ≡ 92 → get_or text 1 0 ≡ 110 → unescaped text ≡ onto 10 (unescaped (drop 2 text))
reads_line [] two slash n = absurd (omega arith)
reads_line (c ∷ []) two slash n = absurd (omega arith)
reads_line (c ∷ d ∷ cs) two slash n = grind (arith, common_steps)

pub reads_slash : (text : List ℕ) → 2 ≤ length text → get_or text 0 0 ≡ 92 → get_or text 1 0 ≡ 92 → unescaped text ≡ onto 92 (unescaped (drop 2 text))
reads_slash [] two slash again = absurd (omega arith)
reads_slash (c ∷ []) two slash again = absurd (omega arith)
reads_slash (c ∷ d ∷ cs) two slash again = grind (arith, common_steps)

pub reads_hex : (text : List ℕ) → 4 ≤ length text → get_or text 0 0 ≡ 92 → get_or text 1 0 ≡ 120
    → unescaped text ≡ option_and_then (λ b. onto b (unescaped (drop 4 text))) (hex_pair (get_or text 2 0) (get_or text 3 0))
reads_hex [] four slash x = absurd (omega arith)
reads_hex (c ∷ []) four slash x = absurd (omega arith)
reads_hex (c ∷ d ∷ []) four slash x = absurd (omega arith)
reads_hex (c ∷ d ∷ h ∷ []) four slash x = absurd (omega arith)
reads_hex (c ∷ d ∷ h ∷ l ∷ cs) four slash x = grind (arith, common_steps)

pub reads_itself : (text : List ℕ) → 0 < length text → (get_or text 0 0 ≡ 92 → ⊥) → unescaped text ≡ onto (get_or text 0 0) (unescaped (drop 1 text))
reads_itself [] some other = absurd (omega arith)
reads_itself (c ∷ cs) some other = grind (arith, common_steps)

pub ruleset fronts = (common_steps, reads_line, reads_slash, reads_hex, reads_itself)

-- bytes that were read, in front of what the rest stands for
abbrev pub after : List ℕ → Option (List ℕ) → Option (List ℕ)
after bytes o = option_map (λ rest. bytes ++ rest) o

pub after_more : (bytes : List ℕ) (b : ℕ) (o : Option (List ℕ)) → after bytes (onto b o) ≡ after (bytes ++ (b ∷ [])) o
after_more bytes b o = grind (arith, common_steps)
