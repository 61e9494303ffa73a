-- Bytes written with escapes are read back.
use Rattle.std.proofs.Common.{◌≡◌, ℕ, ◌/◌, ◌%◌, ◌<◌, Bool, List, [], ◌∷◌, ◌++◌, Some, refl, arith}
use Rattle.std.specs.Fmt.{digit_glyph}
use Rattle.std.specs.List.{AllByRecursion}
use Rattle.std.proofs.lemmas.Grind.{common_steps}
use Rattle.std.proofs.lemmas.Bool.Decides.{nat_tests}
use Rattle.script.specs.Escapes.{hex_digit_of, hex_pair, onto, unescaped, escape_byte, escape, escape_hex, EscapesReadBack}

escaped_byte : (b : ℕ) (rest : List ℕ) → unescaped (escape_byte b ++ rest) ≡ onto b (unescaped rest)
escaped_byte b rest = grind (arith, common_steps)

escaped : (bytes : List ℕ) → unescaped (escape bytes) ≡ Some bytes
escaped [] = refl
escaped (b ∷ bs) = grind (arith, common_steps, escaped_byte b (escape bs), escaped bs)

hex_digit_of_digit_glyph : (upper : Bool) (d : ℕ) → d < 16 → hex_digit_of (digit_glyph upper d) ≡ Some d
hex_digit_of_digit_glyph upper d small = grind (arith, nat_tests)

hex_pair_digit_glyph : (upper : Bool) (b : ℕ) → b < 256 → hex_pair (digit_glyph upper (b / 16)) (digit_glyph upper (b % 16)) ≡ Some b
hex_pair_digit_glyph upper b small =
    grind (arith, common_steps, hex_digit_of_digit_glyph upper (b / 16) (omega arith), hex_digit_of_digit_glyph upper (b % 16) (omega arith))

hexed_back : (upper : Bool) (bytes : List ℕ) → AllByRecursion (λ b. b < 256) bytes → unescaped (escape_hex upper bytes) ≡ Some bytes
hexed_back upper [] small = refl
hexed_back upper (b ∷ bs) small = grind (arith, common_steps, hex_pair_digit_glyph upper b small.0, hexed_back upper bs small.1)

pub read_back : EscapesReadBack
read_back = (escaped, hexed_back)
