-- What a text with escapes stands for, two ways to write any bytes, and that both are read back.
use Rattle.std.specs.Prelude.{◌≡◌, ℕ, ◌+◌, ◌-◌, ◌*◌, ◌/◌, ◌%◌, ◌<◌, Bool, cond, List, [], ◌∷◌, Some, None, Option, ◌==◌, Result, Ok, Err, Vec, vec_items, ⊤}
use Rattle.std.specs.List.{flat_map, AllByRecursion}
use Rattle.std.specs.Option.{option_map, option_and_then}
use Rattle.std.specs.Int.{is_in_range}
use Rattle.std.specs.Fmt.{digit_glyph}
use Rattle.std.specs.declared.alloc.Global.{Global}
use Rattle.script.specs.declared.escapes.UnescapeError.{UnescapeError}
use Rattle.script.specs.declared.escapes.UnescapeError.TheVariants.{BadEscape, Memory}

-- what a hexadecimal digit of either case is worth
abbrev pub hex_digit_of : ℕ → Option ℕ
hex_digit_of c = cond (is_in_range 48 57 c) (Some (c - 48)) (cond (is_in_range 65 70 c) (Some (c - 65 + 10)) (cond (is_in_range 97 102 c) (Some (c - 97 + 10)) None))

-- the byte of two such digits
abbrev pub hex_pair : ℕ → ℕ → Option ℕ
hex_pair high low = option_and_then (λ h. option_map (λ l. 16 * h + l) (hex_digit_of low)) (hex_digit_of high)

-- one byte more in front
abbrev pub onto : ℕ → Option (List ℕ) → Option (List ℕ)
onto c o = option_map (λ cs. c ∷ cs) o

-- how far into an escape the reader is: in none, behind a backslash, or behind `\x`
pub data Within : Type 0 where
  outside : Within
  slashed : Within
  hexed : Within

abbrev pub reading : Within → List ℕ → Option (List ℕ)
reading outside [] = Some []
reading outside (c ∷ cs) = cond (c == 92) (reading slashed cs) (onto c (reading outside cs))
reading slashed [] = None
reading slashed (c ∷ cs) =
    cond (c == 110) (onto 10 (reading outside cs)) (cond (c == 92) (onto 92 (reading outside cs)) (cond (c == 120) (reading hexed cs) None))
reading hexed [] = None
reading hexed (h ∷ []) = None
reading hexed (h ∷ l ∷ cs) = option_and_then (λ b. onto b (reading outside cs)) (hex_pair h l)

-- the bytes that a text stands for, none where it has a bad escape
abbrev pub unescaped : List ℕ → Option (List ℕ)
unescaped text = reading outside text

-- how a written text is read: as its bytes, or not where it has a bad escape; a want of memory says nothing of the text
abbrev pub Unescapes : List ℕ → Result (Vec ℕ Global) UnescapeError → Type 0
Unescapes text (Ok bytes) = unescaped text ≡ Some (vec_items bytes)
Unescapes text (Err BadEscape) = unescaped text ≡ None
Unescapes text (Err Memory) = ⊤

-- any bytes with `\n` for byte 10 and a doubled backslash
abbrev pub escape_byte : ℕ → List ℕ
escape_byte b = cond (b == 10) (92 ∷ 110 ∷ []) (cond (b == 92) (92 ∷ 92 ∷ []) (b ∷ []))

abbrev pub escape : List ℕ → List ℕ
escape bytes = flat_map escape_byte bytes

-- any bytes as `\xHH`, with the letters of one case
abbrev pub hex_byte : Bool → ℕ → List ℕ
hex_byte upper b = 92 ∷ 120 ∷ digit_glyph upper (b / 16) ∷ digit_glyph upper (b % 16) ∷ []

abbrev pub escape_hex : Bool → List ℕ → List ℕ
escape_hex upper bytes = flat_map (hex_byte upper) bytes

abbrev pub EscapesReadBack : Type 0
EscapesReadBack =
    ((bytes : List ℕ) → unescaped (escape bytes) ≡ Some bytes)
    × ((upper : Bool) (bytes : List ℕ) → AllByRecursion (λ b. b < 256) bytes → unescaped (escape_hex upper bytes) ≡ Some bytes)
