-- How numbers and keys are spelled, and what it is to read one.
use Rattle.std.specs.Prelude.{◌≡◌, ℕ, ◌^◌, ◌<◌, ◌≤◌, Bool, cond, ◌&&◌, List, ◌∷◌, ◌++◌, length, ℤ, Some, None, decimal, Option, FitsSigned, nat_lt}
use Rattle.std.specs.Int.{w64}
use Rattle.std.specs.Fmt.{signed_decimal}
use Rattle.std.specs.Str.Parse.{digits_value}
use Rattle.std.specs.Str.{all_ascii_digits}

-- one decimal digit or more, whose value fits 64 bits
abbrev pub is_numeral : List ℕ → Bool
is_numeral w = nat_lt 0 (length w) && (all_ascii_digits w && nat_lt (digits_value 10 w) (2 ^ 64))

abbrev pub numeral : List ℕ → Option ℕ
numeral w = cond (is_numeral w) (Some (digits_value 10 w)) None

-- a key and a part, with a point between them
abbrev pub keyed : ℕ → ℕ → List ℕ
keyed k p = decimal k ++ (46 ∷ decimal p)

abbrev pub IsKey : ℕ → ℕ → Type 0
IsKey k p = (k < 10000) × (p < 10)

-- bytes that spell a number up to a bound, a number of 64 bits with its sign, a key with its part
abbrev pub Decimal : ℕ → ℕ → List ℕ → Type 0
Decimal most n bs = (n ≤ most) × (bs ≡ decimal n)

abbrev pub Integer : ℤ → List ℕ → Type 0
Integer z bs = FitsSigned w64 z × (bs ≡ signed_decimal z)

abbrev pub Keyed : ℕ × ℕ → List ℕ → Type 0
Keyed k bs = IsKey k.0 k.1 × (bs ≡ keyed k.0 k.1)

-- what bytes spell is given, and none where they spell nothing
module _ {A : Type 0} (spelling : A → List ℕ → Type 0) where
  abbrev pub Spelt : List ℕ → Option A → Type 0
  Spelt bs None = (a : A) → spelling a bs → ⊥
  Spelt bs (Some a) = spelling a bs
