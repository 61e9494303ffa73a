-- The kind of counts: numbers from 0 that stop at 2 ^ 63 - 1.
use Rattle.std.specs.Prelude.{◌≡◌, ℕ, ◌+◌, ◌-◌, ◌^◌, ◌<◌, min, max, Bool, ℤ, pos, negsuc}
use mathlib.Core.HLevel.{is_prop→PathP}
use Rattle.std.proofs.Math.Bridge.{le_prop}
use Rattle.std.proofs.Common.{arith}
use Rattle.std.specs.Int.Signed.{non_neg}
use Rattle.kinds.specs.declared.operation.Verb.{Verb}
use Rattle.kinds.specs.declared.operation.Verb.TheVariants.{Put, Add, Max, Min, Last, Top}
use Rattle.kinds.specs.declared.operation.Argument.{Argument}
use Rattle.kinds.specs.Model.{Rule, Model}
use Rattle.kinds.specs.Rules.{refused, puts, joins, single}

-- the meaning of a count
pub record Amount : Type 0 where
  pub value : ℕ
  pub small : value < 2 ^ 63

-- the bound is a fact, so the number says all
pub amount_is : {x y : Amount} → x.value ≡ y.value → x ≡ y
amount_is {x} {y} e = λ i. record { value = e i; small = is_prop→PathP (λ j. e j < 2 ^ 63) (λ j. le_prop) x.small y.small i }

pub cap_small : (n : ℕ) → min n (2 ^ 63 - 1) < 2 ^ 63
cap_small n = omega arith

-- n, or the largest count if n is beyond it
abbrev pub capped : ℕ → Amount
capped n = record { value = min n (2 ^ 63 - 1); small = cap_small n }

-- a sum that stops at the top
abbrev pub plus : Amount → Amount → Amount
plus x y = capped (x.value + y.value)

pub max_small : (x y : Amount) → max x.value y.value < 2 ^ 63
max_small x y = omega arith

-- the larger of two
abbrev pub larger : Amount → Amount → Amount
larger x y = record { value = max x.value y.value; small = max_small x y }

-- the count 0
abbrev pub nothing : Amount
nothing = capped 0

-- what a number counts: nothing if it is below 0, which no verb takes
abbrev pub counted : ℤ → Amount
counted (pos n) = capped n
counted (negsuc n) = nothing

-- what an argument counts
abbrev pub of : Argument → Amount
of a = counted a.number

-- the number is 0 or above
abbrev pub from_zero : Argument → Bool
from_zero a = non_neg a.number

-- what each verb does
abbrev pub rules : Verb → Rule Amount
rules Put = puts from_zero of
rules Add = joins from_zero of plus nothing
rules Max = joins from_zero of larger nothing
rules Min = refused
rules Last = refused
rules Top = refused

-- the count is shown as number 0
abbrev pub show : ℕ → Amount → ℤ
show _ x = pos x.value

abbrev pub count_model : Model Amount
count_model = single rules 1 show
