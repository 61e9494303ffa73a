-- The kind of leans: signed numbers of 64 bits.
use Rattle.std.specs.Prelude.{◌≡◌, ℕ, ◌-◌, ◌^◌, ◌<◌, Bool, true, false, cond, ℤ, pos, negsuc, ◌+ℤ◌, int_lt}
use mathlib.Core.HLevel.{is_prop→PathP}
use Rattle.std.proofs.Math.Bridge.{le_prop}
use Rattle.std.proofs.Common.{lit<}
use Rattle.std.specs.Int.Signed.{mag}
use Rattle.std.specs.Int.{int_max, int_min, int_wrap, w64}
use Rattle.std.proofs.lemmas.Int.{SFits-int_wrap}
use Rattle.kinds.specs.declared.operation.Verb.{Verb}
use Rattle.kinds.specs.declared.operation.Verb.TheVariants.{Put, Add, Max, Min, Last, Top}
use Rattle.kinds.specs.declared.operation.Argument.{Argument}
use Rattle.kinds.specs.Model.{Rule, Model}
use Rattle.kinds.specs.Rules.{any, refused, puts, joins, single}

-- the meaning of a lean: from -2 ^ 63 to 2 ^ 63 - 1
pub record Long : Type 0 where
  pub value : ℤ
  pub fits : mag value < 2 ^ 63

-- the bound is a fact, so the number says all
pub long_is : {x y : Long} → x.value ≡ y.value → x ≡ y
long_is {x} {y} e = λ i. record { value = e i; fits = is_prop→PathP (λ j. mag (e j) < 2 ^ 63) (λ j. le_prop) x.fits y.fits i }

pub wrapped_small : (z : ℤ) → mag (int_wrap w64 z) < 2 ^ 63
wrapped_small z = (SFits-int_wrap w64 z).sfits

-- z modulo 2 ^ 64, which is z if it has 64 bits
abbrev pub long : ℤ → Long
long z = record { value = int_wrap w64 z; fits = wrapped_small z }

-- a sum that wraps
abbrev pub plus : Long → Long → Long
plus x y = long (x.value +ℤ y.value)

pub one_small : (b : Bool) (x y : Long) → mag (cond b x.value y.value) < 2 ^ 63
one_small true x y = x.fits
one_small false x y = y.fits

-- the larger of two
abbrev pub larger : Long → Long → Long
larger x y = record { value = int_max x.value y.value; fits = one_small (int_lt y.value x.value) x y }

-- the smaller of two
abbrev pub smaller : Long → Long → Long
smaller x y = record { value = int_min x.value y.value; fits = one_small (int_lt y.value x.value) y x }

-- the lean 0
abbrev pub zero : Long
zero = record { value = pos 0; fits = lit< tt }

-- -2 ^ 63
abbrev pub least : Long
least = record { value = negsuc (2 ^ 63 - 1); fits = lit< tt }

-- 2 ^ 63 - 1
abbrev pub greatest : Long
greatest = record { value = pos (2 ^ 63 - 1); fits = lit< tt }

-- what an argument says
abbrev pub of : Argument → Long
of a = long a.number

-- what each verb does
abbrev pub rules : Verb → Rule Long
rules Put = puts any of
rules Add = joins any of plus zero
rules Max = joins any of larger least
rules Min = joins any of smaller greatest
rules Last = refused
rules Top = refused

-- the number is shown as number 0
abbrev pub show : ℕ → Long → ℤ
show _ x = x.value

abbrev pub lean_model : Model Long
lean_model = single rules 1 show
