-- The laws of leans.
use Rattle.std.proofs.Common.{sym, ap, ◌∙◌, arith}
use Rattle.std.proofs.Math.IntN.{+ℤ_idr, +ℤ_comm, +ℤ_assoc}
use Rattle.std.specs.Int.{int_wrap, w64}
use Rattle.std.proofs.lemmas.Int.{ints, clamps, int_wrap_fits, int_wrap-add_left, int_wrap-add_right}
use Rattle.kinds.specs.declared.operation.Verb.{Verb}
use Rattle.kinds.specs.declared.operation.Verb.TheVariants.{Put, Add, Max, Min, Last, Top}
use Rattle.kinds.specs.Model.{Lawful, Laws}
use Rattle.numbers.specs.Leans.{long_is, plus, larger, smaller, zero, least, greatest, of, rules, lean_model}
use Rattle.kinds.specs.Rules.{any}
use Rattle.kinds.specs.RuleLaws.{Join, refused_lawful, puts_lawful, joins_lawful, single_laws}

plus_join : Join plus zero
plus_join = record {
  unit = λ x. long_is (ap (int_wrap w64) (+ℤ_idr x.value) ∙ int_wrap_fits w64 x.value (record { sfits = x.fits }));
  comm = λ x y. long_is (ap (int_wrap w64) (+ℤ_comm x.value y.value));
  assoc = λ x y z. long_is (int_wrap-add_left w64 _ _ ∙ ap (int_wrap w64) (+ℤ_assoc x.value y.value z.value) ∙ sym (int_wrap-add_right w64 _ _));
}

larger_join : Join larger least
larger_join = record {
  unit = λ x. long_is (omega (arith, ints, clamps, x.fits));
  comm = λ x y. long_is (omega (arith, ints, clamps));
  assoc = λ x y z. long_is (omega (arith, ints, clamps));
}

smaller_join : Join smaller greatest
smaller_join = record {
  unit = λ x. long_is (omega (arith, ints, clamps, x.fits));
  comm = λ x y. long_is (omega (arith, ints, clamps));
  assoc = λ x y z. long_is (omega (arith, ints, clamps));
}

pub lawful : (v : Verb) → Lawful (rules v)
lawful Put = puts_lawful any of
lawful Add = joins_lawful any of plus_join
lawful Max = joins_lawful any of larger_join
lawful Min = joins_lawful any of smaller_join
lawful Last = refused_lawful
lawful Top = refused_lawful

pub lean_laws : Laws lean_model
lean_laws = single_laws rules _ _ lawful
