-- The laws of counts.
use Rattle.std.proofs.Common.{arith}
use Rattle.kinds.specs.declared.operation.Verb.{Verb}
use Rattle.kinds.specs.declared.operation.Verb.TheVariants.{Put, Add, Max, Min, Last, Top}
use Rattle.kinds.specs.Model.{Lawful, Laws}
use Rattle.numbers.specs.Counts.{amount_is, plus, larger, nothing, of, from_zero, rules, count_model}
use Rattle.kinds.specs.RuleLaws.{Join, refused_lawful, puts_lawful, joins_lawful, single_laws}

plus_join : Join plus nothing
plus_join = record {
  unit = λ x. amount_is (omega (arith, x.small));
  comm = λ x y. amount_is (omega arith);
  assoc = λ x y z. amount_is (omega arith);
}

larger_join : Join larger nothing
larger_join = record {
  unit = λ x. amount_is (omega (arith, x.small));
  comm = λ x y. amount_is (omega arith);
  assoc = λ x y z. amount_is (omega arith);
}

pub lawful : (v : Verb) → Lawful (rules v)
lawful Put = puts_lawful from_zero of
lawful Add = joins_lawful from_zero of plus_join
lawful Max = joins_lawful from_zero of larger_join
lawful Min = refused_lawful
lawful Last = refused_lawful
lawful Top = refused_lawful

pub count_laws : Laws count_model
count_laws = single_laws rules _ _ lawful
