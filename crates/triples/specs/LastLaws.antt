-- The laws of the last triple.
use Rattle.kinds.specs.declared.operation.Verb.{Verb}
use Rattle.kinds.specs.declared.operation.Verb.TheVariants.{Put, Add, Max, Min, Last, Top}
use Rattle.kinds.specs.Model.{Lawful, Laws}
use Rattle.triples.specs.Lasts.{of, rules, last_model}
use Rattle.kinds.specs.Rules.{any}
use Rattle.triples.specs.TripleOrder.{latest_join}
use Rattle.kinds.specs.RuleLaws.{refused_lawful, joins_lawful, single_laws}

pub lawful : (v : Verb) → Lawful (rules v)
lawful Put = refused_lawful
lawful Add = refused_lawful
lawful Max = refused_lawful
lawful Min = refused_lawful
lawful Last = joins_lawful any of latest_join
lawful Top = refused_lawful

pub last_laws : Laws last_model
last_laws = single_laws rules _ _ lawful
