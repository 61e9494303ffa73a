-- The word of each verb.
use Rattle.std.specs.Prelude.{ℕ, List, codes}
use Rattle.kinds.specs.declared.operation.Verb.{Verb}
use Rattle.kinds.specs.declared.operation.Verb.TheVariants.{Put, Add, Max, Min, Last, Top}

-- as a transaction's text writes it
abbrev pub verb_text : Verb → List ℕ
verb_text Put = codes "put"
verb_text Add = codes "add"
verb_text Max = codes "max"
verb_text Min = codes "min"
verb_text Last = codes "last"
verb_text Top = codes "top"
