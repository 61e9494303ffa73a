-- The kinds of `Four` have their parts and keep the laws.
use Rattle.std.proofs.Common.{ℕ, suc, lit<}
use Rattle.kinds.specs.Model.{Model}
use Rattle.kinds.specs.Rules.{pair}
use Rattle.kinds.specs.RuleLaws.{pair_laws}
use Rattle.kinds.proofs.RuleParts.{single_parts, pair_parts}
use Rattle.numbers.specs.Counts.{count_model}
use Rattle.numbers.specs.Leans.{lean_model}
use Rattle.numbers.specs.CountLaws.{count_laws}
use Rattle.numbers.specs.LeanLaws.{lean_laws}
use Rattle.triples.specs.Lasts.{last_model}
use Rattle.triples.specs.Tens.{ten_model}
use Rattle.triples.specs.LastLaws.{last_laws}
use Rattle.triples.specs.TenLaws.{ten_laws}
use Rattle.four.specs.Fours.{Keeps, Sound}

count : Keeps 1 count_model
count = record { parts = single_parts _ _ _ (lit< tt); laws = count_laws }

lean : Keeps 1 lean_model
lean = record { parts = single_parts _ _ _ (lit< tt); laws = lean_laws }

last : Keeps 1 last_model
last = record { parts = single_parts _ _ _ (lit< tt); laws = last_laws }

ten : Keeps 1 ten_model
ten = record { parts = single_parts _ _ _ (lit< tt); laws = ten_laws }

paired : {M N : Type 0} {first : Model M} {second : Model N} (n : ℕ) → Keeps 1 first → Keeps n second → Keeps (suc n) (pair first second)
paired n f s = record { parts = pair_parts 0 n f.parts s.parts; laws = pair_laws f.laws s.laws }

pub sound : Sound
sound = record { count = count; lean = lean; last = last; ten = ten; four = paired 3 count (paired 2 lean (paired 1 last ten)) }
