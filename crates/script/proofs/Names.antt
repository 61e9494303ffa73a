-- A word that is no name is told from each, and a word is read as the kind that it names.
use Rattle.std.proofs.Common.{◌≡◌, ℕ, false, List, Some, codes, ap, refl, ◌∙◌, Result, Ok, Err, arith}
use Rattle.std.specs.Str.{bytes_eq}
use Rattle.std.specs.Result.{result_ok}
use Rattle.std.proofs.lemmas.Slice.Eq.{bytes_eq-Decides}
use Rattle.std.proofs.lemmas.Grind.{common_steps}
use Rattle.script.specs.Commands.{KindNamed, kind_text, kind_by_name}
use Rattle.script.specs.declared.commands.KindName.{KindName}
use Rattle.script.specs.declared.commands.KindName.TheVariants.{Count, Four}
use Rattle.script.specs.declared.commands.UnknownKind.{UnknownKind}

pub other : (w t : List ℕ) → (w ≡ t → ⊥) → bytes_eq w t ≡ false
other w t ne = grind (arith, common_steps, bytes_eq-Decides w t)

pub ruleset unnamed = (common_steps, other)

pub kind_back : (k : KindName) → kind_by_name (kind_text k) ≡ Some k
kind_back Count = refl
kind_back Four = refl

pub kind_read : (w : List ℕ) (r : Result KindName UnknownKind) → KindNamed w r → kind_by_name w ≡ result_ok r
kind_read w (Ok kind) e = ap kind_by_name e ∙ kind_back kind
kind_read w (Err x) ne = grind (arith, common_steps, other w (codes "count") (ne Count), other w (codes "four") (ne Four))
