-- What the loop of `unescape` keeps.
use Rattle.std.proofs.Common.{◌≡◌, length, vec_items}
use Rattle.script.specs.Escapes.{unescaped}
use Rattle.script.proofs.Bytes.{after}
use Rattle.script.proofs.escapes.unescape.Given as goal

abbrev pub invariant-loop-rest : goal.invariant-loop-rest
invariant-loop-rest l = unescaped l.text ≡ after (vec_items l.bytes) (unescaped l.rest)

abbrev pub decreases-loop-rest : goal.decreases-loop-rest
decreases-loop-rest l = length l.rest
