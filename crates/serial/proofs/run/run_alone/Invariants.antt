-- What the answers so far and the rest of the run give is the whole run.
use Rattle.std.proofs.Common.{◌≡◌, ◌≤◌, map, drop, length}
use Rattle.serial.specs.Answers.{listed}
use Rattle.serial.specs.Serial.{serial}
use Rattle.serial.proofs.Steps.{follow}
use Rattle.serial.proofs.run.run_alone.Given as goal

abbrev pub invariant-loop-i : goal.invariant-loop-i
invariant-loop-i g l =
    (length (listed l.answers) ≤ l.i)
    × (follow (listed l.answers) (serial g.K.Kind.model l.worker l.i (drop l.i l.all) (map g.K.Kind.meaning l.values))
    ≡ serial g.K.Kind.model l.worker 0 l.all (map g.K.Kind.meaning l.initial.values))
