-- The theorem at the kind's model.
use Rattle.serial.proofs.Alone.{runs_alone}
use Rattle.serial.proofs.run.promise.Goals as goal

pub returns : goal.returns
returns g c = runs_alone g.K.Kind.model
