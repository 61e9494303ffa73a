-- The theorem at the kind's model.
use Rattle.solo.proofs.History.{whole_runs}
use Rattle.solo.proofs.solo.promise.Goals as goal

pub returns : goal.returns
returns g c = whole_runs g.K.Kind.model
