-- The theorem at the kind's model and laws.
use Rattle.protocol.proofs.Promised.{promised}
use Rattle.protocol.proofs.promise.promise.Goals as goal

pub returns : goal.returns
returns g c = promised g.K.Kind.model g.met.K.Kind.laws
