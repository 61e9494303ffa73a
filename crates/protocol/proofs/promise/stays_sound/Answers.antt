-- The theorem at the kind's model.
use Rattle.protocol.proofs.Soundness.{stays_sound_lem}
use Rattle.protocol.proofs.promise.stays_sound.Goals as goal

pub returns : goal.returns
returns g c = stays_sound_lem g.K.Kind.model
