-- What an entry reads, within the values and past them.
use Rattle.std.proofs.Common.{◌∙◌, w64, rules}
use Rattle.std.proofs.lemmas.Int.{to_z-of_z}
use Rattle.serial.proofs.Places.{read_at}
use Rattle.serial.proofs.run.read.Goals as goal

pub returns : goal.returns
returns g c =
    to_z-of_z w64 c.map_or.result (record { sfits = c.map_or.type_inv })
    ∙ read_at g.K.Kind.meaning c.args.values.now c.from.result c.args.entry.key (g.K.Kind.model.shown c.args.entry.part c.args.number) c.get.result c.map_or.result
    c.from.ensures (search rules) (search rules)
