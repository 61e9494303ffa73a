-- The values after a change, within the values and past them.
use Rattle.std.proofs.Common.{map, ap, ◌∙◌, rules}
use Rattle.serial.specs.Places.{modify}
use Rattle.serial.proofs.Places.{changed_within, changed_past}
use Rattle.serial.proofs.run.change.Goals as goal

pub returns-then-key-values : goal.returns-then-key-values
returns-then-key-values g c =
    let f = (g.K.Kind.model.rule c.args.entry.part c.args.verb).apply c.args.argument in
    changed_within g.K.Kind.meaning c.args.values.now c.from-key.result _ c.if-key-values.true c.index-values-key.is f _ (search rules)
    ∙ ap (λ k. modify k f (map g.K.Kind.meaning c.args.values.now)) c.from-key.ensures

pub returns-else-key-values : goal.returns-else-key-values
returns-else-key-values g c =
    let f = (g.K.Kind.model.rule c.args.entry.part c.args.verb).apply c.args.argument in
    changed_past g.K.Kind.meaning c.args.values.now c.from-key.result c.if-key-values.false f ∙ ap (λ k. modify k f (map g.K.Kind.meaning c.args.values.now)) c.from-key.ensures
