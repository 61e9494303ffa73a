-- The answer goes behind those that are there.
use Rattle.std.proofs.Common.{[], ◌∷◌, ◌++◌, take, ℤ, ap, ◌∙◌, w64, arith}
use Rattle.std.proofs.lemmas.List.{take_more_set, length-take-le}
use Rattle.std.proofs.lemmas.Int.{to_z-of_z}
use Rattle.serial.proofs.readings.Answers.push.Goals as goal

pub returns : goal.returns
returns c =
    let a = c.args.self.now in
    take_more_set a.items a.len _ (omega (arith, a.long, a.few, c.requires, length-take-le a.len a.items (omega (arith, a.long, a.few))))
    ∙ ap (λ (x : ℤ). take a.len a.items ++ x ∷ []) (to_z-of_z w64 c.args.answer c.ranges.answer)
