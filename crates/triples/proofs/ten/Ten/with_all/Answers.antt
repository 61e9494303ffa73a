-- What is held is the best of all that either has seen.
use Rattle.std.proofs.Common.{◌≡◌, fold, arith}
use Rattle.std.proofs.lemmas.Grind.{common_steps}
use Rattle.triples.specs.Tens.{topped}
use Rattle.triples.specs.Held.{held}
use Rattle.triples.proofs.TenHolds.{holds_merged}
use Rattle.triples.proofs.ten.Ten.with_all.Goals as goal

pub returns-clause-holds : goal.returns-clause-holds
returns-clause-holds c =
    let merged : held c.loop-triple.merged ≡ fold topped (held c.args.self) (held c.args.shard.now) = grind (arith, common_steps) in
    λ seen aside h g. holds_merged seen _ aside _ _ merged h g
