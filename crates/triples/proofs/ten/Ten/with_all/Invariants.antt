-- So far the first triples of the shard are taken in.
use Rattle.std.proofs.Common.{◌≡◌, take, fold}
use Rattle.triples.specs.Tens.{topped}
use Rattle.triples.specs.Held.{held}
use Rattle.triples.proofs.ten.Ten.with_all.Given as goal

abbrev pub invariant-loop-triple : goal.invariant-loop-triple
invariant-loop-triple l = held l.merged ≡ fold topped (held l.initial.merged) (take l.triple-index l.triple-items)
