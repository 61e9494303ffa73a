-- The orders still fall, and what is held is the best with one more.
use Rattle.std.proofs.Common.{T, sym, subst}
use Rattle.triples.specs.Triples.{by_order}
use Rattle.triples.specs.Falling.{falling}
use Rattle.triples.specs.Tens.{tops, top_falls}
use Rattle.triples.proofs.TenHolds.{holds_more}
use Rattle.triples.proofs.ten.Ten.with.Goals as goal

pub invariant_of-result-clause-falls : goal.invariant_of-result-clause-falls
invariant_of-result-clause-falls c =
    let x = c.args.self in
    subst (λ l. T (falling by_order l)) (sym c.insert-len.ensures.placed) (top_falls (tops x.len x.triples x.few x.falls) c.args.new)

pub returns-clause-holds : goal.returns-clause-holds
returns-clause-holds c = λ seen h. holds_more seen _ _ c.args.new c.insert-len.ensures.placed h
