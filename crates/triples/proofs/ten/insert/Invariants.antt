-- What is passed has its place, and what is carried is to be put among the rest.
use Rattle.triples.specs.Triples.{by_order, better}
use Rattle.triples.specs.Falling.{inserted}
use Rattle.triples.proofs.Placing.{Carried}
use Rattle.triples.proofs.ten.insert.Given as goal

abbrev pub invariant-loop-here : goal.invariant-loop-here
invariant-loop-here l =
    Carried by_order better (inserted by_order better l.initial.carried l.initial.here-items) l.here-index l.here-items l.carried
