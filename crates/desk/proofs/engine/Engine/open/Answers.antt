-- What `open` ensures, where the search leaves it.
use Rattle.desk.specs.Engines.{quad_of}
use Rattle.desk.proofs.Starts.{opened_four}
use Rattle.desk.proofs.engine.Engine.open.Goals as goal

pub returns-in_ok-solo-in-Four : goal.returns-in_ok-solo-in-Four
returns-in_ok-solo-in-Four c =
    let start = c.start.ensures in
    opened_four c.args.opening.figures.workers c.args.opening.figures.keys c.args.opening.figures.first c.args.opening.kind _ (quad_of c.start.result) c.in-Four.is start.count start.lean start.last start.ten c.in_ok-solo-in-Four.ensures
