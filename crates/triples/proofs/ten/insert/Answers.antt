-- A triple passes the carried one, changes places with it, or meets it; at the end the carried one arrives.
use Rattle.std.proofs.Common.{◌≡◌, get_or, sym, arith, rules, length-take, length-set}
use Rattle.triples.specs.Triples.{zero, by_order, better}
use Rattle.triples.proofs.Placing.{passes, swaps, meets, arrives, kept_whole, kept_longer, kept_full}
use Rattle.std.proofs.lemmas.List.{set-get_or}
use Rattle.triples.proofs.ten.insert.Goals as goal
use Rattle.triples.proofs.ten.insert.Goals.{in-Less, in-Greater}

pub returns-in-Equal-clause-placed : goal.returns-in-Equal-clause-placed
returns-in-Equal-clause-placed c =
    let l = c.loop-here in
    let best : better l.carried (get_or l.here-items l.here-index zero) ≡ c.max.result = search rules in
    let met = meets by_order better _ l.here-items l.here-index l.carried zero (omega arith) (sym c.in-Equal.ensures) l.invariant in
    kept_whole 10 c.args.len _ _ _ (omega (arith, length-take c.args.len c.args.triples.now, length-set l.here-items l.here-index c.max.result)) c.requires.few (rw best at met)

pub loop-here-preserved : goal.loop-here-preserved
loop-here-preserved c =
    let l = c.loop-here in
    elim c.match-cmp.branch [
      | in-Less w ↦ rw (w.here-items-is, w.carried-is, set-get_or l.here-items l.here-index zero) (passes by_order better _ l.here-items l.here-index l.carried zero (omega arith) (sym w.in-Less.ensures) l.invariant)
      | in-Greater w ↦ rw (w.here-items-is, w.carried-is, w.swap.ensures.x_after, w.swap.ensures.y_after) (swaps by_order better _ l.here-items l.here-index l.carried zero (omega arith) (sym w.in-Greater.ensures) l.invariant)
    ]
