-- The entries with one more behind them.
use Rattle.std.proofs.Common.{arith}
use Rattle.std.proofs.lemmas.List.{take_more_set, length-take-le}
use Rattle.slips.proofs.entries.Entries.push.Goals as goal

pub returns : goal.returns
returns c =
    let es = c.args.self.now in
    take_more_set es.items es.len c.args.entry (omega (arith, es.long, es.few, c.requires, length-take-le es.len es.items (omega (arith, es.long, es.few))))
