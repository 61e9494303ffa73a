-- One more entry is read, and at each way out the answer is the only one.
use Rattle.std.proofs.Common.{Ok, Err, sym, refl, subst, inr, arith, rules}
use Rattle.slips.specs.declared.fault.Fault.TheVariants.{Grammar}
use Rattle.slips.specs.Reads.{Sized, ReadAs, told}
use Rattle.slips.specs.Wrong.{Fails}
use Rattle.slips.proofs.Exact.{only_one}
use Rattle.slips.proofs.Loop.{Read, read_more, read_all, room, fails_there}
use Rattle.slips.proofs.reader.read.Goals as goal

pub push-requires : goal.push-requires
push-requires c = omega (arith, room _ _ _ _ _ c.loop-at.invariant c.in-Ok.ensures, c.count_endings.ensures)

pub loop-at-preserved : goal.loop-at-preserved
loop-at-preserved c = subst (λ l. Read c.args.text.now l c.in-Ok.next) (sym c.push.ensures) (read_more _ _ _ _ _ c.loop-at.invariant c.in-Ok.ensures)

pub returns-in-Err : goal.returns-in-Err
returns-in-Err c =
    let text = c.args.text.now in
    let fails : Fails text c.len-entry.result c.in-Err.byte = subst (λ n. Fails text n c.in-Err.byte) (sym c.len-entry.ensures) (fails_there _ _ _ _ c.loop-at.invariant c.loop-at-test.true c.in-Err.ensures) in
    let sized : Sized text = (search rules, search rules, search rules) in
    let reads : ReadAs text (told (Err (Grammar c.len-entry.result c.in-Err.byte))) = inr (sized, (_, _, fails, refl)) in
    record { reads = reads; only = λ q h. only_one text q _ h reads }

pub returns : goal.returns
returns c =
    let text = c.args.text.now in
    let sized : Sized text = (search rules, search rules, search rules) in
    let reads : ReadAs text (told (Ok c.loop-at.entries)) = (sized, c.loop-at.invariant.ranged, read_all _ _ _ c.loop-at.invariant c.loop-at-test.false) in
    record { reads = reads; only = λ q h. only_one text q _ h reads }
