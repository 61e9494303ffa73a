-- At each way out of `entry_at`: the entry that was read, or where it is wrong.
use Rattle.std.proofs.lemmas.Result.{err_from_is_err_and}
use Rattle.slips.proofs.Reading.{bad_head, bad_key, bad_figure, whole, unended, ended}
use Rattle.slips.proofs.line.entry_at.Goals as goal

pub returns-in_err-head : goal.returns-in_err-head
returns-in_err-head c =
    let p = err_from_is_err_and c.from_residual.result c.from_residual.ensures.1 in
    let told = c.in_err-head.ensures in
    rw (p.1, p.2) (bad_head c.requires c.word_at-first.ensures _ told.0 told.1)

pub returns-in_err-key : goal.returns-in_err-key
returns-in_err-key c =
    let p = err_from_is_err_and c.from_residual-in_err-key.result c.from_residual-in_err-key.ensures.1 in
    let told = c.in_err-key.ensures in
    rw (p.1, p.2) (bad_key c.requires c.word_at-first.ensures c.in_ok-head.head c.in_ok-head.ensures c.next-second.ensures _ told.0 told.1)

pub returns-in_err-action : goal.returns-in_err-action
returns-in_err-action c =
    let p = err_from_is_err_and c.from_residual-in_err-action.result c.from_residual-in_err-action.ensures.1 in
    rw (p.1, p.2) (bad_figure c.requires c.word_at-first.ensures _ c.in_ok-head.ensures c.next-second.ensures _ c.in_ok-key.ensures c.next-third.ensures c.next-fourth.ensures _ c.in_err-action.ensures)

pub returns-in_err-end : goal.returns-in_err-end
returns-in_err-end c =
    let p = err_from_is_err_and c.from_residual-in_err-end.result c.from_residual-in_err-end.ensures.1 in
    let key = c.in_ok-key.ensures in
    let acts = c.in_ok-action.ensures in
    rw (p.1, p.2) (unended _ (key.0, acts.ranged) (whole c.requires c.word_at-first.ensures _ c.in_ok-head.ensures c.next-second.ensures _ key c.next-third.ensures c.next-fourth.ensures _ _ acts) _ c.in_err-end.ensures)

pub returns : goal.returns
returns c =
    let key = c.in_ok-key.ensures in
    let acts = c.in_ok-action.ensures in
    ended _ (key.0, acts.ranged) (whole c.requires c.word_at-first.ensures _ c.in_ok-head.ensures c.next-second.ensures _ key c.next-third.ensures c.next-fourth.ensures _ _ acts) _ c.in_ok-end.ensures
