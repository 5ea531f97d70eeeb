use Rattle.keep.proofs.Places.{end-stored}
use borrow.Author.Tests.{ne_eqb}
use Rattle.keep.specs.Keep.{ended_bytes}
use Rattle.keep.proofs.end.Goals as goal

pub returns-then-state-ne9688 : goal.returns-then-state-ne9688
unfolding ended_bytes
returns-then-state-ne9688 c = rw (ne_eqb _ _ c.if-state-ne9688.true)

pub returns : goal.returns
returns c =
    let c2 = c in
    let c6 = c2 in
    let c10 = c6 in
    let c12 = c10 in
    let a = c12.args in
    end-stored a.state.now c12.if-state-ne9688.false a.slot _ _ _ c10.leave_rows.ensures c6.leave_rows-2.ensures c2.drop_calls.ensures
