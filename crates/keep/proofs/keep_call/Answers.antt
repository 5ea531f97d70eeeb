use borrow.Author.Tests.{eq-eqb, ne_eqb, lt-ltb, le-ltb}
use Rattle.keep.specs.Keep.{kept_call}
use Rattle.keep.proofs.keep_call.Goals as goal

pub returns-then-state-ne9688 : goal.returns-then-state-ne9688
unfolding kept_call
returns-then-state-ne9688 c = rw (ne_eqb _ _ c.if-state-ne9688.true)

pub returns-then-k-ge32 : goal.returns-then-k-ge32
unfolding kept_call
returns-then-k-ge32 c = rw (eq-eqb _ _ c.if-state-ne9688.false, le-ltb _ _ c.if-k-ge32.true)

pub returns : goal.returns
unfolding kept_call
returns c =
    let c2 = c in
    let c4 = c2 in
    rw (eq-eqb _ _ c4.if-state-ne9688.false, lt-ltb _ _ c4.if-k-ge32.false) c2.store_call.ensures
