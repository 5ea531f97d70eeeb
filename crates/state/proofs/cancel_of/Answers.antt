use borrow.Author.Tests.{eq-eqb, ne_eqb}
use Rattle.model.specs.State.{idle, serves_other}
use Rattle.state.specs.Change.{canceled_of}
use Rattle.state.proofs.cancel_of.Goals as goal

pub returns-then-call-eq0 : goal.returns-then-call-eq0
unfolding canceled_of serves_other idle
returns-then-call-eq0 c = rw (eq-eqb _ _ c.if-call-eq0.true)

pub returns-then-call-slot : goal.returns-then-call-slot
unfolding canceled_of serves_other idle
returns-then-call-slot c = rw (ne_eqb _ _ c.if-call-eq0.false, ne_eqb _ _ c.if-call-slot.true)

pub returns-then-call-slot-2 : goal.returns-then-call-slot-2
unfolding canceled_of serves_other idle
returns-then-call-slot-2 c =
    let if1 = c.if-call-eq0 in
    let if2 = c.if-call-slot in
    rw (ne_eqb _ _ if1.false, eq-eqb _ _ if2.false, eq-eqb _ _ c.if-call-slot-2.true)

pub returns : goal.returns
unfolding canceled_of serves_other idle
returns c =
    let if1 = c.if-call-eq0 in
    let if2 = c.if-call-slot in
    rw (ne_eqb _ _ if1.false, eq-eqb _ _ if2.false, ne_eqb _ _ c.if-call-slot-2.false)
