use borrow.Author.Tests.{eq-eqb, ne_eqb}
use Rattle.model.specs.State.{idle, concerns, dropped}
use Rattle.state.proofs.dropped.Goals as goal

pub returns-then-call-eq0 : goal.returns-then-call-eq0
unfolding dropped concerns idle
returns-then-call-eq0 c = rw (eq-eqb _ _ c.if-call-eq0.true)

pub returns-then-call-slot : goal.returns-then-call-slot
unfolding dropped concerns idle
returns-then-call-slot c = rw (ne_eqb _ _ c.if-call-eq0.false, eq-eqb _ _ c.if-call-slot.true) c.no_call.ensures

pub returns-then-call-slot-2 : goal.returns-then-call-slot-2
unfolding dropped concerns idle
returns-then-call-slot-2 c =
    let if1 = c.if-call-eq0 in
    let if2 = c.if-call-slot in
    rw (ne_eqb _ _ if1.false, ne_eqb _ _ if2.false, eq-eqb _ _ c.if-call-slot-2.true) c.no_call-then-call-slot-2.ensures

pub returns : goal.returns
unfolding dropped concerns idle
returns c =
    let if1 = c.if-call-eq0 in
    let if2 = c.if-call-slot in
    rw (ne_eqb _ _ if1.false, ne_eqb _ _ if2.false, ne_eqb _ _ c.if-call-slot-2.false)
