use borrow.Author.Tests.{eq-eqb, ne_eqb}
use Rattle.rules.specs.ByTable.{zero_call}
use Rattle.rules.proofs.zero_call.Goals as goal

pub returns-then-call-ne0 : goal.returns-then-call-ne0
unfolding zero_call
returns-then-call-ne0 c = rw (ne_eqb _ _ c.if-call-ne0.true)

pub returns-then-call-ne0-2 : goal.returns-then-call-ne0-2
unfolding zero_call
returns-then-call-ne0-2 c = rw (eq-eqb _ _ c.if-call-ne0.false, ne_eqb _ _ c.if-call-ne0-2.true)

pub returns : goal.returns
unfolding zero_call
returns c = rw (eq-eqb _ _ c.if-call-ne0.false, eq-eqb _ _ c.if-call-ne0-2.false)
