use borrow.Author.Tests.{eq-eqb, ne_eqb}
use Rattle.keep.specs.Keep.{kept_sessions}
use Rattle.keep.proofs.keep_sessions.Goals as goal

pub returns-then-state-ne9688 : goal.returns-then-state-ne9688
unfolding kept_sessions
returns-then-state-ne9688 c = rw (ne_eqb _ _ c.if-state-ne9688.true)

pub returns : goal.returns
unfolding kept_sessions
returns c = rw (eq-eqb _ _ c.if-state-ne9688.false) c.store_sessions.ensures.0
