use borrow.Author.Tests.{eq-eqb, ne_eqb}
use Rattle.pattern.proofs.both_end.Goals as goal

pub returns-then-e-text : goal.returns-then-e-text
returns-then-e-text c = rw (eq-eqb _ _ c.if-e-text.true)

pub returns : goal.returns
returns c = rw (ne_eqb _ _ c.if-e-text.false)
