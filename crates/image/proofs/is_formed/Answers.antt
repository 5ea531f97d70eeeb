use borrow.Author.Tests.{eq-eqb, ne_eqb}
use Rattle.image.specs.Image.{load}
use Rattle.image.proofs.is_formed.Goals as goal

pub returns-then-state-ne9688 : goal.returns-then-state-ne9688
unfolding load
returns-then-state-ne9688 c = rw (ne_eqb _ _ c.if-state-ne9688.true)

pub returns : goal.returns
unfolding load
returns c = rw (eq-eqb _ _ c.if-state-ne9688.false) c.parts_formed.ensures
