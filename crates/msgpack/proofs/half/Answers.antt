use Rattle.msgpack.proofs.Heads.{half-1, half-2, half-4, half-8}
use Rattle.msgpack.proofs.half.Goals as goal

pub returns-then-width-eq1 : goal.returns-then-width-eq1
returns-then-width-eq1 c = half-1 _ c.if-width-eq1.true

pub returns-then-width-eq2 : goal.returns-then-width-eq2
returns-then-width-eq2 c = half-2 _ c.if-width-eq2.true

pub returns-then-width-eq4 : goal.returns-then-width-eq4
returns-then-width-eq4 c = half-4 _ c.if-width-eq4.true

pub returns : goal.returns
returns c = half-8 _ c.if-width-eq1.false c.if-width-eq2.false c.if-width-eq4.false
