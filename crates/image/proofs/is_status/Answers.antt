use borrow.Author.Tests.{le-ltb, lt-ltb, ne_eqb}
use Rattle.image.proofs.is_status.Goals as goal

pub returns-then-b-lt3 : goal.returns-then-b-lt3
returns-then-b-lt3 c = rw (lt-ltb _ 3 c.if-b-lt3.true)

pub returns-then-b-eq4 : goal.returns-then-b-eq4
returns-then-b-eq4 c = rw (le-ltb _ 3 c.if-b-lt3.false, c.if-b-eq4.true)

pub returns : goal.returns
returns c = rw (le-ltb _ 3 c.if-b-lt3.false, ne_eqb _ 4 c.if-b-eq4.false)
