use borrow.Author.Tests.{le-ltb, lt-ltb}
use Rattle.image.specs.Image.{row_formed}
use Rattle.image.proofs.row_formed.Goals as goal

pub returns-then-s-ge3 : goal.returns-then-s-ge3
unfolding row_formed
returns-then-s-ge3 c = rw (le-ltb _ 3 c.if-s-ge3.true)

pub returns : goal.returns
unfolding row_formed
returns c = rw (lt-ltb _ 3 c.if-s-ge3.false, c.wide.ensures, c.holders_end.ensures)
