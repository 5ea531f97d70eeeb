use borrow.Author.Tests.{lt-ltb, le-ltb}
use Rattle.uri.specs.Components.{end_at}
use Rattle.uri.proofs.end_at.Goals as goal

pub returns-then-k-ends : goal.returns-then-k-ends
unfolding end_at
returns-then-k-ends c = rw (lt-ltb _ _ c.if-k-ends.true)

pub returns : goal.returns
unfolding end_at
returns c = rw (le-ltb _ _ c.if-k-ends.false) c.part_end.ensures
