use borrow.Author.Tests.{lt-ltb, le-ltb}
use Rattle.uri.specs.Components.{is_end}
use Rattle.uri.proofs.is_end.Goals as goal

pub returns-then-at-text : goal.returns-then-at-text
unfolding is_end
returns-then-at-text c = rw (lt-ltb _ _ c.if-at-text.true)

pub returns : goal.returns
unfolding is_end
returns c = rw (le-ltb _ _ c.if-at-text.false)
