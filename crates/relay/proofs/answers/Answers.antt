use mathlib.Core.Path.{ap}
use Rattle.model.specs.declared.Session.{Session}
use borrow.Author.Tests.{le-leb, lt-leb}
use Rattle.model.specs.State.{session}
use Rattle.image.specs.Image.{held}
use Rattle.relay.proofs.answers.Goals as goal

pub returns-then-s-invocation : goal.returns-then-s-invocation
unfolding session
returns-then-s-invocation c = λ t e. rw (← c.session_at-s.ensures, lt-leb _ _ c.if-s-invocation.true) (c.violates.ensures (held c.args.state.now) _)

pub returns : goal.returns
unfolding session
returns c = λ t e. rw (← ap (λ (s : Session). s.invocation) c.session_at-s.ensures, le-leb _ _ c.if-s-invocation.false) (c.answer.ensures t e)
