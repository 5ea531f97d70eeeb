use Rattle.model.specs.Step.{says, silent, acknowledged, publish_error}
use Rattle.relay.proofs.refuse.Goals as goal

pub returns-then-acknowledge : goal.returns-then-acknowledge
unfolding publish_error acknowledged says
returns-then-acknowledge c = λ h m. rw c.if-acknowledge.true (c.refuses.ensures h m)

pub returns : goal.returns
unfolding publish_error acknowledged silent
returns c = λ h m. rw c.if-acknowledge.false (c.silent.ensures h m)
