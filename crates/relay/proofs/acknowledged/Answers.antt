use Rattle.model.specs.Step.{acknowledged}
use Rattle.relay.proofs.acknowledged.Goals as goal

pub returns-then-wanted : goal.returns-then-wanted
unfolding acknowledged
returns-then-wanted c = λ fs m. rw c.if-wanted.true

pub returns : goal.returns
unfolding acknowledged
returns c = λ fs m. rw c.if-wanted.false
