use Rattle.replies.specs.Meaning.{message_of}
use Rattle.model.specs.Step.{violates}
use Rattle.next.proofs.violates.Goals as goal

pub returns : goal.returns
unfolding violates message_of
returns c = c.ends.ensures
