use Rattle.replies.specs.Meaning.{message_of}
use Rattle.next.proofs.refuses.Goals as goal

pub returns : goal.returns
unfolding message_of
returns c = c.says.ensures
