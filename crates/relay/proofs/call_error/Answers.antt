use Rattle.replies.specs.Meaning.{message_of}
use Rattle.model.specs.Step.{call_error}
use Rattle.relay.proofs.call_error.Goals as goal

pub returns : goal.returns
unfolding call_error message_of
returns c = c.says.ensures
