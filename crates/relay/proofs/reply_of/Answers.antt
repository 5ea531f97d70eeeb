use Rattle.replies.specs.Meaning.{message_of}
use Rattle.relay.proofs.reply_of.Goals as goal

pub returns-in_default : goal.returns-in_default
unfolding message_of
returns-in_default c = λ m. rw c.in_default.is

pub returns-in-Result : goal.returns-in-Result
unfolding message_of
returns-in-Result c = λ m. rw (c.in-Some.is, c.in-Result.is)

pub returns-in-Failure : goal.returns-in-Failure
unfolding message_of
returns-in-Failure c = λ m. rw (c.in-Some.is, c.in-Failure.is)
