use Rattle.seq.proofs.Logic.{split}
use Rattle.uri.specs.Uri.{valid_error}
use Rattle.model.specs.Step.{early}
use Rattle.hub.proofs.early_of.Goals as goal

pub returns-in-Hello : goal.returns-in-Hello
unfolding early
returns-in-Hello c = λ x. rw c.in-Hello.is

pub returns-in-Abort : goal.returns-in-Abort
unfolding early
returns-in-Abort c = λ x. rw c.in-Abort.is

pub returns-in-Goodbye : goal.returns-in-Goodbye
unfolding early
returns-in-Goodbye c = λ x. rw c.in-Goodbye.is

-- an ERROR, or a violation where its text is no URI
pub returns-in-Error : goal.returns-in-Error
unfolding early
returns-in-Error c = λ x. rw c.in-Error.is (split (valid_error x.text) (λ t. rw t) (λ t. rw t))

pub returns-in-Publish : goal.returns-in-Publish
unfolding early
returns-in-Publish c = λ x. rw c.in-Publish.is

pub returns-in-Subscribe : goal.returns-in-Subscribe
unfolding early
returns-in-Subscribe c = λ x. rw c.in-Subscribe.is

pub returns-in-Unsubscribe : goal.returns-in-Unsubscribe
unfolding early
returns-in-Unsubscribe c = λ x. rw c.in-Unsubscribe.is

pub returns-in-Call : goal.returns-in-Call
unfolding early
returns-in-Call c = λ x. rw c.in-Call.is

pub returns-in-Register : goal.returns-in-Register
unfolding early
returns-in-Register c = λ x. rw c.in-Register.is

pub returns-in-Unregister : goal.returns-in-Unregister
unfolding early
returns-in-Unregister c = λ x. rw c.in-Unregister.is

pub returns-in-Yield : goal.returns-in-Yield
unfolding early
returns-in-Yield c = λ x. rw c.in-Yield.is

pub returns-in-Violation : goal.returns-in-Violation
unfolding early
returns-in-Violation c = λ x. rw c.in-Violation.is
