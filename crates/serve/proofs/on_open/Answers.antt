use mathlib.Core.List.{[]}
use Rattle.seq.specs.Bytes.{source}
use Rattle.model.specs.Step.{on_open}
use Rattle.serve.proofs.on_open.Goals as goal

pub returns-in-Hello : goal.returns-in-Hello
unfolding on_open
returns-in-Hello c = λ e. rw c.in-Hello.is (c.violates.ensures _ _)

pub returns-in-Abort : goal.returns-in-Abort
unfolding on_open
returns-in-Abort c = λ e. rw c.in-Abort.is (c.ends.ensures _ _)

pub returns-in-Goodbye : goal.returns-in-Goodbye
returns-in-Goodbye c = λ e. rw c.in-Goodbye.is (c.parts.ensures _ _ (source [] []) _)

pub returns-in-Error : goal.returns-in-Error
returns-in-Error c = λ e. rw c.in-Error.is (c.on_error.ensures _ e)

pub returns-in-Publish : goal.returns-in-Publish
returns-in-Publish c = λ e. rw c.in-Publish.is (c.on_publish.ensures _ _ _ e)

pub returns-in-Subscribe : goal.returns-in-Subscribe
returns-in-Subscribe c = λ e. rw c.in-Subscribe.is (c.on_subscribe.ensures _ _ _ _)

pub returns-in-Unsubscribe : goal.returns-in-Unsubscribe
returns-in-Unsubscribe c = λ e. rw c.in-Unsubscribe.is (c.on_unsubscribe.ensures _ (source [] []) _)

pub returns-in-Call : goal.returns-in-Call
returns-in-Call c = λ e. rw c.in-Call.is (c.on_call.ensures _ e)

pub returns-in-Register : goal.returns-in-Register
returns-in-Register c = λ e. rw c.in-Register.is (c.on_register.ensures _ _ _ _)

pub returns-in-Unregister : goal.returns-in-Unregister
returns-in-Unregister c = λ e. rw c.in-Unregister.is (c.on_unregister.ensures _ (source [] []) _)

pub returns-in-Yield : goal.returns-in-Yield
returns-in-Yield c = λ e. rw c.in-Yield.is (c.on_yield.ensures _ _ e)

pub returns-in-Violation : goal.returns-in-Violation
unfolding on_open
returns-in-Violation c = λ e. rw c.in-Violation.is (c.violates-in-Violation.ensures _ _)
