use mathlib.Core.Path.{◌∙◌, ap, sym}
use Rattle.outgoing.specs.Outgoing.{json}
use Rattle.pieces.specs.Pieces.{texts, shorts, bytes_of}
use Rattle.replies.specs.Meaning.{message_of}
use Rattle.replies.proofs.json_pieces.Goals as goal

pub returns-in-Welcome : goal.returns-in-Welcome
returns-in-Welcome c = λ m. c.welcome.ensures m ∙ ap (λ x. json (message_of m x)) (sym c.in-Welcome.is)

pub returns-in-Abort : goal.returns-in-Abort
unfolding texts shorts bytes_of json message_of
returns-in-Abort c = λ m. c.farewell.ensures m ∙ ap (λ x. json (message_of m x)) (sym c.in-Abort.is)

pub returns-in-Goodbye : goal.returns-in-Goodbye
unfolding texts shorts bytes_of json message_of
returns-in-Goodbye c = λ m. c.farewell-in-Goodbye.ensures m ∙ ap (λ x. json (message_of m x)) (sym c.in-Goodbye.is)

pub returns-in-Error : goal.returns-in-Error
returns-in-Error c = λ m. c.error.ensures m ∙ ap (λ x. json (message_of m x)) (sym c.in-Error.is)

pub returns-in-Result : goal.returns-in-Result
returns-in-Result c = λ m. c.result.ensures m ∙ ap (λ x. json (message_of m x)) (sym c.in-Result.is)

pub returns-in-Failure : goal.returns-in-Failure
returns-in-Failure c = λ m. c.failure.ensures m ∙ ap (λ x. json (message_of m x)) (sym c.in-Failure.is)

pub returns-in-CallError : goal.returns-in-CallError
returns-in-CallError c = λ m. c.call_error.ensures m ∙ ap (λ x. json (message_of m x)) (sym c.in-CallError.is)

pub returns-in-Published : goal.returns-in-Published
unfolding texts shorts bytes_of json message_of
returns-in-Published c = λ m. c.two.ensures m ∙ ap (λ x. json (message_of m x)) (sym c.in-Published.is)

pub returns-in-Subscribed : goal.returns-in-Subscribed
unfolding texts shorts bytes_of json message_of
returns-in-Subscribed c = λ m. c.two-in-Subscribed.ensures m ∙ ap (λ x. json (message_of m x)) (sym c.in-Subscribed.is)

pub returns-in-Unsubscribed : goal.returns-in-Unsubscribed
unfolding texts shorts bytes_of json message_of
returns-in-Unsubscribed c = λ m. c.one.ensures m ∙ ap (λ x. json (message_of m x)) (sym c.in-Unsubscribed.is)

pub returns-in-Event : goal.returns-in-Event
returns-in-Event c = λ m. c.event.ensures m ∙ ap (λ x. json (message_of m x)) (sym c.in-Event.is)

pub returns-in-Registered : goal.returns-in-Registered
unfolding texts shorts bytes_of json message_of
returns-in-Registered c = λ m. c.two-in-Registered.ensures m ∙ ap (λ x. json (message_of m x)) (sym c.in-Registered.is)

pub returns-in-Unregistered : goal.returns-in-Unregistered
unfolding texts shorts bytes_of json message_of
returns-in-Unregistered c = λ m. c.one-in-Unregistered.ensures m ∙ ap (λ x. json (message_of m x)) (sym c.in-Unregistered.is)

pub returns-in-Invocation : goal.returns-in-Invocation
returns-in-Invocation c = λ m. c.invocation.ensures m ∙ ap (λ x. json (message_of m x)) (sym c.in-Invocation.is)
