use mathlib.Core.Path.{◌≡◌, ap, ◌∙◌}
use mathlib.Core.List.{◌++◌}
use Rattle.conversion.specs.Sources.{sources}
use Rattle.outgoing.specs.Layout.{Formats}
use Rattle.outbox.specs.Emit.{emitted, emitted_bytes}
use Rattle.outbox.specs.Meaning.{own_mails, mails_of}
use Rattle.model.specs.State.{format_at}
use Rattle.model.specs.Step.{cancels}
use Rattle.image.specs.Image.{held}
use Rattle.hub.proofs.send.Goals as goal

pub returns-in-Nothing : goal.returns-in-Nothing
returns-in-Nothing c =
    let a = c.args in
    let h = held a.state.now in
    let m = sources a.from a.message.now a.converted.now a.text.now in
    let f = c.emit_own.ensures in record {
      answer = (λ e. rw c.in-Nothing.is (f.answer ∙ ap (λ (fs : Formats). emitted fs (own_mails fs m a.own) a.out.now) e));
      bytes = (λ e. rw c.in-Nothing.is (f.bytes ∙ ap (λ (fs : Formats). emitted_bytes fs (own_mails fs m a.own) a.out.now) e));
    }

pub returns-in-Call : goal.returns-in-Call
returns-in-Call c =
    let a = c.args in
    let h = held a.state.now in
    let m = sources a.from a.message.now a.converted.now a.text.now in
    let f = c.emit_own-in-Call.ensures in record {
      answer = (λ e. rw c.in-Call.is (f.answer ∙ ap (λ (fs : Formats). emitted fs (own_mails fs m a.own) a.out.now) e));
      bytes = (λ e. rw c.in-Call.is (f.bytes ∙ ap (λ (fs : Formats). emitted_bytes fs (own_mails fs m a.own) a.out.now) e));
    }

pub returns-in-Row : goal.returns-in-Row
returns-in-Row c =
    let a = c.args in
    let h = held a.state.now in
    let m = sources a.from a.message.now a.converted.now a.text.now in
    let f = c.emit_own-in-Row.ensures in record {
      answer = (λ e. rw c.in-Row.is (f.answer ∙ ap (λ (fs : Formats). emitted fs (own_mails fs m a.own) a.out.now) e));
      bytes = (λ e. rw c.in-Row.is (f.bytes ∙ ap (λ (fs : Formats). emitted_bytes fs (own_mails fs m a.own) a.out.now) e));
    }

pub returns-in-Ends : goal.returns-in-Ends
returns-in-Ends c =
    let a = c.args in
    let h = held a.state.now in
    let m = sources a.from a.message.now a.converted.now a.text.now in
    let f = c.emit.ensures in
    let q : (fs : Formats) → mails_of fs m c.ending-canceled.result ≡ own_mails fs m a.own ++ cancels _ h.calls =
    λ fs. c.ending-canceled.ensures fs m ∙ ap (λ l. own_mails fs m a.own ++ l) (c.cancels.ensures ∙ ap (cancels _) c.calls-calls.ensures) in record {
      answer = (λ e. rw c.in-Ends.is (f.answer ∙ ap (λ (fs : Formats). emitted fs (mails_of fs m c.ending-canceled.result) a.out.now) e ∙ ap (λ l. emitted (format_at h) l a.out.now) (q (format_at h))));
      bytes = (λ e. rw c.in-Ends.is (f.bytes ∙ ap (λ (fs : Formats). emitted_bytes fs (mails_of fs m c.ending-canceled.result) a.out.now) e ∙ ap (λ l. emitted_bytes (format_at h) l a.out.now) (q (format_at h))));
    }

pub returns-in-Publishes : goal.returns-in-Publishes
returns-in-Publishes c =
    let a = c.args in
    let f = c.send_publication.ensures in record {
      answer = (λ e. rw c.in-Publishes.is (f.answer a.from a.converted.now e));
      bytes = (λ e. rw c.in-Publishes.is (f.bytes a.from a.converted.now e));
    }
