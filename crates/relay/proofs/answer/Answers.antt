use mathlib.Core.Path.{sym, ap, ◌∙◌}
use Rattle.seq.specs.Lists.{first}
use Rattle.seq.specs.Bytes.{payload_of}
use Rattle.outgoing.specs.Layout.{Formats}
use Rattle.model.specs.State.{session, format_at, serves}
use Rattle.model.specs.Step.{answer, answered}
use Rattle.image.specs.Image.{held}
use Rattle.relay.proofs.Laws.{conveyed-by}
use Rattle.relay.proofs.answer.Goals as goal

pub returns-in_default : goal.returns-in_default
unfolding answer
returns-in_default c =
    let args = c.args in
    let f = c.served_call.ensures ∙ ap (first (serves args.slot args.invocation)) c.calls-calls.ensures in
    λ t e. rw (sym f ∙ c.in_default.is) (c.silent.ensures (held args.state.now) _)

pub returns : goal.returns
unfolding answer answered format_at session
returns c =
    let args = c.args in
    let f = c.served_call.ensures ∙ ap (first (serves args.slot args.invocation)) c.calls-calls.ensures in
    let p = payload_of args.message.now args.payload in
    let got = rw (c.format_at-from.ensures, c.format_at-to.ensures) at c.carried-q.ensures in
    λ t e. rw (sym f ∙ c.in-Some.is, conveyed-by _ _ t args.kind p)
    (c.holds.ensures (held args.state.now) _
    ∙ rw (c.no_call-free.ensures, c.reply_of-reply.ensures _, sym (ap (λ (fs : Formats). fs c.call_at-held.result.caller) e), got, c.call_at-held.ensures, c.calls-calls.ensures))
