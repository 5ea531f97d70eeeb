use Rattle.image.specs.Image.{held, with_sessions}
use mathlib.Core.Path.{◌≡◌, sym, ap, ◌∙◌}
use Rattle.outgoing.specs.Layout.{Formats}
use Rattle.model.specs.State.{session}
use Rattle.model.specs.Step.{follows, numbered as advanced, request, on_open, call}
use Rattle.serve.proofs.Laws.{formats-numbered}
use Rattle.serve.proofs.on_call.Goals as goal

pub returns-then-not-follows : goal.returns-then-not-follows
unfolding on_open request session
returns-then-not-follows c = λ n e. rw (sym c.follows.ensures ∙ c.if-not-follows.true) (c.violates.ensures _ _)

pub returns : goal.returns
unfolding on_open request session
returns c =
    let follows = c.follows in
    let if1 = c.if-not-follows in
    let call = c.call in
    let numbered = c.numbered in
    let args = c.args in
    let h = held args.state.now in
    let counts : with_sessions h numbered.result ≡ advanced (with_sessions h args.sessions) args.slot args.c.request = numbered.ensures h in
    let q = formats-numbered _ _ _ _ numbered.ensures in
    let f = ap (λ (g : Formats). g args.slot) q in
    λ n e. rw (sym follows.ensures ∙ if1.false)
    ((rw f at (call.ensures (q ∙ e))) ∙ rw counts)
