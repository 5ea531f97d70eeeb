use Rattle.image.specs.Image.{held}
use mathlib.Core.Path.{sym, ◌∙◌}
use Rattle.model.specs.State.{session}
use Rattle.model.specs.Step.{follows, request, on_open, subscribe}
use Rattle.serve.proofs.on_subscribe.Goals as goal

pub returns-then-not-follows : goal.returns-then-not-follows
unfolding on_open request session
returns-then-not-follows c = λ n f s x. rw (sym c.follows.ensures ∙ c.if-not-follows.true) (c.violates.ensures _ _)

pub returns : goal.returns
unfolding on_open request session
returns c =
    let follows = c.follows in
    let if1 = c.if-not-follows in
    let subscribe = c.subscribe in
    let numbered = c.numbered in
    λ n f s x. rw (sym follows.ensures ∙ if1.false) (subscribe.ensures _ ∙ rw (numbered.ensures (held c.args.state.now)))
