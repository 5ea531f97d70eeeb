use Rattle.image.specs.Image.{held}
use mathlib.Core.Path.{sym, ◌∙◌}
use Rattle.model.specs.State.{session}
use Rattle.model.specs.Step.{follows, request, on_open, unsubscribe}
use Rattle.serve.proofs.on_unsubscribe.Goals as goal

pub returns-then-not-follows : goal.returns-then-not-follows
unfolding on_open request session
returns-then-not-follows c = λ m x n. rw (sym c.follows.ensures ∙ c.if-not-follows.true) (c.violates.ensures _ m)

pub returns : goal.returns
unfolding on_open request session
returns c =
    let follows = c.follows in
    let if1 = c.if-not-follows in
    let unsubscribe = c.unsubscribe in
    let numbered = c.numbered in
    λ m x n. rw (sym follows.ensures ∙ if1.false) (unsubscribe.ensures m ∙ rw (numbered.ensures (held c.args.state.now)))
