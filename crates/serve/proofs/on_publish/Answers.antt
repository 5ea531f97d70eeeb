use mathlib.Core.Path.{sym, ◌∙◌}
use Rattle.model.specs.State.{session}
use Rattle.model.specs.Step.{follows, request, on_open, publish}
use Rattle.serve.proofs.Laws.{formats-numbered}
use Rattle.serve.proofs.on_publish.Goals as goal

pub returns-then-not-follows : goal.returns-then-not-follows
unfolding on_open request session
returns-then-not-follows c = λ h f x e. rw (sym c.follows.ensures ∙ c.if-not-follows.true) (c.violates.ensures _ _)

pub returns : goal.returns
unfolding on_open request session
returns c =
    let follows = c.follows in
    let if1 = c.if-not-follows in
    let publish = c.publish in
    let numbered = c.numbered in
    λ h f x e. rw (sym follows.ensures ∙ if1.false)
    (publish.ensures h f x (formats-numbered _ _ _ _ numbered.ensures ∙ e) ∙ rw (numbered.ensures h))
