use Rattle.image.specs.Image.{held}
use mathlib.Core.Path.{sym, ◌∙◌}
use Rattle.uri.specs.Uri.{valid_topic}
use Rattle.uri.proofs.Uses.{short-topic}
use Rattle.model.specs.Step.{subscribe}
use Rattle.rows.proofs.Laws.{valid-whole}
use Rattle.rows.proofs.subscribe.Goals as goal

pub returns-in_default : goal.returns-in_default
unfolding subscribe
returns-in_default c =
    let h = held c.args.state.now in
    λ m. rw c.in_default.is (c.refuses.ensures h m)

pub returns-then-not-valid_topic : goal.returns-then-not-valid_topic
unfolding subscribe
returns-then-not-valid_topic c =
    let h = held c.args.state.now in
    λ m. rw (c.in-Some.is, sym c.valid_topic.ensures ∙ c.if-not-valid_topic.true) (c.refuses-then-not-valid_topic.ensures h m)

pub returns-in_default-row_of : goal.returns-in_default-row_of
unfolding subscribe
returns-in_default-row_of c =
    let v = sym c.valid_topic.ensures ∙ c.if-not-valid_topic.false in
    λ m. rw (c.in-Some.is, v, sym c.row_of.ensures ∙ c.in_default-row_of.is)
    (c.subscribe_new.ensures m ∙ rw (valid-whole valid_topic short-topic _ _ v))

pub returns : goal.returns
unfolding subscribe
returns c =
    let v = sym c.valid_topic.ensures ∙ c.if-not-valid_topic.false in
    λ m. rw (c.in-Some.is, v, sym c.row_of.ensures ∙ c.in-Some-row_of.is) (c.subscribe_join.ensures m)
