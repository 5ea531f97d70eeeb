use mathlib.Core.Path.{sym, ◌∙◌}
use Rattle.replies.specs.Meaning.{message_of}
use Rattle.model.specs.State.{with_row}
use Rattle.model.specs.Step.{unregister}
use Rattle.image.specs.Image.{held}
use Rattle.rows.proofs.unregister.Goals as goal

pub returns-in_default : goal.returns-in_default
unfolding unregister
returns-in_default c =
    let h = held c.args.state.now in
    λ m. rw (sym c.row_held.ensures ∙ c.in_default.is) (c.refuses.ensures h m)

pub returns : goal.returns
unfolding unregister message_of with_row
returns c = λ m. rw (sym c.row_held.ensures ∙ c.in-Some.is) (c.leaves.ensures m)
