use mathlib.Core.Path.{ap, ◌∙◌}
use Rattle.replies.specs.Meaning.{message_of}
use Rattle.model.specs.State.{session, format_at, attached_in}
use Rattle.model.specs.Step.{on_open}
use Rattle.serve.proofs.parts.Goals as goal

pub returns : goal.returns
unfolding on_open message_of format_at session
returns c =
    let s = c.attached_in-status.ensures ∙ ap attached_in c.format_at.ensures in
    λ h m x n. c.ends.ensures h m ∙ rw s
