use mathlib.Core.Path.{ap, ◌∙◌}
use Rattle.replies.specs.Meaning.{message_of}
use Rattle.model.specs.State.{session, format_at, open_in, with_session}
use Rattle.model.specs.Step.{welcomes}
use Rattle.hub.proofs.welcomes.Goals as goal

pub returns : goal.returns
unfolding welcomes message_of with_session format_at session
returns c =
    let s = c.open_in.ensures ∙ ap open_in c.format_at.ensures in
    λ h m. c.says.ensures h m ∙ rw (c.with_session.ensures, s)
