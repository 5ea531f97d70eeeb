use Rattle.model.specs.State.{with_session}
use mathlib.Core.Path.{◌∙◌}
use Rattle.replies.specs.Meaning.{message_of}
use Rattle.model.specs.Step.{turns_away}
use Rattle.hub.proofs.turns_away.Goals as goal

pub returns : goal.returns
unfolding turns_away message_of with_session
returns c = λ h m. c.says.ensures h m ∙ rw (c.with_session.ensures, c.with_status-none.ensures)
