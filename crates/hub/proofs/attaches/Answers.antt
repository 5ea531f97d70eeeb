use mathlib.Core.Path.{◌∙◌}
use Rattle.model.specs.State.{with_session}
use Rattle.model.specs.Step.{attaches}
use Rattle.hub.proofs.attaches.Goals as goal

pub returns : goal.returns
unfolding attaches with_session
returns c = λ h m. c.silent.ensures h m ∙ rw (c.with_session.ensures, c.with_status-s.ensures, c.attached_in.ensures)
