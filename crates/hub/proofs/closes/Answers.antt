use Rattle.model.specs.State.{with_session}
use mathlib.Core.Path.{◌∙◌}
use Rattle.hub.proofs.closes.Goals as goal

pub returns : goal.returns
unfolding with_session
returns c = λ h m. c.silent.ensures h m ∙ rw (c.with_session.ensures, c.with_status-none.ensures)
