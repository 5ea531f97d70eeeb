use mathlib.Core.Path.{ap}
use Rattle.model.specs.State.{session, with_session}
use Rattle.model.specs.Step.{numbered}
use Rattle.image.specs.Image.{with_sessions}
use Rattle.lent.specs.Counters.{at_request, advanced_at}
use Rattle.state.proofs.numbered.Goals as goal

pub returns : goal.returns
unfolding numbered session with_session at_request advanced_at
returns c = λ h. ap (with_sessions h) c.advanced_at.ensures
