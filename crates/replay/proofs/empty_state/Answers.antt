use mathlib.Core.Path.{sym}
use Rattle.image.proofs.RoundTrip.{empty-image}
use Rattle.replay.proofs.empty_state.Goals as goal

pub returns : goal.returns
returns c = sym empty-image
