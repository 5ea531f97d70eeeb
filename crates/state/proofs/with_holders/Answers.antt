use mathlib.Core.Path.{refl}
use Rattle.model.specs.State.{with_holders}
use Rattle.state.proofs.with_holders.Goals as goal

pub returns : goal.returns
unfolding with_holders
returns c = refl
