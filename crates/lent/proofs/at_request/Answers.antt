use mathlib.Core.Path.{refl}
use Rattle.lent.specs.Counters.{at_request}
use Rattle.lent.proofs.at_request.Goals as goal

pub returns : goal.returns
unfolding at_request
returns c = refl
