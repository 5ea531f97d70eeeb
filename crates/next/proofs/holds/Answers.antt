use mathlib.Core.Path.{ap}
use Rattle.model.specs.Step.{says}
use Rattle.next.specs.Next.{next_of}
use Rattle.next.proofs.holds.Goals as goal

pub returns : goal.returns
unfolding says
returns c = λ h m. ap (next_of h m) c.plain.ensures
