use mathlib.Core.Path.{ap}
use Rattle.model.specs.Step.{silent}
use Rattle.next.specs.Next.{next_of}
use Rattle.next.proofs.silent.Goals as goal

pub returns : goal.returns
unfolding silent
returns c = λ h m. ap (next_of h m) c.plain.ensures
