use mathlib.Core.Path.{refl}
use Rattle.outgoing.specs.Layout.{layout}
use Rattle.header.proofs.count_len.Goals as goal

pub returns : goal.returns
unfolding layout
returns c fs = refl
