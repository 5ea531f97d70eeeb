use mathlib.Core.Path.{refl}
use Rattle.outgoing.specs.Layout.{entry}
use Rattle.header.proofs.entry_len.Goals as goal

pub returns : goal.returns
unfolding entry
returns c fs m = refl
