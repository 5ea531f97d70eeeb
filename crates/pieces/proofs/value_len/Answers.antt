use mathlib.Core.Path.{ap}
use lib.ListN.{length}
use native.Mathlib.Omega.{arith}
use Rattle.pieces.proofs.value_len.Goals as goal

pub returns : goal.returns
returns c = omega (arith, ap length c.text.ensures)
