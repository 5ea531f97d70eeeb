use Rattle.buffer.specs.Capped.{capped}
use mathlib.Core.Path.{ap, ◌∙◌}
use lib.ListN.{length}
use native.Mathlib.Omega.{arith}
use Rattle.pieces.specs.Pieces.{texts}
use Rattle.buffer.proofs.Sums.{capped_is}
use Rattle.pieces.proofs.text_len.Goals as goal

pub returns : goal.returns
unfolding texts
returns c = capped_is _ (omega arith) ∙ ap (λ l. capped (length l)) c.text.ensures
