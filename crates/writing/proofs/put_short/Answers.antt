use Rattle.pieces.specs.Pieces.{shorts}
use Rattle.buffer.proofs.Wrote.{told, tells, wrote}
use Rattle.writing.proofs.put_short.Goals as goal

pub returns : goal.returns
unfolding shorts
returns c =
    tells (wrote c.text.ensures (told _ _ _ c.put_bytes.ensures))
