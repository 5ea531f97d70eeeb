use Rattle.pieces.specs.Pieces.{texts}
use Rattle.buffer.proofs.Wrote.{told, tells, wrote}
use Rattle.writing.proofs.put_text.Goals as goal

pub returns : goal.returns
unfolding texts
returns c =
    tells (wrote c.text.ensures (told _ _ _ c.put_bytes.ensures))
