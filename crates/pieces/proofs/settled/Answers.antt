use Rattle.seq.specs.Bytes.{source}
use Rattle.pieces.proofs.PieceBytes.{written-set}
use Rattle.pieces.proofs.settled.Goals as goal

pub returns : goal.returns
returns c =
    let x = c.args in
    λ m. written-set (source m x.text.now) c.settled_piece-q.result x.ps 5 (c.settled_piece-q.ensures m)
