use mathlib.Core.Path.{sym, ◌∙◌}
use Rattle.seq.specs.Bytes.{source}
use Rattle.pieces.proofs.PieceBytes.{copied}
use Rattle.pieces.proofs.settled_piece.Goals as goal

pub returns-then-marked-eq0 : goal.returns-then-marked-eq0
returns-then-marked-eq0 c =
    let x = c.args in
    λ m. copied (source m x.text.now) x.p c.in-Name.is (sym c.marked.ensures.means ∙ c.if-marked-eq0.true)
