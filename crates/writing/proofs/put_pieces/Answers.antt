use mathlib.Core.Path.{refl}
use native.Mathlib.Omega.{arith}
use Rattle.seq.specs.Bytes.{source}
use Rattle.seq.proofs.Joined.{joined-all}
use Rattle.pieces.specs.Pieces.{bytes_of}
use Rattle.pieces.proofs.PieceBytes.{blank}
use Rattle.buffer.proofs.Wrote.{told, tells, wrote, wrote_none, wrote-turn}
use borrow.Author.Rules.{rules}
use Rattle.writing.proofs.put_pieces.Goals as goal

pub loop-p-init : goal.loop-p-init
loop-p-init c = (search rules, wrote_none _ _ (omega arith), refl)

pub loop-p-preserved : goal.loop-p-preserved
loop-p-preserved c =
    let x = c.args in
    let l = c.loop-p in
    let put-piece = c.put_piece-o in (
      search rules,
      wrote-turn (bytes_of (source x.message.now x.text.now)) blank x.ps l.p-index (omega arith) (omega arith) l.invariant.1 (told _ _ _ put-piece.ensures),
      omega (arith, put-piece.auto, l.invariant.2),
    )

pub returns : goal.returns
returns c =
    let x = c.args in
    let l = c.loop-p in
    tells (wrote (joined-all (bytes_of (source x.message.now x.text.now)) x.ps l.p-index (omega arith)) l.invariant.1)
