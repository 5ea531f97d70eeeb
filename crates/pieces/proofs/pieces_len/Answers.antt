use mathlib.Core.Path.{ap, ◌∙◌}
use native.Mathlib.Omega.{arith}
use lib.ListN.{length, take, get_or, length-append}
use Rattle.seq.specs.Bytes.{source}
use Rattle.buffer.specs.Capped.{capped}
use Rattle.pieces.specs.Pieces.{bytes_of, written}
use Rattle.buffer.proofs.Sums.{capped_is, sum-turn}
use Rattle.seq.proofs.Joined.{joined-suc, joined-all}
use Rattle.pieces.proofs.PieceBytes.{blank}
use borrow.Author.Rules.{rules}
use Rattle.pieces.proofs.pieces_len.Goals as goal

pub loop-p-init : goal.loop-p-init
loop-p-init c = (search rules, capped_is 0 (omega arith))

pub loop-p-preserved : goal.loop-p-preserved
loop-p-preserved c =
    let x = c.args in
    let l = c.loop-p in
    let m = source x.message.now x.text.now in
    let xs = x.ps in
    let i = l.p-index in
    let k = length-append (written m (take i xs)) (bytes_of m (get_or xs i blank)) in (
      search rules,
      c.plus-n.ensures
          ∙ sum-turn _ _ _ _ _ l.invariant.1 c.piece_len.ensures (ap length (joined-suc (bytes_of m) blank xs i (omega arith)) ∙ k),
    )

pub returns : goal.returns
returns c =
    let x = c.args in
    c.loop-p.invariant.1 ∙ ap (λ l. capped (length l)) (joined-all (bytes_of (source x.message.now x.text.now)) x.ps c.loop-p.p-index (omega arith))
