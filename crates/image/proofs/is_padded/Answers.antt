use mathlib.Core.Path.{sym, ap, ◌∙◌}
use Rattle.image.specs.Image.{row_of, padded_row}
use Rattle.image.proofs.Parts.{found-by, none-by}
use Rattle.seq.specs.Lists.{every}
use Rattle.model.specs.Rules.{is_zero}
use Rattle.seq.proofs.Lists.{rest-size}
use Rattle.image.proofs.Laws.{past-text}
use native.Mathlib.Omega.{arith}
use lib.ListN.{drop, length-drop}
use Rattle.seq.specs.Bytes.{byte_at}
use Rattle.image.proofs.is_padded.Goals as goal

pub returns-then-s-ne139 : goal.returns-then-s-ne139
unfolding every
returns-then-s-ne139 c = sym (ap padded_row (none-by c.args.kind c.args.state.now c.args.k _ c.row_part-s.ensures c.if-s-ne139.true))

pub returns : goal.returns
unfolding row_of
returns c =
    let p = c.row_part-s.result.now in
    c.all_zero.ensures
    ∙ (ap (every is_zero) (c.text.ensures ∙ rw (c.size-n.ensures, rest-size 11 p) (past-text (drop 11 p) (byte_at p 10) (simp length-drop (omega (arith, c.if-s-ne139.false)))))
    ∙ sym (ap padded_row (found-by c.args.kind c.args.state.now c.args.k _ c.row_part-s.ensures c.if-s-ne139.false)))
