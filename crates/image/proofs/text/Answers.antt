use mathlib.Core.Path.{sym, ap, ◌∙◌}
use Rattle.image.specs.Image.{row_of}
use Rattle.image.proofs.Parts.{found-by, none-by, empty-by}
use Rattle.pattern.specs.Choice.{row_text}
use Rattle.pattern.proofs.Laws.{row-text}
use Rattle.seq.proofs.Lists.{rest-size}
use Rattle.image.proofs.text.Goals as goal

pub returns-then-s-ne139 : goal.returns-then-s-ne139
returns-then-s-ne139 c =
    empty-by c.args.kind c.args.state.now c.args.k _ c.row_part-s.ensures c.if-s-ne139.true
    ∙ sym (ap row_text (none-by c.args.kind c.args.state.now c.args.k _ c.row_part-s.ensures c.if-s-ne139.true))

pub returns : goal.returns
unfolding row_of
returns c =
    let kind = c.args.kind in
    let p = c.row_part-s.result.now in
    c.text.ensures
    ∙ (rw (c.size-n.ensures, rest-size 11 p) (row-text (row_of kind p))
    ∙ sym (ap row_text (found-by c.args.kind c.args.state.now c.args.k _ c.row_part-s.ensures c.if-s-ne139.false)))
