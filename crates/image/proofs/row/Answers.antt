use mathlib.Core.Path.{sym, ◌∙◌}
use Rattle.image.proofs.Parts.{found-by, none-by}
use Rattle.image.proofs.row.Goals as goal

pub returns-then-s-ne139 : goal.returns-then-s-ne139
returns-then-s-ne139 c = c.no_row.ensures ∙ sym (none-by c.args.kind c.args.state.now c.args.k _ c.row_part-s.ensures c.if-s-ne139.true)

pub returns : goal.returns
returns c = c.load_row.ensures ∙ sym (found-by c.args.kind c.args.state.now c.args.k _ c.row_part-s.ensures c.if-s-ne139.false)
