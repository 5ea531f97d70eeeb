use mathlib.Core.Path.{sym, ap, ◌∙◌}
use Rattle.image.specs.Image.{row_of}
use Rattle.image.proofs.Parts.{found-by, none-by}
use Rattle.image.proofs.number.Goals as goal

pub returns-then-s-ne139 : goal.returns-then-s-ne139
returns-then-s-ne139 c = sym (ap (λ r. r.number) (none-by c.args.kind c.args.state.now c.args.k _ c.row_part-s.ensures c.if-s-ne139.true))

pub returns : goal.returns
unfolding row_of
returns c = c.load_number.ensures ∙ sym (ap (λ r. r.number) (found-by c.args.kind c.args.state.now c.args.k _ c.row_part-s.ensures c.if-s-ne139.false))
