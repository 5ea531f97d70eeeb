use mathlib.Core.Path.{ap, ◌∙◌}
use borrow.Author.Tests.{eq-eqb, ne_eqb}
use Rattle.pattern.specs.Match.{fits_text}
use Rattle.pattern.specs.Choice.{fits_row}
use Rattle.pattern.proofs.Laws.{row-text}
use Rattle.pattern.proofs.row_fits.Goals as goal

pub returns-then-row-eq0 : goal.returns-then-row-eq0
unfolding fits_row
returns-then-row-eq0 c = rw (eq-eqb _ _ c.if-row-eq0.true)

pub returns : goal.returns
unfolding fits_row
returns c =
    let args = c.args in
    let if1 = c.if-row-eq0 in
    let text = c.text-text in
    let x = args in
    rw (ne_eqb _ _ if1.false) (c.fits.ensures ∙ ap (λ t. fits_text x.row.policy t x.uri.now) (text.ensures ∙ row-text x.row))
