use mathlib.Core.Path.{sym, ap, ◌∙◌}
use borrow.Author.Tests.{eq-eqb, ne_eqb}
use Rattle.model.specs.State.{is_held_by, holds}
use Rattle.rows.proofs.is_held_by.Goals as goal

pub returns-then-own-eq0 : goal.returns-then-own-eq0
unfolding is_held_by
returns-then-own-eq0 c = rw (eq-eqb _ _ (sym c.number-own.ensures ∙ c.if-own-eq0.true))

pub returns-then-own-number : goal.returns-then-own-number
unfolding is_held_by
returns-then-own-number c =
    let n = c.number-own.ensures in
    rw (ne_eqb _ _ (λ e. c.if-own-eq0.false (n ∙ e)), ne_eqb _ _ (λ e. c.if-own-number.true (n ∙ e)))

pub returns : goal.returns
unfolding is_held_by
returns c =
    let args = c.args in
    let n = c.number-own.ensures in
    rw (ne_eqb _ _ (λ e. c.if-own-eq0.false (n ∙ e)), eq-eqb _ _ (sym n ∙ c.if-own-number.false)) (c.holds.ensures ∙ ap (holds args.slot) c.row-row.ensures)
