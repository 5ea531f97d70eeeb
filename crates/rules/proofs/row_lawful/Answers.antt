use mathlib.Core.Path.{sym, ap, ◌∙◌}
use native.Mathlib.Omega.{arith}
use borrow.Author.Tests.{eq-eqb, ne_eqb, le-leb, lt-leb}
use lib.Dec.{leb}
use Rattle.model.specs.State.{row_at}
use Rattle.model.specs.Rules.{zero_row}
use Rattle.image.specs.Image.{held, table_in}
use Rattle.image.proofs.Parts.{blank-row}
use Rattle.rules.specs.ByTable.{row_lawful}
use Rattle.rules.proofs.Laws.{used-order, unused-lawful}
use Rattle.rules.proofs.row_lawful.Goals as goal

pub returns-then-is_blank : goal.returns-then-is_blank
returns-then-is_blank c =
    let args = c.args in
    sym
    (ap (row_lawful args.sessions args.counter args.kind)
    (blank-row args.kind args.state.now args.k (sym c.is_blank.ensures ∙ c.if-is_blank.true))
    ∙ unused-lawful args.sessions args.counter args.kind)

pub returns-then-number-eq0 : goal.returns-then-number-eq0
unfolding row_lawful
returns-then-number-eq0 c =
    let number = c.number-number in
    let if2 = c.if-number-eq0 in
    rw (eq-eqb _ _ (sym number.ensures ∙ if2.true)) (c.zero_row.ensures ∙ ap zero_row c.row-row.ensures)

pub returns-then-counter-number : goal.returns-then-counter-number
unfolding row_lawful
returns-then-counter-number c =
    let args = c.args in
    let number = c.number-number in
    let r = row_at (table_in args.kind (held args.state.now)) args.k in
    rw (
      ne_eqb _ _ (λ e. c.if-number-eq0.false (number.ensures ∙ e)),
      used-order args.sessions args.counter args.kind r,
      ap (λ n. leb n args.counter) (sym number.ensures) ∙ lt-leb _ _ c.if-counter-number.true,
    )

pub returns : goal.returns
unfolding row_lawful
returns c =
    let args = c.args in
    let number = c.number-number in
    let if2 = c.if-number-eq0 in
    let r = row_at (table_in args.kind (held args.state.now)) args.k in
    rw (
      ne_eqb _ _ (λ e. if2.false (number.ensures ∙ e)),
      used-order args.sessions args.counter args.kind r,
      ap (λ n. leb n args.counter) (sym number.ensures) ∙ le-leb number.result args.counter (omega arith),
    )
    c.used_row.ensures
