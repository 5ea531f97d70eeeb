use mathlib.Core.Path.{sym, ◌∙◌}
use native.Mathlib.Omega.{arith}
use Rattle.seq.proofs.Search.{first-hit, first-miss, first-end}
use Rattle.pattern.specs.Choice.{no_row}
use Rattle.image.specs.Image.{held, table_in}
use Rattle.image.proofs.Parts.{rows-count}
use borrow.Author.Tests.{eq-eqb, ne_eqb}
use Rattle.model.specs.State.{unused}
use Rattle.rows.proofs.lowest_free.Goals as goal

pub returns-then-number-eq-FREE : goal.returns-then-number-eq-FREE
returns-then-number-eq-FREE c =
    let args = c.args in
    let xs = (table_in args.kind (held args.state.now)).rows in
    let l = rows-count args.kind args.state.now in
    let loop = c.loop-i in
    sym (loop.invariant ∙ first-hit unused xs loop.i no_row (omega arith) (eq-eqb _ _ (sym c.number.ensures ∙ c.if-number-eq-FREE.true)))

pub loop-i-preserved : goal.loop-i-preserved
loop-i-preserved c =
    let args = c.args in
    let xs = (table_in args.kind (held args.state.now)).rows in
    let l = rows-count args.kind args.state.now in
    let loop = c.loop-i in
    loop.invariant ∙ first-miss unused xs loop.i no_row (omega arith) (ne_eqb _ _ (λ e. c.if-number-eq-FREE.false (c.number.ensures ∙ e)))

pub returns : goal.returns
returns c =
    let args = c.args in
    let xs = (table_in args.kind (held args.state.now)).rows in
    let l = rows-count args.kind args.state.now in
    sym (c.loop-i.invariant ∙ first-end unused xs c.loop-i.i (omega arith))
