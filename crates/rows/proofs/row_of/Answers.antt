use mathlib.Core.Path.{sym, ◌∙◌}
use native.Mathlib.Omega.{arith}
use Rattle.seq.proofs.Search.{first-hit, first-miss, first-end}
use Rattle.pattern.specs.Choice.{no_row}
use Rattle.image.specs.Image.{held, table_in}
use Rattle.image.proofs.Parts.{rows-count}
use Rattle.model.specs.State.{is_of}
use Rattle.rows.proofs.row_of.Goals as goal

pub returns-then-is_of : goal.returns-then-is_of
returns-then-is_of c =
    let args = c.args in
    let xs = (table_in args.kind (held args.state.now)).rows in
    let l = rows-count args.kind args.state.now in
    let loop = c.loop-i in
    sym (loop.invariant ∙ first-hit (is_of args.policy args.text.now) xs loop.i no_row (omega arith) (sym c.is_of.ensures ∙ c.if-is_of.true))

pub loop-i-preserved : goal.loop-i-preserved
loop-i-preserved c =
    let args = c.args in
    let xs = (table_in args.kind (held args.state.now)).rows in
    let l = rows-count args.kind args.state.now in
    let loop = c.loop-i in
    loop.invariant ∙ first-miss (is_of args.policy args.text.now) xs loop.i no_row (omega arith) (sym c.is_of.ensures ∙ c.if-is_of.false)

pub returns : goal.returns
returns c =
    let args = c.args in
    let xs = (table_in args.kind (held args.state.now)).rows in
    let l = rows-count args.kind args.state.now in
    sym (c.loop-i.invariant ∙ first-end (is_of args.policy args.text.now) xs c.loop-i.i (omega arith))
