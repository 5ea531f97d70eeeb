use mathlib.Core.Path.{sym, ◌∙◌}
use native.Mathlib.Omega.{arith}
use Rattle.seq.proofs.Search.{first-hit, first-miss, first-end}
use Rattle.pattern.specs.Choice.{no_row}
use Rattle.image.specs.Image.{held, table_in}
use Rattle.image.proofs.Parts.{rows-count}
use Rattle.model.specs.State.{is_held_by}
use Rattle.rows.proofs.row_held.Goals as goal

pub returns-then-is_held_by : goal.returns-then-is_held_by
returns-then-is_held_by c =
    let args = c.args in
    let xs = (table_in args.kind (held args.state.now)).rows in
    let l = rows-count args.kind args.state.now in
    let loop = c.loop-i in
    sym (loop.invariant ∙ first-hit (is_held_by args.slot args.number) xs loop.i no_row (omega arith) (sym c.is_held_by.ensures ∙ c.if-is_held_by.true))

pub loop-i-preserved : goal.loop-i-preserved
loop-i-preserved c =
    let args = c.args in
    let xs = (table_in args.kind (held args.state.now)).rows in
    let l = rows-count args.kind args.state.now in
    let loop = c.loop-i in
    loop.invariant ∙ first-miss (is_held_by args.slot args.number) xs loop.i no_row (omega arith) (sym c.is_held_by.ensures ∙ c.if-is_held_by.false)

pub returns : goal.returns
returns c =
    let args = c.args in
    let xs = (table_in args.kind (held args.state.now)).rows in
    let l = rows-count args.kind args.state.now in
    sym (c.loop-i.invariant ∙ first-end (is_held_by args.slot args.number) xs c.loop-i.i (omega arith))
