use mathlib.Core.Path.{◌≡◌, sym, ◌∙◌}
use native.Mathlib.Omega.{arith}
use lib.ListN.{length}
use Rattle.seq.proofs.Lists.{every-fail, every-pass, every-end}
use Rattle.image.specs.Image.{held, table_in}
use Rattle.rules.specs.ByTable.{row_lawful}
use Rattle.rules.proofs.Laws.{rows-length}
use Rattle.rules.proofs.each_row.Goals as goal

pub returns-then-not-row_lawful : goal.returns-then-not-row_lawful
returns-then-not-row_lawful c =
    let args = c.args in
    let loop = c.loop-i in
    let test = row_lawful args.sessions args.counter args.kind in
    let xs = (table_in args.kind (held args.state.now)).rows in
    let l : length xs ≡ 32 = rows-length args.kind args.state.now in
    sym (loop.invariant ∙ every-fail test xs loop.i _ (omega arith) (sym c.row_lawful.ensures ∙ c.if-not-row_lawful.true))

pub loop-i-preserved : goal.loop-i-preserved
loop-i-preserved c =
    let args = c.args in
    let loop = c.loop-i in
    let test = row_lawful args.sessions args.counter args.kind in
    let xs = (table_in args.kind (held args.state.now)).rows in
    let l : length xs ≡ 32 = rows-length args.kind args.state.now in
    loop.invariant ∙ every-pass test xs loop.i _ (omega arith) (sym c.row_lawful.ensures ∙ c.if-not-row_lawful.false)

pub returns : goal.returns
returns c =
    let args = c.args in
    let test = row_lawful args.sessions args.counter args.kind in
    let xs = (table_in args.kind (held args.state.now)).rows in
    let l : length xs ≡ 32 = rows-length args.kind args.state.now in
    sym (c.loop-i.invariant ∙ every-end test xs c.loop-i.i (omega arith))
