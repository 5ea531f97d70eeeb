use mathlib.Core.Path.{◌≡◌, refl, sym, ◌∙◌}
use native.Mathlib.Omega.{arith}
use lib.ListN.{length}
use Rattle.seq.proofs.Lists.{length-mapped}
use Rattle.outgoing.specs.Layout.{formats_of}
use Rattle.relay.proofs.Laws.{rows-hit, rows-miss, rows_end}
use borrow.Author.Rules.{rules}
use Rattle.relay.proofs.rows_cross.Goals as goal

pub loop-i-init : goal.loop-i-init
loop-i-init c = refl

pub returns-then-row_crosses : goal.returns-then-row_crosses
returns-then-row_crosses c =
    let args = c.args in
    let loop = c.loop-i in
    let rs = args.rows in
    let n : length rs ≡ 32 = search (rules, length-mapped) in
    sym (loop.invariant ∙ rows-hit (formats_of args.packed) args.from rs loop.i _ (omega arith) (sym c.row_crosses.ensures ∙ c.if-row_crosses.true))

pub loop-i-preserved : goal.loop-i-preserved
loop-i-preserved c =
    let args = c.args in
    let loop = c.loop-i in
    let rs = args.rows in
    let n : length rs ≡ 32 = search (rules, length-mapped) in
    loop.invariant ∙ rows-miss (formats_of args.packed) args.from rs loop.i _ (omega arith) (sym c.row_crosses.ensures ∙ c.if-row_crosses.false)

pub returns : goal.returns
returns c =
    let args = c.args in
    let rs = args.rows in
    let n : length rs ≡ 32 = search (rules, length-mapped) in
    sym (c.loop-i.invariant ∙ rows_end (formats_of args.packed) args.from rs c.loop-i.i (omega arith))
