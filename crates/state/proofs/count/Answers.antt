use mathlib.Core.Path.{◌≡◌}
use native.Mathlib.Omega.{arith}
use lib.ListN.{length}
use Rattle.seq.proofs.Loops.{tally-hit, tally-miss, tally-end}
use Rattle.model.specs.State.{is_holder}
use borrow.Author.Rules.{rules}
use Rattle.state.proofs.count.Goals.{else-holds, then-holds}
use Rattle.state.proofs.count.Goals as goal

pub loop-holds-init : goal.loop-holds-init
loop-holds-init c = (omega arith, omega arith)

pub loop-holds-preserved : goal.loop-holds-preserved
loop-holds-preserved c =
    let xs = c.args.holders in
    let l : length xs ≡ 8 = search rules in
    let i = c.loop-holds.holds-index in
    let e = c.loop-holds.invariant.1 in
    elim c.if-holds.branch [
      | then-holds w ↦ let k = tally-hit is_holder xs i _ (omega arith) w.if-holds.true in (omega arith, omega arith)
      | else-holds w ↦ let k = tally-miss is_holder xs i _ (omega arith) w.if-holds.false in (omega arith, omega arith)
    ]

pub returns : goal.returns
returns c =
    let xs = c.args.holders in
    let l : length xs ≡ 8 = search rules in
    let k = tally-end is_holder xs c.loop-holds.holds-index (omega arith) in
    omega arith
