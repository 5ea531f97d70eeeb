use Prim.Native.Nat.{◌-◌}
use native.Mathlib.Omega.{arith}
use Rattle.replay.proofs.Laws.{counted}
use borrow.Author.Rules.{rules}
use Rattle.replay.proofs.replay.Goals as goal

pub overflow_add-at : goal.overflow_add-at
overflow_add-at o c =
    let inside = c.loop-at-test.true in
    let within = c.line_end-end.ensures.within (omega (arith, inside)) in
    omega (arith, within, c.well_formed)

pub loop-at-preserved : goal.loop-at-preserved
loop-at-preserved o c =
    let line-end = c.line_end-end in
    let play = c.play-played in
    let loop = c.loop-at in
    let inside = c.loop-at-test.true in
    let within = line-end.ensures.within (omega (arith, inside)) in
    let more = counted loop.run _ play.ensures.run in
    let onward = line-end.ensures.onward in
    (omega (arith, onward, loop.invariant.0), omega (arith, more, loop.invariant.1), omega (arith, within), search rules, search rules)
