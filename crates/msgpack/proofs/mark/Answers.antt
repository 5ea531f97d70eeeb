use mathlib.Core.Path.{refl, sym, ◌∙◌}
use native.Mathlib.Omega.{arith}
use Rattle.msgpack.proofs.Keys.{mark-step, mark-done}
use Rattle.msgpack.proofs.mark.Goals as goal

pub loop-b-init : goal.loop-b-init
loop-b-init c = (refl, omega arith)

pub overflow_add-m : goal.overflow_add-m
overflow_add-m c = omega (arith, c.type_inv.t c.loop-b.b-index)

pub loop-b-preserved : goal.loop-b-preserved
loop-b-preserved c =
    let loop = c.loop-b in
    (loop.invariant.0 ∙ mark-step c.args.t.now loop.m loop.b-index (omega arith), omega arith)

pub returns : goal.returns
returns c =
    let loop = c.loop-b in
    sym (loop.invariant.0 ∙ mark-done c.args.t.now loop.m loop.b-index (omega arith))
