use mathlib.Core.Path.{refl, sym, ap, ◌∙◌}
use Prim.Native.Nat.{◌+◌, ◌*◌}
use native.Mathlib.Omega.{arith}
use lib.ListN.{drop}
use Rattle.script.specs.Numbers.{fitting}
use Rattle.script.proofs.Laws.{value-large, value-go, value-end}
use Rattle.script.proofs.value.Goals as goal

pub loop-b-init : goal.loop-b-init
loop-b-init c = (refl, omega arith)

pub overflow_sub-d : goal.overflow_sub-d
overflow_sub-d c = omega (arith, c.type_inv.digits c.loop-b.b-index)

pub returns-then-d-v : goal.returns-then-d-v
returns-then-d-v c =
    let loop = c.loop-b in
    let args = c.args in
    let digit = c.digit-d in
    sym (value-large (loop.v * 10 + digit.result) (drop (loop.b-index + 1) args.digits.now) (omega arith))
    ∙ ap fitting (sym (value-go loop.v args.digits.now loop.b-index (omega arith) digit.result digit.ensures)) ∙ loop.invariant.0

pub loop-b-preserved : goal.loop-b-preserved
loop-b-preserved c =
    let loop = c.loop-b in
    let args = c.args in
    let digit = c.digit-d in
    (ap fitting (sym (value-go loop.v args.digits.now loop.b-index (omega arith) digit.result digit.ensures)) ∙ loop.invariant.0, omega arith)

pub returns : goal.returns
returns c =
    let loop = c.loop-b in
    let args = c.args in
    sym (value-end loop.v args.digits.now loop.b-index (omega arith) (omega arith)) ∙ loop.invariant.0
