use Prim.Native.Nat.{◌-◌}
use mathlib.Core.Path.{refl}
use native.Mathlib.Omega.{arith}
use lib.ListN.{drop_of_length-le}
use Rattle.hex_text.specs.Hex.{hex_of}
use Rattle.report.proofs.Puts.{begins, turns, ends}
use Rattle.report.proofs.Bodies.{digits-turn}
use Rattle.report.proofs.put_digits.Goals as goal

pub loop-b-init : goal.loop-b-init
loop-b-init c = (refl, begins c.args.text.now c.args.at (hex_of c.args.bytes.now))

pub loop-b-preserved : goal.loop-b-preserved
loop-b-preserved c =
    let left = rw (digits-turn c.args.bytes.now c.loop-b.b-index (omega arith)) at c.loop-b.invariant.1 in
    let said = rw c.pair-pair.ensures at c.put-to.ensures in
    (omega (arith, c.put-to.auto), turns _ _ left said)

pub shape_of-text : goal.shape_of-text
shape_of-text c = omega arith

pub returns : goal.returns
returns c =
    let e = drop_of_length-le c.args.bytes.now {i = c.loop-b.b-index} (omega arith) in
    ends (rw e at c.loop-b.invariant.1)
