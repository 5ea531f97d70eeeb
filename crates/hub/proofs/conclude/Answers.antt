use native.Mathlib.Omega.{arith}
use Rattle.hub.proofs.conclude.Goals as goal

pub complete-requires : goal.complete-requires
complete-requires c = omega (arith, c.if-message-le170.true)

pub returns-then-message-le170 : goal.returns-then-message-le170
returns-then-message-le170 c =
    c.complete.ensures

pub complete-requires-2 : goal.complete-requires-2
complete-requires-2 c = omega (arith, c.requires)

pub returns : goal.returns
returns c =
    c.complete-2.ensures
