use mathlib.Core.Path.{◌≡◌}
use Prim.Native.Nat.{◌≤◌, max}
use lib.ListN.{length}
use Rattle.script.specs.Script.{upto}
use Rattle.script.proofs.upto.Given as goal

abbrev pub invariant-loop-i : goal.invariant-loop-i
invariant-loop-i l = (upto l.b l.s l.i ≡ upto l.b l.s l.at) × (l.i ≤ max (length l.s) l.at)
