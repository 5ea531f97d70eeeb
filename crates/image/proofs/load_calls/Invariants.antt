use Prim.Native.Nat.{◌-◌}
use mathlib.Core.Path.{◌≡◌}
use mathlib.Core.List.{◌++◌, map}
use lib.ListN.{replicate}
use Rattle.model.specs.State.{no_call}
use Rattle.image.specs.Image.{cut, call_of}
use Rattle.image.proofs.load_calls.Given as goal

abbrev pub invariant-loop-i : goal.invariant-loop-i
invariant-loop-i l = l.rows ≡ map call_of (cut 18 l.i l.s) ++ replicate (32 - l.i) no_call
