use Prim.Native.Nat.{◌-◌}
use mathlib.Core.Path.{◌≡◌}
use mathlib.Core.List.{◌++◌, map}
use lib.ListN.{replicate}
use Rattle.model.specs.State.{no_session}
use Rattle.image.specs.Image.{cut, session_of}
use Rattle.image.proofs.load_sessions.Given as goal

abbrev pub invariant-loop-i : goal.invariant-loop-i
invariant-loop-i l = l.rows ≡ map session_of (cut 25 l.i l.s) ++ replicate (8 - l.i) no_session
