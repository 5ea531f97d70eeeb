use mathlib.Core.Bool.{true}
use mathlib.Core.Path.{◌≡◌}
use Rattle.seq.specs.Lists.{every}
use Rattle.image.specs.Image.{cut, session_formed}
use Rattle.image.proofs.sessions_formed.Given as goal

abbrev pub invariant-loop-i : goal.invariant-loop-i
invariant-loop-i l = every session_formed (cut 25 l.i l.s) ≡ true
