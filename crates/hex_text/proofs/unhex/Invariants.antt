use Prim.Native.Nat.{◌-◌}
use lib.ListN.{length}
use Rattle.hex_text.proofs.Laws.{Reading}
use Rattle.hex_text.proofs.unhex.Given as goal

abbrev pub invariant-loop-n : goal.invariant-loop-n
invariant-loop-n l = Reading l.hex l.initial.out l.out l.n
