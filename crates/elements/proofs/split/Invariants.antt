use Prim.Native.Nat.{◌+◌}
use lib.ListN.{length}
use Rattle.json_text.proofs.Laws.{left}
use Rattle.elements.specs.Elements.{elements}
use Rattle.elements.proofs.Laws.{Walk}
use Rattle.elements.proofs.split.Given as goal

abbrev pub invariant-loop-m : goal.invariant-loop-m
invariant-loop-m l = Walk l.s l.m l.r (elements 7 l.s (l.a + 1))

abbrev pub decreases-loop-m : goal.decreases-loop-m
decreases-loop-m l = left (length l.s) l.m
