use Prim.Native.Nat.{◌+◌}
use lib.ListN.{length}
use Rattle.seq.specs.declared.Format.TheVariants.{Json}
use Rattle.json_text.proofs.Laws.{left}
use Rattle.elements.specs.Elements.{whole, elements}
use Rattle.options.specs.Audience.{ids_in}
use Rattle.options.proofs.Laws.{Walk}
use Rattle.options.proofs.in_list.Given as goal

abbrev pub invariant-loop-m : goal.invariant-loop-m
invariant-loop-m l = Walk l.v l.m l.r (ids_in Json l.v (whole l.v (elements 7 l.v (l.a + 1))))

abbrev pub decreases-loop-m : goal.decreases-loop-m
decreases-loop-m l = left (length l.v) l.m
