use Prim.Native.Nat.{◌-◌, ◌≤◌}
use mathlib.Core.Path.{◌≡◌}
use mathlib.Core.Bool.{true}
use lib.Dec.{eqb}
use Rattle.seq.specs.Lists.{every, tally}
use Rattle.contents.specs.Contents.{sections, of_kind, below}
use Rattle.contents.proofs.each_once.Given as goal

abbrev pub invariant-loop-k : goal.invariant-loop-k
invariant-loop-k l = every (λ j. eqb (tally (of_kind j) (sections l.file)) 1) (below l.k) ≡ true
