use Prim.Native.Nat.{◌-◌, ◌≤◌}
use mathlib.Core.Path.{◌≡◌}
use lib.Dec.{ltb}
use lib.ListN.{drop}
use Rattle.seq.specs.Lists.{every}
use Rattle.contents.specs.Contents.{sections}
use Rattle.contents.proofs.all_known.Given as goal

abbrev pub invariant-loop-k : goal.invariant-loop-k
invariant-loop-k l = every (λ x. ltb x.kind l.n) (sections l.file) ≡ every (λ x. ltb x.kind l.n) (drop l.k (sections l.file))
