use Prim.Native.Nat.{◌-◌, ◌≤◌}
use mathlib.Core.Path.{◌≡◌}
use lib.ListN.{drop}
use Rattle.seq.specs.Lists.{every}
use Rattle.contents.specs.Contents.{sections, inside}
use Rattle.contents.proofs.all_inside.Given as goal

abbrev pub invariant-loop-k : goal.invariant-loop-k
invariant-loop-k l = every (inside l.file) (sections l.file) ≡ every (inside l.file) (drop l.k (sections l.file))
