use Prim.Native.Nat.{◌-◌, ◌≤◌}
use mathlib.Core.Path.{◌≡◌}
use lib.ListN.{drop}
use Rattle.seq.specs.Lists.{first, first_from}
use Rattle.contents.specs.Contents.{sections, of_kind}
use Rattle.contents.proofs.body.Given as goal

abbrev pub invariant-loop-k : goal.invariant-loop-k
invariant-loop-k l = first (of_kind l.kind) (sections l.file) ≡ first_from (of_kind l.kind) l.k (drop l.k (sections l.file))
