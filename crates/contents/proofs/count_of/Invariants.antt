use Prim.Native.Nat.{◌+◌, ◌-◌, ◌≤◌}
use mathlib.Core.Path.{◌≡◌}
use lib.ListN.{drop}
use Rattle.seq.specs.Lists.{tally}
use Rattle.contents.specs.Contents.{sections, of_kind}
use Rattle.contents.proofs.count_of.Given as goal

abbrev pub invariant-loop-k : goal.invariant-loop-k
invariant-loop-k l = (l.n ≤ l.k) × (tally (of_kind l.kind) (sections l.file) ≡ l.n + tally (of_kind l.kind) (drop l.k (sections l.file)))
