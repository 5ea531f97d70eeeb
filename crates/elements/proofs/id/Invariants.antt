use mathlib.Core.Path.{◌≡◌}
use Prim.Native.Nat.{◌≤◌}
use lib.ListN.{drop}
use Rattle.seq.specs.Numbers.{last_id}
use Rattle.elements.specs.Kinds.{id_from, id_of}
use Rattle.elements.proofs.id.Given as goal

abbrev pub invariant-loop-b : goal.invariant-loop-b
invariant-loop-b l = (id_from l.v (drop l.b-index l.t) ≡ id_of l.t) × (l.v ≤ last_id)
