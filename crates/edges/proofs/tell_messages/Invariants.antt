use Prim.Native.Nat.{◌+◌, ◌-◌, ◌*◌, ◌≤◌}
use Rattle.edges.proofs.tell_messages.Given as goal

abbrev pub invariant-loop-k : goal.invariant-loop-k
invariant-loop-k o l = (l.n ≤ 65535) × (l.at ≤ 200000 + 65535 * l.k)
