use Prim.Native.Nat.{◌+◌}
use mathlib.Core.Path.{◌≡◌}
use Rattle.seq.specs.Lists.{pairwise}
use Rattle.seq.proofs.Loops.{pairs_at}
use Rattle.model.specs.Rules.{calls_apart}
use Rattle.model.specs.State.{no_call}
use Rattle.rules.proofs.call_pairs.Given as goal

abbrev pub invariant-loop-i : goal.invariant-loop-i
invariant-loop-i l = pairwise calls_apart l.calls ≡ pairs_at calls_apart no_call l.calls l.i (l.i + 1)

abbrev pub invariant-loop-j : goal.invariant-loop-j
invariant-loop-j l = pairwise calls_apart l.calls ≡ pairs_at calls_apart no_call l.calls l.i l.j
