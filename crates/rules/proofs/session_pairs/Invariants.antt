use Prim.Native.Nat.{◌+◌}
use mathlib.Core.Path.{◌≡◌}
use Rattle.seq.specs.Lists.{pairwise}
use Rattle.seq.proofs.Loops.{pairs_at}
use Rattle.model.specs.Rules.{ids_apart}
use Rattle.model.specs.State.{no_session}
use Rattle.rules.proofs.session_pairs.Given as goal

abbrev pub invariant-loop-i : goal.invariant-loop-i
invariant-loop-i l = pairwise ids_apart l.sessions ≡ pairs_at ids_apart no_session l.sessions l.i (l.i + 1)

abbrev pub invariant-loop-j : goal.invariant-loop-j
invariant-loop-j l = pairwise ids_apart l.sessions ≡ pairs_at ids_apart no_session l.sessions l.i l.j
