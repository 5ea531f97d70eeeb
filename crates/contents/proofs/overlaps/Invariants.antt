use Prim.Native.Nat.{◌+◌}
use mathlib.Core.Path.{◌≡◌}
use Rattle.seq.specs.Lists.{pairwise}
use Rattle.seq.proofs.Loops.{pairs_at}
use Rattle.contents.specs.Contents.{parts, apart, no_section}
use Rattle.contents.proofs.overlaps.Given as goal

abbrev pub invariant-loop-i : goal.invariant-loop-i
invariant-loop-i l = pairwise apart (parts l.file) ≡ pairs_at apart no_section (parts l.file) l.i (l.i + 1)

abbrev pub invariant-loop-j : goal.invariant-loop-j
invariant-loop-j l = pairwise apart (parts l.file) ≡ pairs_at apart no_section (parts l.file) l.i l.j
