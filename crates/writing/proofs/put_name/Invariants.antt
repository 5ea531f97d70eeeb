use mathlib.Core.Path.{◌≡◌}
use lib.ListN.{length, take}
use Rattle.seq.specs.Lists.{joined}
use Rattle.writing.proofs.Escaped.{letter}
use Rattle.buffer.proofs.Wrote.{Wrote}
use Rattle.writing.proofs.put_name.Given as goal

abbrev pub invariant-loop-b : goal.invariant-loop-b
invariant-loop-b l =
    Wrote l.initial.out l.at (joined letter (take l.b-index l.text)) l.o l.out × (length l.out ≡ length l.initial.out)
