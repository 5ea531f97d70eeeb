use mathlib.Core.Path.{◌≡◌}
use lib.ListN.{length, take}
use Rattle.seq.specs.Lists.{joined}
use Rattle.values.specs.Write.{spelled}
use Rattle.buffer.proofs.Wrote.{Wrote}
use Rattle.quoting.proofs.put_letters.Given as goal

abbrev pub invariant-loop-b : goal.invariant-loop-b
invariant-loop-b l =
    Wrote l.initial.out l.o (joined spelled (take l.b-index l.text)) l.q l.out × (length l.out ≡ length l.initial.out)
