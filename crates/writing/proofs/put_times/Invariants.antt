use mathlib.Core.Path.{◌≡◌}
use lib.ListN.{length}
use Rattle.seq.specs.Bytes.{source}
use Rattle.pieces.specs.Pieces.{written}
use Rattle.buffer.proofs.Wrote.{Wrote}
use Rattle.writing.specs.Times.{repeated}
use Rattle.writing.proofs.put_times.Given as goal

-- relative to what the pieces left: the copies behind them
abbrev pub invariant-loop-i : goal.invariant-loop-i
invariant-loop-i l =
    Wrote l.initial.out l.past (repeated l.i (written (source l.message l.text) l.ps)) l.o l.out × (length l.out ≡ length l.initial.out)
