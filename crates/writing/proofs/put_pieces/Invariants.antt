use mathlib.Core.Path.{◌≡◌}
use lib.ListN.{length, take}
use Rattle.seq.specs.Bytes.{source}
use Rattle.pieces.specs.Pieces.{written}
use Rattle.buffer.proofs.Wrote.{Wrote}
use Rattle.writing.proofs.put_pieces.Given as goal

abbrev pub invariant-loop-p : goal.invariant-loop-p
invariant-loop-p l =
    (length l.p-items ≡ 9) × Wrote l.initial.out l.at (written (source l.message l.text) (take l.p-index l.p-items)) l.o l.out × (length l.out ≡ length l.initial.out)
