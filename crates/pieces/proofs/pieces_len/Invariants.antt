use mathlib.Core.Path.{◌≡◌}
use lib.ListN.{length, take}
use Rattle.seq.specs.Bytes.{source}
use Rattle.buffer.specs.Capped.{capped}
use Rattle.pieces.specs.Pieces.{written}
use Rattle.pieces.proofs.pieces_len.Given as goal

abbrev pub invariant-loop-p : goal.invariant-loop-p
invariant-loop-p l = (length l.p-items ≡ 9) × (l.n ≡ capped (length (written (source l.message l.text) (take l.p-index l.p-items))))
