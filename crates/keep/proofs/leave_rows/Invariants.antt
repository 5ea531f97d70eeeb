use Prim.Native.Nat.{◌+◌, ◌*◌}
use mathlib.Core.Path.{◌≡◌}
use lib.ListN.{length, drop}
use Rattle.seq.specs.Lists.{joined}
use Rattle.image.specs.Image.{row_size, cut, put, table_at}
use Rattle.keep.specs.Keep.{left_bytes}
use Rattle.keep.proofs.leave_rows.Given as goal

abbrev pub invariant-loop-i : goal.invariant-loop-i
invariant-loop-i l =
    (length l.state ≡ length l.initial.state) × (length (joined (left_bytes l.kind l.slot) (cut row_size l.i (drop (table_at l.kind + 8) l.initial.state))) ≡ l.i * row_size)
    × (l.state ≡ put l.initial.state (table_at l.kind + 8) (joined (left_bytes l.kind l.slot) (cut row_size l.i (drop (table_at l.kind + 8) l.initial.state))))
