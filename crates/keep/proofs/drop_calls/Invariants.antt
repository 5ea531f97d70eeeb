use Prim.Native.Nat.{◌*◌}
use mathlib.Core.Path.{◌≡◌}
use lib.ListN.{length, drop}
use Rattle.seq.specs.Lists.{joined}
use Rattle.image.specs.Image.{call_size, calls_at, cut, put}
use Rattle.keep.specs.Keep.{dropped_bytes}
use Rattle.keep.proofs.drop_calls.Given as goal

abbrev pub invariant-loop-i : goal.invariant-loop-i
invariant-loop-i l =
    (length l.state ≡ length l.initial.state) × (length (joined (dropped_bytes l.slot) (cut call_size l.i (drop calls_at l.initial.state))) ≡ l.i * call_size)
    × (l.state ≡ put l.initial.state calls_at (joined (dropped_bytes l.slot) (cut call_size l.i (drop calls_at l.initial.state))))
