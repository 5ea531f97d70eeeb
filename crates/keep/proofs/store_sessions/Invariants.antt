use Prim.Native.Nat.{◌*◌}
use mathlib.Core.Path.{◌≡◌}
use lib.ListN.{length, take}
use Rattle.seq.specs.Lists.{joined}
use Rattle.image.specs.Image.{put, session_bytes}
use Rattle.keep.proofs.store_sessions.Given as goal

abbrev pub invariant-loop-i : goal.invariant-loop-i
invariant-loop-i l =
    (length l.s ≡ length l.initial.s) × (length (joined session_bytes (take l.i l.rows)) ≡ l.i * 25)
    × (l.s ≡ put l.initial.s l.at (joined session_bytes (take l.i l.rows)))
