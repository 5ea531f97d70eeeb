use Prim.Native.Nat.{◌+◌}
use mathlib.Core.Path.{◌≡◌}
use mathlib.Core.List.{◌++◌}
use lib.ListN.{length, take, drop}
use Rattle.image.specs.Image.{put, digits}
use Rattle.keep.proofs.store_number.Given as goal

abbrev pub invariant-loop-i : goal.invariant-loop-i
invariant-loop-i l = (length l.s ≡ length l.initial.s) × (put l.initial.s l.at (digits 8 l.x) ≡ take l.at l.s ++ (digits l.i l.left ++ drop (l.at + l.i) l.s))
