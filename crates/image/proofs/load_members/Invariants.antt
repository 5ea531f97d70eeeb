use Prim.Native.Nat.{◌-◌}
use mathlib.Core.Path.{◌≡◌}
use mathlib.Core.List.{◌++◌}
use lib.ListN.{length, take}
use Rattle.image.specs.Image.{bits_of}
use Rattle.image.proofs.load_members.Given as goal

abbrev pub invariant-loop-i : goal.invariant-loop-i
invariant-loop-i l = (length l.holders ≡ 8) × (bits_of 8 l.b ≡ take l.i l.holders ++ bits_of (8 - l.i) l.left)
