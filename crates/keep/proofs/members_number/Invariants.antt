use lib.ListN.{length, drop}
use mathlib.Core.Path.{◌≡◌}
use Rattle.image.specs.Image.{bits_no}
use Rattle.keep.proofs.members_number.Given as goal

abbrev pub invariant-loop-i : goal.invariant-loop-i
invariant-loop-i l = (length l.holders ≡ 8) × (l.b ≡ bits_no (drop l.i l.holders))
