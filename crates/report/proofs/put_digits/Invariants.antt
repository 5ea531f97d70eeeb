use Prim.Native.Nat.{◌≤◌, ◌-◌}
use mathlib.Core.Path.{◌≡◌}
use lib.ListN.{length, drop}
use Rattle.hex_text.specs.Hex.{hex_of}
use Rattle.report.proofs.Puts.{Remains}
use Rattle.report.proofs.put_digits.Given as goal

abbrev pub invariant-loop-b : goal.invariant-loop-b
invariant-loop-b l =
    (length l.text ≡ length l.initial.text) × Remains l.initial.text l.at (hex_of l.bytes) l.text l.to (hex_of (drop l.b-index l.bytes))
