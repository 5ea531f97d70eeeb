use mathlib.Core.Path.{◌≡◌}
use Prim.Native.Nat.{◌≤◌, ◌-◌}
use lib.ListN.{length, drop}
use Rattle.seq.specs.Lists.{every}
use Rattle.hex_text.specs.Hex.{is_hex}
use Rattle.hex_text.proofs.only_digits.Given as goal

abbrev pub invariant-loop-b : goal.invariant-loop-b
invariant-loop-b l = every is_hex l.s ≡ every is_hex (drop l.b-index l.s)
