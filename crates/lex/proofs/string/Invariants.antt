use Rattle.lex.specs.Lex.{string}
use mathlib.Core.Path.{◌≡◌}
use Prim.Native.Nat.{ℕ, ◌+◌, ◌≤◌, ◌-◌}
use lib.ListN.{length}
use Rattle.lex.proofs.string.Given as goal

abbrev pub invariant-loop-at : goal.invariant-loop-at
invariant-loop-at l = ((f : ℕ) × (string f l.s l.i ≡ string (length l.s) l.s l.at) × (length l.s ≤ f + l.i)) × (l.at ≤ l.i)

abbrev pub decreases-loop-at : goal.decreases-loop-at
decreases-loop-at l = length l.s - l.i
