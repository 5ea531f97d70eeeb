use Prim.Native.Nat.{◌+◌, ◌≤◌, ◌-◌}
use mathlib.Core.Bool.{true}
use mathlib.Core.Path.{◌≡◌}
use lib.ListN.{length, drop}
use Rattle.settings_file.specs.File.{rules_in, whole_rules}
use Rattle.settings_file.proofs.rule_count.Given as goal

abbrev pub invariant-loop-at : goal.invariant-loop-at
invariant-loop-at l = (l.at ≤ length l.body) × (l.count ≤ l.at) × (whole_rules (drop l.at l.body) ≡ true) × (length (rules_in l.body) ≡ l.count + length (rules_in (drop l.at l.body)))

abbrev pub decreases-loop-at : goal.decreases-loop-at
decreases-loop-at l = length l.body - l.at
