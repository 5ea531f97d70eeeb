use Prim.Native.Nat.{◌-◌}
use mathlib.Core.Bool.{true}
use mathlib.Core.Path.{◌≡◌}
use lib.ListN.{length, drop}
use Rattle.seq.specs.Lists.{every}
use Rattle.settings.specs.Settings.{rules_apart}
use Rattle.settings.specs.Lent.{rule_of}
use Rattle.settings_file.specs.File.{rules_in, whole_rules}
use Rattle.settings_file.proofs.none_like.Given as goal

abbrev pub invariant-loop-i : goal.invariant-loop-i
invariant-loop-i l = (whole_rules (drop l.i l.body) ≡ true) × (every (rules_apart (rule_of (drop l.at l.body))) (rules_in (drop l.from l.body)) ≡ every (rules_apart (rule_of (drop l.at l.body))) (rules_in (drop l.i l.body)))

abbrev pub decreases-loop-i : goal.decreases-loop-i
decreases-loop-i l = length l.body - l.i
