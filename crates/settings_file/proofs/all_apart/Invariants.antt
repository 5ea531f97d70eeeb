use Prim.Native.Nat.{◌-◌}
use mathlib.Core.Bool.{true}
use mathlib.Core.Path.{◌≡◌}
use lib.ListN.{length, drop}
use Rattle.seq.specs.Lists.{pairwise}
use Rattle.settings.specs.Settings.{rules_apart}
use Rattle.settings_file.specs.File.{rules_in, whole_rules}
use Rattle.settings_file.proofs.all_apart.Given as goal

abbrev pub invariant-loop-at : goal.invariant-loop-at
invariant-loop-at l = (whole_rules (drop l.at l.body) ≡ true) × (pairwise rules_apart (rules_in l.body) ≡ pairwise rules_apart (rules_in (drop l.at l.body)))

abbrev pub decreases-loop-at : goal.decreases-loop-at
decreases-loop-at l = length l.body - l.at
