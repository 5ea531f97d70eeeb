use Prim.Native.Nat.{◌-◌, ◌≤◌}
use mathlib.Core.Path.{◌≡◌}
use lib.ListN.{drop}
use Rattle.seq.specs.Lists.{every}
use Rattle.settings.specs.Settings.{rule_good}
use Rattle.settings.specs.Lent.{settings_of}
use Rattle.settings.proofs.each_good.Given as goal

abbrev pub invariant-loop-k : goal.invariant-loop-k
invariant-loop-k l = every rule_good (settings_of l.settings).rules ≡ every rule_good (drop l.k (settings_of l.settings).rules)
