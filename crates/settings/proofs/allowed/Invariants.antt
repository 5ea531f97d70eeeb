use Prim.Native.Nat.{◌-◌, ◌≤◌}
use mathlib.Core.Bool.{true}
use mathlib.Core.List.{map}
use mathlib.Core.Path.{◌≡◌}
use Rattle.settings.specs.Settings.{most_rules, fits, decided}
use Rattle.settings.specs.Lent.{rule_of, settings_of}
use Rattle.settings.proofs.Laws.{used_from}
use Rattle.settings.proofs.allowed.Given as goal

abbrev pub invariant-loop-k : goal.invariant-loop-k
invariant-loop-k l =
    decided (fits l.slot l.number l.text) 0 true (settings_of l.settings).rules ≡ decided (fits l.slot l.number l.text) l.best l.yes (map rule_of (used_from l.settings l.k))
