use Prim.Native.Nat.{◌+◌}
use mathlib.Core.List.{[]}
use mathlib.Core.Path.{◌≡◌}
use Rattle.seq.specs.Lists.{pairwise}
use Rattle.seq.proofs.Loops.{pairs_at}
use Rattle.settings.specs.Settings.{rules_apart}
use Rattle.settings.specs.Lent.{rule_of, settings_of}
use Rattle.settings.proofs.each_apart.Given as goal

abbrev pub invariant-loop-i : goal.invariant-loop-i
invariant-loop-i l = pairwise rules_apart (settings_of l.settings).rules ≡ pairs_at rules_apart (rule_of []) (settings_of l.settings).rules l.i (l.i + 1)

abbrev pub invariant-loop-j : goal.invariant-loop-j
invariant-loop-j l = pairwise rules_apart (settings_of l.settings).rules ≡ pairs_at rules_apart (rule_of []) (settings_of l.settings).rules l.i l.j
