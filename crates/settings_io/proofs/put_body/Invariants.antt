use Prim.Native.Nat.{◌-◌, ◌≤◌}
use mathlib.Core.Path.{◌≡◌}
use lib.ListN.{length, take}
use Rattle.seq.specs.Lists.{joined}
use Rattle.buffer.proofs.Wrote.{Wrote}
use Rattle.settings.specs.Lent.{used_rows, settings_of}
use Rattle.settings_file.specs.File.{file_rule}
use Rattle.settings_io.proofs.put_body.Given as goal

abbrev pub invariant-loop-k : goal.invariant-loop-k
invariant-loop-k l = Wrote l.initial.out l.at (joined file_rule (take l.k (settings_of l.settings).rules)) l.o l.out × (length l.out ≡ length l.initial.out)
