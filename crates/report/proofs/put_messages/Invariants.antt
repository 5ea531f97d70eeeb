use Prim.Native.Nat.{◌+◌, ◌*◌, ◌-◌, ◌≤◌}
use mathlib.Core.Path.{◌≡◌}
use lib.ListN.{length}
use Rattle.report.specs.Text.{messages_from, messages_text}
use Rattle.report.proofs.Puts.{Remains}
use Rattle.report.proofs.put_messages.Given as goal

abbrev pub invariant-loop-k : goal.invariant-loop-k
invariant-loop-k l =
    (l.from ≤ 2 + 3 * l.n + 65535 * l.k) × (length l.text ≡ length l.initial.text)
    × Remains l.initial.text l.at (messages_text l.out) l.text l.to (messages_from l.out (l.n - l.k) l.k l.from)
