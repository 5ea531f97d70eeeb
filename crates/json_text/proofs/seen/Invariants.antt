use Prim.Native.Nat.{◌-◌}
use mathlib.Core.Bool.{false}
use mathlib.Core.Path.{◌≡◌}
use Rattle.seq.specs.Bytes.{among}
use Rattle.strings.specs.Strings.{undone}
use Rattle.json_text.specs.Keys.{table, texts}
use Rattle.json_text.proofs.seen.Given as goal

abbrev pub invariant-loop-j : goal.invariant-loop-j
invariant-loop-j l = among (undone l.key) (texts l.s (table l.starts l.ends l.marks) l.n (l.j - l.n)) ≡ false
