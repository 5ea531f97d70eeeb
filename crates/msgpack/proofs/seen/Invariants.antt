use Prim.Native.Nat.{◌-◌}
use mathlib.Core.Bool.{false}
use mathlib.Core.Path.{◌≡◌}
use Rattle.seq.specs.Bytes.{among}
use Rattle.json_text.specs.Keys.{table}
use Rattle.msgpack.specs.Keys.{texts}
use Rattle.msgpack.proofs.seen.Given as goal

abbrev pub invariant-loop-j : goal.invariant-loop-j
invariant-loop-j l = among l.key (texts l.s (table l.starts l.ends l.marks) l.n (l.j - l.n)) ≡ false
