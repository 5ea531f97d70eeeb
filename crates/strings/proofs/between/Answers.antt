use Prim.Native.Nat.{◌+◌, ◌-◌}
use mathlib.Core.Path.{sym, ◌∙◌}
use native.Mathlib.Omega.{arith}
use Rattle.strings.proofs.Places.{part_none}
use Rattle.strings.proofs.between.Goals as goal

pub returns-then-to-from : goal.returns-then-to-from
returns-then-to-from c =
    let args = c.args in
    c.text.ensures ∙ sym (part_none args.s.now (args.from + 1) (args.to - 1) (omega arith))
