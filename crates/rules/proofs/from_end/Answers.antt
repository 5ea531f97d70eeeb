use Prim.Native.Nat.{◌-◌}
use mathlib.Core.Path.{◌≡◌, sym, ap, ◌∙◌}
use native.Mathlib.Omega.{arith}
use lib.ListN.{length}
use Rattle.seq.specs.Bytes.{byte_at}
use Rattle.rules.proofs.from_end.Goals as goal

pub returns-then-n-k : goal.returns-then-n-k
returns-then-n-k c =
    let args = c.args in
    let e : length args.text.now - args.k ≡ 0 = omega arith in
    c.byte.ensures ∙ ap (byte_at args.text.now) (sym e)
