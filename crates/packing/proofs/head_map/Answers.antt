use Rattle.packing.proofs.Moved.{headed-by}
use Rattle.packing.proofs.Laws.{some}
use Rattle.buffer.specs.Capped.{capped}
use mathlib.Core.Path.{ap, ◌∙◌}
use Prim.Native.Nat.{ℕ, ◌+◌}
use native.Mathlib.Omega.{arith}
use Rattle.packing.proofs.head_map.Goals as goal

pub shift-requires : goal.shift-requires
shift-requires c = omega arith

pub returns : goal.returns
returns c = let n = c.args.n in let q = c.args.q in let e = c.more-by.ensures.maps in record {
  place = c.plus.ensures ∙ ap (λ (k : ℕ). capped (q + k)) e;
  bytes = headed-by _ _ _ _ _ _ _ e (some n).1 c.shift.ensures c.put_map.ensures.bytes;
}
