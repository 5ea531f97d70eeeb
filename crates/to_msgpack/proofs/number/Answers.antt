use Rattle.to_msgpack.proofs.Integers.{number-over, number-next, number-end, digit_low}
use Rattle.to_msgpack.specs.Integers.{bounded}
use mathlib.Core.Path.{◌≡◌, refl, sym, ap, ◌∙◌}
use Prim.Native.Nat.{ℕ, ◌+◌, ◌*◌, ◌-◌}
use native.Mathlib.Omega.{arith}
use Rattle.to_msgpack.proofs.number.Goals as goal

pub loop-b-init : goal.loop-b-init
loop-b-init c = (refl, omega arith)

pub overflow_sub-digit : goal.overflow_sub-digit
overflow_sub-digit c = let b = digit_low c.args.t.now c.loop-b.b-index c.requires (omega arith) in omega arith

pub returns-in_err-tens : goal.returns-in_err-tens
returns-in_err-tens c =
    rw c.from_residual.ensures
    (number-over c.loop-b.n c.args.t.now c.loop-b.b-index (omega arith) _ refl (omega (arith, c.in_err-tens.ensures)) ∙ ap bounded c.loop-b.invariant.0)

pub returns-in_err-n : goal.returns-in_err-n
returns-in_err-n c =
    rw c.from_residual-in_err-n.ensures
    (number-over c.loop-b.n c.args.t.now c.loop-b.b-index (omega arith) _ (ap (λ (x : ℕ). x - 48) c.wide-digit.ensures) (omega (arith, c.in_ok-tens.ensures, c.in_err-n.ensures))
    ∙ ap bounded c.loop-b.invariant.0)

pub loop-b-preserved : goal.loop-b-preserved
loop-b-preserved c =
    let e : c.in_ok-n.n ≡ c.loop-b.n * 10 + (c.wide-digit.result - 48) = omega (arith, c.in_ok-tens.ensures, c.in_ok-n.ensures) in (
      rw e
          (sym (number-next c.loop-b.n c.args.t.now c.loop-b.b-index (omega arith) _ (ap (λ (x : ℕ). x - 48) c.wide-digit.ensures)) ∙ c.loop-b.invariant.0),
      omega arith,
    )

pub returns : goal.returns
returns c = number-end c.loop-b.n c.args.t.now c.loop-b.b-index (omega arith) (omega arith) ∙ ap bounded c.loop-b.invariant.0
