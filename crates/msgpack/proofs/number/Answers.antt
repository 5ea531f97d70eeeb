use mathlib.Core.Path.{◌≡◌, refl, ap, subst, ◌∙◌}
use Prim.Native.Nat.{ℕ, ◌+◌, ◌^◌, ◌<◌}
use native.Mathlib.Omega.{arith}
use Rattle.msgpack.specs.Head.{number}
use Rattle.msgpack.proofs.Heads.{number_more, power-more, power_small, row-at, row-long}
use Rattle.msgpack.proofs.number.Goals as goal

pub loop-b-init : goal.loop-b-init
unfolding number
loop-b-init c = (refl, omega arith)

pub overflow_mul-n : goal.overflow_mul-n
overflow_mul-n c =
    let a = c.args in
    let long = row-long a.s.now a.at a.width c.requires.0 in
    let p = power_small c.loop-b.b-index (omega arith) in
    omega arith

pub overflow_add-n : goal.overflow_add-n
overflow_add-n c =
    let a = c.args in
    let i = c.loop-b.b-index in
    let long = row-long a.s.now a.at a.width c.requires.0 in
    let b = c.wide.ensures ∙ row-at a.s.now a.at a.width i (omega arith) in
    let p = power_small i (omega arith) in
    omega (arith, c.type_inv.s (a.at + i))

pub loop-b-preserved : goal.loop-b-preserved
loop-b-preserved c =
    let a = c.args in
    let l = c.loop-b in
    let long = row-long a.s.now a.at a.width c.requires.0 in
    let b = c.wide.ensures ∙ row-at a.s.now a.at a.width l.b-index (omega arith) in
    let p = power-more l.b-index in
    (number_more _ _ _ _ _ l.invariant.0 b, omega (arith, c.type_inv.s (a.at + l.b-index)))

pub returns : goal.returns
returns c =
    let a = c.args in
    let l = c.loop-b in
    let q : l.b-index ≡ a.width = omega (arith, row-long a.s.now a.at a.width c.requires.0) in record {
      means = l.invariant.0 ∙ ap (λ (k : ℕ). number a.s.now a.at k) q;
      small = subst (λ (k : ℕ). l.n < 256 ^ k) q l.invariant.1;
    }
