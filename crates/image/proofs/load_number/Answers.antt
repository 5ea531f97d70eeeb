use mathlib.Core.Path.{◌≡◌, refl, ap, ◌∙◌}
use native.Mathlib.Omega.{arith}
use Rattle.image.specs.Image.{number}
use Rattle.image.proofs.Laws.{number_fits, number_more}
use Rattle.image.proofs.load_number.Goals as goal

pub loop-i-init : goal.loop-i-init
unfolding number
loop-i-init c = refl

pub overflow_mul-x : goal.overflow_mul-x
overflow_mul-x c =
    let s = c.args.s.now in
    let i = c.loop-i.i in
    let h = number_fits s (λ k. omega (arith, c.shared_slice_known-1.given k)) i (omega arith) in
    let e : c.loop-i.x ≡ number i s = c.loop-i.invariant in
    omega arith

pub overflow_add-x : goal.overflow_add-x
overflow_add-x c =
    let s = c.args.s.now in
    let i = c.loop-i.i in
    let h = number_fits s (λ k. omega (arith, c.shared_slice_known-1.given k)) i (omega arith) in
    let e : c.loop-i.x ≡ number i s = c.loop-i.invariant in
    omega (arith, c.wide.ensures)

pub loop-i-preserved : goal.loop-i-preserved
loop-i-preserved c =
    rw (c.wide.ensures, c.loop-i.invariant) (number_more c.args.s.now c.loop-i.i)

pub returns : goal.returns
returns c =
    let e : c.loop-i.i ≡ 8 = omega arith in
    c.loop-i.invariant ∙ ap (λ n. number n c.args.s.now) e
