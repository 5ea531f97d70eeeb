use Prim.Native.Nat.{◌-◌}
use mathlib.Core.Path.{◌≡◌, refl, sym, ◌∙◌}
use native.Mathlib.Omega.{arith}
use native.Mathlib.Nat.{add-zero}
use lib.ListN.{length-set, take-append-drop}
use Rattle.image.specs.Image.{put, digits}
use Rattle.image.proofs.Laws.{length_digits, number-back}
use Rattle.keep.proofs.store_number.Goals as goal

pub loop-i-init : goal.loop-i-init
unfolding put
loop-i-init c = (refl, rw (length_digits 8 c.args.x))

pub overflow_add-s : goal.overflow_add-s
overflow_add-s c = let l = c.loop-i.invariant.0 in omega arith

pub bounds-s-at : goal.bounds-s-at
bounds-s-at c = let l = c.loop-i.invariant.0 in omega arith

pub loop-i-preserved : goal.loop-i-preserved
loop-i-preserved c =
    let l = c.loop-i.invariant.0 in
    let s = c.loop-i.s in
    let b = c.loop-i in (
      simp length-set l,
      b.invariant.1 ∙ number-back s c.args.at b.i (b.i - 1) b.left (omega arith) (omega arith),
    )

pub shape_of-s : goal.shape_of-s
shape_of-s c = c.loop-i.invariant.0

pub returns : goal.returns
unfolding digits
returns c =
    let e : c.loop-i.i ≡ 0 = omega arith in
    sym (c.loop-i.invariant.1 ∙ rw (e, add-zero c.args.at) (take-append-drop c.args.at c.loop-i.s))
