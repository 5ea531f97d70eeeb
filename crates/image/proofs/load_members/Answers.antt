use mathlib.Core.Path.{◌≡◌, refl, sym, ◌∙◌}
use mathlib.Core.List.{append-nil}
use native.Mathlib.Omega.{arith}
use lib.ListN.{length-set}
use lib.Seq.{take_all}
use Rattle.image.specs.Image.{bits_of}
use Rattle.image.proofs.Laws.{bits-more}
use Rattle.image.proofs.load_members.Goals as goal

pub loop-i-init : goal.loop-i-init
unfolding bits_of
loop-i-init c = (refl, refl)

pub bounds-holders-i : goal.bounds-holders-i
bounds-holders-i c = omega arith

pub loop-i-preserved : goal.loop-i-preserved
loop-i-preserved c =
    let b = c.loop-i in (
      simp length-set b.invariant.0,
      b.invariant.1 ∙ bits-more 8 b.i b.left b.holders (omega arith) b.invariant.0,
    )

pub returns : goal.returns
unfolding bits_of
returns c =
    let e : c.loop-i.i ≡ 8 = omega arith in
    let l = c.loop-i.invariant.0 in
    sym (c.loop-i.invariant.1 ∙ rw (e, take_all 8 c.loop-i.holders (omega arith)) (append-nil c.loop-i.holders))
