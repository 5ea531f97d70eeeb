use mathlib.Core.Path.{refl, sym, ap, ◌∙◌}
use mathlib.Core.Logic.{inl}
use native.Mathlib.Omega.{arith}
use lib.ListN.{length}
use Rattle.strings.proofs.Places.{within-plain, plain-on, rest_end, mark-next, mark-end}
use Rattle.strings.proofs.mark.Goals as goal

pub loop-at-init : goal.loop-at-init
loop-at-init c = (refl, omega arith, omega arith, inl refl)

pub spelled-c-requires : goal.spelled-c-requires
spelled-c-requires c = (omega arith, c.if-b-eq92.true, c.loop-at.invariant.3)

pub loop-at-smaller-then-b-eq92 : goal.loop-at-smaller-then-b-eq92
loop-at-smaller-then-b-eq92 c = let q = ap length c.spelled-c.ensures.means in omega arith

pub loop-at-preserved-then-b-eq92 : goal.loop-at-preserved-then-b-eq92
loop-at-preserved-then-b-eq92 c =
    let loop = c.loop-at in
    let spelled = c.spelled-c in
    (loop.invariant.0 ∙ mark-next _ _ _ _ spelled.ensures.means, omega arith, spelled.ensures.place.0, spelled.ensures.place.1)

pub overflow_cast-m-else-b-eq92 : goal.overflow_cast-m-else-b-eq92
overflow_cast-m-else-b-eq92 c = omega (arith, c.shared_slice_known-in-loop-at-1.given c.loop-at.at)

pub overflow_add-m-else-b-eq92 : goal.overflow_add-m-else-b-eq92
overflow_add-m-else-b-eq92 c = omega (arith, c.shared_slice_known-in-loop-at-1.given c.loop-at.at)

pub loop-at-smaller : goal.loop-at-smaller
loop-at-smaller c =
    let loop = c.loop-at in
    let q = ap length (plain-on c.args.t.now loop.at loop.k (omega arith) loop.invariant.3 c.if-b-eq92.false) in
    omega arith

pub loop-at-preserved : goal.loop-at-preserved
loop-at-preserved c =
    let t = c.args.t.now in
    let loop = c.loop-at in (
      loop.invariant.0 ∙ mark-next _ _ _ _ (plain-on t loop.at loop.k (omega arith) loop.invariant.3 c.if-b-eq92.false),
      omega arith,
      omega arith,
      inl (within-plain t loop.at loop.k loop.invariant.3 c.if-b-eq92.false),
    )

pub returns : goal.returns
returns c =
    let loop = c.loop-at in
    sym (loop.invariant.0 ∙ mark-end _ _ (rest_end c.args.t.now loop.at loop.k (omega arith)))
