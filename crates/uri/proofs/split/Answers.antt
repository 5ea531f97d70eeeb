use Prim.Native.Nat.{◌≤◌}
use native.Mathlib.Omega.{arith}
use mathlib.Core.Path.{◌≡◌, sym, ap, ◌∙◌}
use lib.ListN.{length, take}
use Rattle.uri.specs.Components.{spans_to}
use Rattle.uri.specs.Uri.{part_end}
use Rattle.uri.proofs.Laws.{end_short}
use Rattle.uri.proofs.Places.{filled-start, filled-step, filled-past, filled-most}
use Rattle.uri.proofs.split.Goals as goal

pub loop-count-init : goal.loop-count-init
loop-count-init c = (omega arith, filled-start _)

pub returns-then-text-at : goal.returns-then-text-at
returns-then-text-at c =
    let args = c.args in
    let loop = c.loop-count in record {
      spans = filled-past args.text.now loop.places loop.count loop.at loop.invariant.1 (omega arith) c.if-text-at.true;
      most = omega arith;
    }

pub overflow_add-at : goal.overflow_add-at
overflow_add-at c =
    let args = c.args in
    let loop = c.loop-count in
    omega (arith, c.part_end-e.ensures, end_short args.text.now loop.at (omega arith))

pub loop-count-preserved : goal.loop-count-preserved
loop-count-preserved c =
    let args = c.args in
    let loop = c.loop-count in
    let h : part_end args.text.now loop.at ≤ length args.text.now = end_short args.text.now loop.at (omega arith) in (
      omega (arith, c.part_end-e.ensures),
      filled-step args.text.now loop.places loop.count loop.at _ loop.invariant.1 (omega arith) (omega arith) c.part_end-e.ensures,
    )

pub returns : goal.returns
returns c =
    let args = c.args in
    let loop = c.loop-count in
    let e : loop.count ≡ 129 = omega arith in record {
      spans = ap (λ n. spans_to 0 (take n loop.places)) (sym e) ∙ filled-most args.text.now loop.places loop.count loop.at loop.invariant.1 (omega arith);
      most = omega arith;
    }
