use Prim.Native.Nat.{◌≤◌}
use mathlib.Core.Path.{sym, ◌∙◌}
use native.Mathlib.Omega.{arith}
use lib.ListN.{length}
use Rattle.uri.specs.Uri.{part_end}
use Rattle.uri.proofs.Laws.{end_short, end_after}
use Rattle.uri.proofs.Laws.{filled-start, filled-pass, filled-fail, filled-at-end, filled-past}
use Rattle.uri.proofs.all_filled.Goals as goal

pub loop-i-init : goal.loop-i-init
loop-i-init c = (omega arith, filled-start _ _)

pub returns-then-e-text : goal.returns-then-e-text
returns-then-e-text c =
    let args = c.args in
    let loop = c.loop-i in
    let part-end = c.part_end-e in
    sym (loop.invariant.1 ∙ filled-fail args.last_open args.text.now loop.i (omega arith) (omega (arith, part-end.ensures))
    (omega arith))

pub returns-then-e-i : goal.returns-then-e-i
returns-then-e-i c =
    let args = c.args in
    let loop = c.loop-i in
    let part-end = c.part_end-e in
    sym (loop.invariant.1 ∙ filled-at-end args.last_open args.text.now loop.i (omega arith) (omega (arith, part-end.ensures))
    (omega arith))

pub overflow_add-i : goal.overflow_add-i
overflow_add-i c =
    let args = c.args in
    let loop = c.loop-i in
    let part-end = c.part_end-e in
    omega (arith, part-end.ensures, end_short args.text.now loop.i (omega arith))

pub loop-i-smaller : goal.loop-i-smaller
loop-i-smaller c =
    let args = c.args in
    let loop = c.loop-i in
    let part-end = c.part_end-e in
    omega (arith, part-end.ensures, end_short args.text.now loop.i (omega arith), end_after args.text.now loop.i)

pub loop-i-preserved : goal.loop-i-preserved
loop-i-preserved c =
    let args = c.args in
    let loop = c.loop-i in
    let part-end = c.part_end-e in
    let h : part_end args.text.now loop.i ≤ length args.text.now = end_short args.text.now loop.i (omega arith) in (
      omega (arith, part-end.ensures),
      rw part-end.ensures (loop.invariant.1
          ∙ filled-pass args.last_open args.text.now loop.i (omega arith) (λ e. c.if-e-i.false (part-end.ensures ∙ e))),
    )

pub returns : goal.returns
returns c =
    let args = c.args in
    let loop = c.loop-i in
    sym (loop.invariant.1 ∙ filled-past args.last_open args.text.now loop.i (omega arith))
