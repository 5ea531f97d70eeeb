use Prim.Native.Nat.{◌≤◌}
use mathlib.Core.Path.{sym, ◌∙◌}
use native.Mathlib.Omega.{arith}
use lib.ListN.{length}
use Rattle.uri.specs.Uri.{part_end}
use Rattle.uri.proofs.Laws.{end_short, end_after}
use Rattle.pattern.proofs.Laws.{beats-start, beats-short, beats-end, beats-lost, beats-won, beats-wild, beats-literal}
use Rattle.pattern.proofs.beats.Goals.{else-e-i+else-f-j-2, then-e-i+else-f-j}
use Rattle.pattern.proofs.beats.Goals as goal

pub loop-i-init : goal.loop-i-init
loop-i-init c = (omega arith, omega arith, beats-start _ _)

pub returns-then-b-j : goal.returns-then-b-j
returns-then-b-j c =
    let args = c.args in
    let loop = c.loop-i in
    sym (loop.invariant.2 ∙ beats-short args.a.now args.b.now loop.i loop.j (omega arith) c.if-b-j.true)

pub returns-then-f-j : goal.returns-then-f-j
returns-then-f-j c =
    let args = c.args in
    let loop = c.loop-i in
    let part-end = c.part_end-e in
    let part-end2 = c.part_end-f in
    sym (loop.invariant.2 ∙ beats-lost args.a.now args.b.now loop.i loop.j (omega arith) (omega arith)
    (omega (arith, part-end.ensures)) (λ z. c.if-f-j.true (part-end2.ensures ∙ z)))

pub returns-then-f-j-2 : goal.returns-then-f-j-2
returns-then-f-j-2 c =
    let args = c.args in
    let loop = c.loop-i in
    let part-end = c.part_end-e in
    let part-end2 = c.part_end-f in
    let if2 = c.if-e-i in
    sym (loop.invariant.2 ∙ beats-won args.a.now args.b.now loop.i loop.j (omega arith) (omega arith)
    (λ z. if2.false (part-end.ensures ∙ z)) (omega (arith, part-end2.ensures)))

pub overflow_add-i : goal.overflow_add-i
overflow_add-i c =
    let args = c.args in
    let loop = c.loop-i in
    let part-end = c.part_end-e in
    omega (arith, part-end.ensures, end_short args.a.now loop.i (omega arith))

pub overflow_add-j : goal.overflow_add-j
overflow_add-j c =
    let args = c.args in
    let loop = c.loop-i in
    let part-end2 = c.part_end-f in
    omega (arith, part-end2.ensures, end_short args.b.now loop.j (omega arith))

pub loop-i-smaller : goal.loop-i-smaller
loop-i-smaller c =
    let args = c.args in
    let loop = c.loop-i in
    let part-end = c.part_end-e in
    omega (arith, part-end.ensures, end_short args.a.now loop.i (omega arith), end_after args.a.now loop.i)

pub loop-i-preserved : goal.loop-i-preserved
loop-i-preserved c =
    let args = c.args in
    let loop = c.loop-i in
    let part-end = c.part_end-e in
    let part-end2 = c.part_end-f in
    let h : part_end args.a.now loop.i ≤ length args.a.now = end_short args.a.now loop.i (omega arith) in
    let k : part_end args.b.now loop.j ≤ length args.b.now = end_short args.b.now loop.j (omega arith) in
    let e = part-end.ensures in
    let f = part-end2.ensures in (
      omega arith,
      omega arith,
      rw (e, f) (loop.invariant.2 ∙ elim c.if-e-i.branch [
        | then-e-i+else-f-j w ↦ beats-wild args.a.now args.b.now loop.i loop.j (omega arith) (omega arith) (omega arith) (omega arith)
        | else-e-i+else-f-j-2 w ↦ beats-literal args.a.now args.b.now loop.i loop.j (omega arith) (omega arith) (λ z. w.if-e-i.false (e ∙ z))
            (λ z. w.if-f-j-2.false (f ∙ z))
      ]),
    )

pub returns : goal.returns
returns c =
    let args = c.args in
    let loop = c.loop-i in
    sym (loop.invariant.2 ∙ beats-end args.a.now args.b.now loop.i loop.j (omega arith))
