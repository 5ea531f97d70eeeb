use mathlib.Core.Path.{refl, sym, ◌∙◌}
use native.Mathlib.Omega.{arith}
use Rattle.utf8.proofs.Laws.{text-end, text-refused, text-goes, whole-goes}
use Rattle.utf8.proofs.by_bytes.Goals as goal
use Rattle.utf8.proofs.by_bytes.Goals.{then-not-is_whole+in-Some, else-not-is_whole}

pub loop-b-init : goal.loop-b-init
loop-b-init c = refl

pub returns-in_default : goal.returns-in_default
returns-in_default c =
    let loop = c.loop-b in
    let s = c.args.s.now in
    sym (text-refused _ s loop.b-index (omega arith) (sym c.step.ensures ∙ c.in_default.is)) ∙ loop.invariant

pub loop-b-preserved : goal.loop-b-preserved
loop-b-preserved c =
    let loop = c.loop-b in
    let s = c.args.s.now in
    elim c.if-not-is_whole.branch [
      | then-not-is_whole+in-Some w ↦
          rw w.w-is (sym (text-goes _ s loop.b-index _ (omega arith) (sym w.step.ensures ∙ w.in-Some.is)) ∙ loop.invariant)
      | else-not-is_whole w ↦
          rw w.w-is (sym (whole-goes loop.w s loop.b-index (omega arith) (sym c.is_whole.ensures ∙ w.if-not-is_whole.false)) ∙ loop.invariant)
    ]

pub returns : goal.returns
returns c =
    let loop = c.loop-b in
    sym (text-end loop.w c.args.s.now loop.b-index (omega arith)) ∙ loop.invariant
