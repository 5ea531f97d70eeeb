use Prim.Native.Nat.{ℕ}
use mathlib.Core.Bool.{Bool, not, ◌&&◌}
use mathlib.Core.Path.{refl, sym, ap, ◌∙◌}
use native.Mathlib.Omega.{arith}
use borrow.Author.Tests.{eq-eqb, ne_eqb}
use lib.Dec.{eqb}
use Rattle.seq.proofs.Lists.{every-fail, every-pass, every-end}
use Rattle.seq.proofs.Logic.{and-false, and-true}
use Rattle.json_text.proofs.is_new.Goals.{else-m-mark, then-m-mark}
use Rattle.json_text.proofs.is_new.Goals as goal

pub loop-m-init : goal.loop-m-init
loop-m-init c = refl

pub loop-m-preserved : goal.loop-m-preserved
loop-m-preserved c =
    let loop = c.loop-m in
    let marks = c.args.marks.now in
    let mark = c.args.mark in
    let other : ℕ → Bool = λ (m : ℕ). not (eqb m mark) in
    elim c.if-m-mark.branch [
      | then-m-mark w ↦
          loop.invariant ∙ (and-false loop.new _ (every-fail other marks loop.m-index 0 (omega arith) (ap not (eq-eqb _ _ w.if-m-mark.true))) ∙ rw w.new-is refl)
      | else-m-mark w ↦
          loop.invariant ∙ (ap (λ b. loop.new && b) (every-pass other marks loop.m-index 0 (omega arith) (ap not (ne_eqb _ _ w.if-m-mark.false))) ∙ rw w.new-is refl)
    ]

pub returns : goal.returns
returns c =
    let args = c.args in
    let loop = c.loop-m in
    let other : ℕ → Bool = λ (m : ℕ). not (eqb m args.mark) in
    sym (loop.invariant ∙ and-true loop.new _ (every-end other args.marks.now loop.m-index (omega arith)))
