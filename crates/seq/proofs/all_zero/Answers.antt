use mathlib.Core.Bool.{◌&&◌}
use mathlib.Core.Path.{refl, sym, ap, ◌∙◌}
use native.Mathlib.Omega.{arith}
use borrow.Author.Tests.{eq-eqb, ne_eqb}
use Rattle.seq.proofs.Lists.{every-fail, every-pass, every-end}
use Rattle.seq.specs.Bytes.{is_zero}
use Rattle.seq.proofs.Logic.{and-false, and-true}
use Rattle.seq.proofs.all_zero.Goals as goal
use Rattle.seq.proofs.all_zero.Goals.{then-b-ne0, else-b-ne0}

pub loop-b-preserved : goal.loop-b-preserved
loop-b-preserved c =
    let loop = c.loop-b in
    let bytes = c.args.bytes.now in
    elim c.if-b-ne0.branch [
      | then-b-ne0 w ↦
          loop.invariant ∙ (and-false loop.zero _ (every-fail is_zero bytes loop.b-index _ (omega arith) (ne_eqb _ _ w.if-b-ne0.true)) ∙ rw w.zero-is refl)
      | else-b-ne0 w ↦
          loop.invariant ∙ (ap (λ b. loop.zero && b) (every-pass is_zero bytes loop.b-index _ (omega arith) (eq-eqb _ _ w.if-b-ne0.false)) ∙ rw w.zero-is refl)
    ]

pub returns : goal.returns
returns c = sym (c.loop-b.invariant ∙ and-true c.loop-b.zero _ (every-end is_zero c.args.bytes.now c.loop-b.b-index (omega arith)))
