use Prim.Native.Nat.{ℕ}
use mathlib.Core.Bool.{Bool, not, ◌&&◌}
use mathlib.Core.Path.{refl, sym, ap, ◌∙◌}
use native.Mathlib.Omega.{arith}
use borrow.Author.Tests.{eq-eqb, ne_eqb}
use Rattle.seq.specs.Bytes.{is}
use Rattle.seq.proofs.Lists.{every-fail, every-pass, every-end}
use Rattle.seq.proofs.Logic.{and-false, and-true}
use Rattle.strings.proofs.is_plain.Goals.{else-b-eq92, then-b-eq92}
use Rattle.strings.proofs.is_plain.Goals as goal

-- the test of `is_plain`
abbrev itself : ℕ → Bool
itself b = not (is "\\" b)

pub loop-b-init : goal.loop-b-init
loop-b-init c = refl

pub loop-b-preserved : goal.loop-b-preserved
loop-b-preserved c =
    let loop = c.loop-b in
    let t = c.args.t.now in
    elim c.if-b-eq92.branch [
      | then-b-eq92 w ↦
          loop.invariant ∙ (and-false loop.plain _ (every-fail itself t loop.b-index _ (omega arith) (ap not (eq-eqb _ 92 w.if-b-eq92.true))) ∙ rw w.plain-is refl)
      | else-b-eq92 w ↦
          loop.invariant ∙ (ap (λ b. loop.plain && b) (every-pass itself t loop.b-index _ (omega arith) (ap not (ne_eqb _ 92 w.if-b-eq92.false))) ∙ rw w.plain-is refl)
    ]

pub returns : goal.returns
returns c =
    let loop = c.loop-b in
    sym (loop.invariant ∙ and-true loop.plain _ (every-end itself c.args.t.now loop.b-index (omega arith)))
