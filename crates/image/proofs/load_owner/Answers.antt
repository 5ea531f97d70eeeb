use mathlib.Core.Path.{◌≡◌, sym, ◌∙◌}
use mathlib.Core.Bool.{true, false}
use lib.ListN.{set, replicate}
use lib.Seq.{set_out}
use native.Mathlib.Omega.{arith}
use Rattle.image.proofs.Laws.{owner-none, owner-alone}
use mathlib.Core.Path.{◌≡◌}
use Rattle.image.specs.Image.{owner_of}
use Rattle.image.proofs.load_owner.Goals.{else-number-eq0, then-number-eq0+else-b-eq0}
use Rattle.image.proofs.load_owner.Goals as goal

pub returns-then-b-eq0 : goal.returns-then-b-eq0
returns-then-b-eq0 c = sym (owner-none c.args.number c.args.b c.if-number-eq0.true c.if-b-eq0.true)

pub returns-then-slot-lt8 : goal.returns-then-slot-lt8
returns-then-slot-lt8 c =
    let n = c.args.number in
    let b = c.args.b in
    let e : owner_of n b ≡ set (replicate 8 false) b true =
    elim c.if-number-eq0.branch [
      | then-number-eq0+else-b-eq0 w ↦ owner-alone n b (λ e f. w.if-b-eq0.false f)
      | else-number-eq0 w ↦ owner-alone n b (λ e f. w.if-number-eq0.false e)
    ] in
    rw c.size-slot.ensures (sym e)

pub returns-else-slot-lt8 : goal.returns-else-slot-lt8
returns-else-slot-lt8 c =
    let n = c.args.number in
    let b = c.args.b in
    let e : owner_of n b ≡ set (replicate 8 false) b true =
    elim c.if-number-eq0.branch [
      | then-number-eq0+else-b-eq0 w ↦ owner-alone n b (λ e f. w.if-b-eq0.false f)
      | else-number-eq0 w ↦ owner-alone n b (λ e f. w.if-number-eq0.false e)
    ] in
    sym (e ∙ set_out (replicate 8 false) b true (omega (arith, c.size-slot.ensures)))
