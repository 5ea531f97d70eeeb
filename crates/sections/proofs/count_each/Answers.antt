use mathlib.Core.Path.{sym, ap, ◌∙◌}
use Prim.Native.Nat.{◌+◌}
use native.Mathlib.Omega.{arith}
use lib.Seq.{take_all}
use Rattle.outgoing.specs.Layout.{formats_of}
use Rattle.buffer.specs.Capped.{capped}
use Rattle.sections.specs.Sections.{sizes}
use Rattle.sections.proofs.Sections.{sizes-none, size-skipped, size-turn, size-passed, same_taken, same_left}
use borrow.Author.Rules.{rules}
use Rattle.sections.proofs.count_each.Invariants.{size}
use Rattle.sections.proofs.count_each.Goals.{then-held+then-speaks, then-held+else-speaks, else-held}
use Rattle.sections.proofs.count_each.Goals as goal

pub loop-i-init : goal.loop-i-init
loop-i-init c = (search rules, sizes-none _ _ (omega arith))

pub loop-i-preserved : goal.loop-i-preserved
loop-i-preserved c =
    let x = c.args in
    let l = c.loop-i in
    let f = formats_of x.packed l.i in
    let g = size x.format x.packed x.n in (
      search rules,
      elim c.if-held.branch [
        | then-held+then-speaks v ↦ size-turn g x.holders l.i (omega arith) x.at l.o l.invariant.1 v.if-held.true x.n _
            (same_taken x.n 0 x.format f (sym v.speaks.ensures ∙ v.if-speaks.true)) (v.o-is ∙ v.plus-o.ensures)
        | then-held+else-speaks v ↦ v.o-is ∙ size-passed g x.holders l.i (omega arith) x.at l.o l.invariant.1 v.if-held.true
            (same_left x.n 0 x.format f (sym v.speaks.ensures ∙ v.if-speaks.false))
        | else-held v ↦ v.o-is ∙ size-skipped g x.holders l.i (omega arith) x.at l.o l.invariant.1 v.if-held.false
      ],
    )

pub returns : goal.returns
returns c =
    let x = c.args in
    let l = c.loop-i in
    l.invariant.1 ∙ ap (λ hs. capped (x.at + sizes (size x.format x.packed x.n) 0 hs)) (take_all l.i x.holders (omega arith))
