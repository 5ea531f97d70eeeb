use mathlib.Core.Path.{refl, sym, ap, ◌∙◌}
use mathlib.Core.Logic.{inl}
use native.Mathlib.Omega.{arith}
use lib.ListN.{length}
use Rattle.strings.proofs.Places.{rest_end, same_next, same_differs, same-longer, same-shorter}
use Rattle.strings.proofs.same_characters.Goals as goal

pub loop-i-init : goal.loop-i-init
loop-i-init c = (refl, (omega arith, inl refl), (omega arith, inl refl))

pub returns-then-y-j : goal.returns-then-y-j
returns-then-y-j c =
    let args = c.args in
    let loop = c.loop-i in
    let over = rest_end args.y.now loop.j loop.jk c.if-y-j.true in
    sym (loop.invariant.0 ∙ same-longer args.x.now loop.i loop.ik loop.invariant.1.1 (omega arith) _ over)

pub next-a-requires : goal.next-a-requires
next-a-requires c = (omega arith, c.loop-i.invariant.1.1)

pub next-b-requires : goal.next-b-requires
next-b-requires c = (omega arith, c.loop-i.invariant.2.1)

pub returns-then-a-b : goal.returns-then-a-b
returns-then-a-b c =
    let loop = c.loop-i in
    let next = c.next-a in
    sym (loop.invariant.0 ∙ same_differs _ _ _ _ _ _ next.ensures.means c.next-b.ensures.means c.if-a-b.true)

pub loop-i-smaller : goal.loop-i-smaller
loop-i-smaller c = let q = ap length c.next-a.ensures.means in omega arith

pub loop-i-preserved : goal.loop-i-preserved
loop-i-preserved c =
    let loop = c.loop-i in
    let next = c.next-a in
    let next2 = c.next-b in
    (loop.invariant.0 ∙ same_next _ _ _ _ _ _ next.ensures.means next2.ensures.means c.if-a-b.false, next.ensures.place, next2.ensures.place)

pub returns : goal.returns
returns c =
    let args = c.args in
    let loop = c.loop-i in
    let over = rest_end args.x.now loop.i loop.ik (omega arith) in
    sym (loop.invariant.0 ∙ same-shorter args.y.now loop.j loop.jk loop.invariant.2.1 _ over)
