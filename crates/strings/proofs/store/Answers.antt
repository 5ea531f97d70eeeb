use mathlib.Core.Path.{refl, ap}
use mathlib.Core.Logic.{inl}
use native.Mathlib.Omega.{arith}
use lib.ListN.{length}
use Rattle.strings.proofs.Places.{rest_end, stored_next, stored-full, stored-end}
use borrow.Author.Rules.{rules}
use Rattle.strings.proofs.store.Goals as goal

pub loop-at-init : goal.loop-at-init
loop-at-init c = (refl, (omega arith, c.requires), (omega arith, inl refl))

pub returns-then-n-ge-MOST_KEPT : goal.returns-then-n-ge-MOST_KEPT
returns-then-n-ge-MOST_KEPT c =
    let loop = c.loop-at in
    stored-full loop.stored loop.n _ _ loop.invariant.0 loop.invariant.1.1 c.if-n-ge-MOST_KEPT.true loop.invariant.1.0

pub next-b-requires : goal.next-b-requires
next-b-requires c = (omega arith, c.loop-at.invariant.2.1)

pub loop-at-smaller : goal.loop-at-smaller
loop-at-smaller c = let q = ap length c.next-b.ensures.means in omega arith

pub loop-at-preserved : goal.loop-at-preserved
loop-at-preserved c =
    let loop = c.loop-at in (
      stored_next loop.stored loop.n _ _ loop.invariant.0 (omega arith) _ _ c.next-b.ensures.means,
      (omega arith, search rules),
      c.next-b.ensures.place,
    )

pub returns : goal.returns
returns c =
    let args = c.args in
    let loop = c.loop-at in
    let over = rest_end args.t.now loop.at loop.k (omega arith) in
    stored-end loop.stored loop.n _ _ loop.invariant.0 loop.invariant.1.0 (omega arith) over
