use Rattle.packing.proofs.Undone.{begun, begun-next, begun-end}
use Rattle.buffer.proofs.Wrote.{told, tells, wrote_none}
use mathlib.Core.Path.{refl, ap}
use mathlib.Core.Logic.{inl}
use native.Mathlib.Omega.{arith}
use lib.ListN.{length}
use borrow.Author.Rules.{rules}
use Rattle.packing.proofs.put_undone.Goals as goal

pub loop-at-init : goal.loop-at-init
loop-at-init c = (begun (wrote_none _ _ (omega arith)), omega arith, inl refl, refl)

pub next-b-requires : goal.next-b-requires
next-b-requires c = (omega arith, c.loop-at.invariant.2)

pub loop-at-smaller : goal.loop-at-smaller
loop-at-smaller c = let q = ap length c.next-b.ensures.means in omega arith

pub loop-at-preserved : goal.loop-at-preserved
loop-at-preserved c = (begun-next c.loop-at.invariant.0 (omega arith) c.next-b.ensures.means (told _ _ _ c.put_byte-q.ensures), c.next-b.ensures.place.0, c.next-b.ensures.place.1, search rules)

pub returns : goal.returns
returns c =
    tells (begun-end c.loop-at.invariant.0 (omega arith))
