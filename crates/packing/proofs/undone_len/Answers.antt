use Rattle.strings.proofs.Places.{rest_end}
use Rattle.strings.proofs.Shorter.{undone-shorter}
use Rattle.seq.proofs.Rules.{all-of-at}
use mathlib.Core.Path.{refl, ap}
use mathlib.Core.Logic.{inl}
use Prim.Native.Nat.{◌<◌}
use native.Mathlib.Omega.{arith}
use lib.ListN.{length}
use Rattle.packing.proofs.undone_len.Goals as goal

pub loop-at-init : goal.loop-at-init
loop-at-init c = (omega arith, omega arith, inl refl)

pub next-b-requires : goal.next-b-requires
next-b-requires c = (omega arith, c.loop-at.invariant.2)

pub overflow_add-n : goal.overflow_add-n
overflow_add-n c = let t = c.args.t.now in let s = undone-shorter t (all-of-at (λ b. b < 256) 0 t (λ k. omega (arith, c.shared_slice_known-1.given k))) in let q = ap length c.next-b.ensures.means in omega arith

pub loop-at-smaller : goal.loop-at-smaller
loop-at-smaller c = let q = ap length c.next-b.ensures.means in omega arith

pub loop-at-preserved : goal.loop-at-preserved
loop-at-preserved c = let q = ap length c.next-b.ensures.means in (omega arith, c.next-b.ensures.place.0, c.next-b.ensures.place.1)

pub returns : goal.returns
returns c = let over = ap length (rest_end c.args.t.now c.loop-at.at c.loop-at.k (omega arith)) in omega arith
