use mathlib.Core.Bool.{true, false}
use lib.ListN.{length, get_or}
use Prim.Native.Nat.{◌-◌}
use mathlib.Core.Path.{◌≡◌, refl, ◌∙◌}
use native.Mathlib.Omega.{arith}
use Rattle.seq.proofs.Search.{first-hit, first-miss, first-end}
use Rattle.model.specs.State.{is_holder}
use Rattle.image.specs.Image.{owner_no}
use borrow.Author.Rules.{rules}
use Rattle.keep.proofs.owner_number.Goals as goal

pub loop-slot-init : goal.loop-slot-init
loop-slot-init c = let l : length c.args.holders ≡ 8 = search rules in (l, refl)

pub bounds-holders-size : goal.bounds-holders-size
bounds-holders-size c = let n = c.loop-slot.invariant.0 in omega (arith, c.size.ensures)

pub returns-then-holders-size : goal.returns-then-holders-size
unfolding owner_no
returns-then-holders-size c =
    let hs = c.args.holders in
    let i = c.loop-slot.slot in
    let n = c.loop-slot.invariant.0 in
    let t : is_holder (get_or hs i false) ≡ true = rw c.size.ensures at c.if-holders-size.true in
    rw (c.loop-slot.invariant.1 ∙ first-hit is_holder hs i false (omega arith) t)

pub loop-slot-preserved : goal.loop-slot-preserved
loop-slot-preserved c =
    let hs = c.args.holders in
    let i = c.loop-slot.slot in
    let n = c.loop-slot.invariant.0 in
    let t : is_holder (get_or hs i false) ≡ false = rw c.size.ensures at c.if-holders-size.false in
    (n, c.loop-slot.invariant.1 ∙ first-miss is_holder hs i false (omega arith) t)

pub returns : goal.returns
unfolding owner_no
returns c =
    let hs = c.args.holders in
    let i = c.loop-slot.slot in
    let n = c.loop-slot.invariant.0 in
    rw (c.loop-slot.invariant.1 ∙ first-end is_holder hs i (omega arith))
