use borrow.Author.Tests.{ne_eqb}
use Rattle.image.proofs.Parts.{table-low}
use Rattle.keep.specs.Keep.{kept_row}
use Rattle.keep.proofs.Places.{row-stored, row-unstored}
use borrow.Author.Rules.{rules}
use Rattle.keep.proofs.keep_row.Goals as goal

pub returns-then-state-ne9688 : goal.returns-then-state-ne9688
unfolding kept_row
returns-then-state-ne9688 c = rw (ne_eqb _ _ c.if-state-ne9688.true)

pub store_number-requires : goal.store_number-requires
store_number-requires c = let l = table-low c.args.kind in let e = c.start-at.ensures in search rules

pub returns-then-k-ge32 : goal.returns-then-k-ge32
returns-then-k-ge32 c =
    let a = c.args in
    row-unstored a.state.now c.if-state-ne9688.false a.kind a.k a.counter a.row _ c.if-k-ge32.true
    (rw c.start-at.ensures at c.store_number.ensures)

pub overflow_add-at : goal.overflow_add-at
overflow_add-at c = let l = table-low c.args.kind in let e = c.start-at.ensures in search rules

pub overflow_add-at-2 : goal.overflow_add-at-2
overflow_add-at-2 c = let l = table-low c.args.kind in let e = c.start-at.ensures in search rules

pub store_row-requires : goal.store_row-requires
store_row-requires c = let l = table-low c.args.kind in let e = c.start-at.ensures in search rules

pub returns : goal.returns
returns c =
    let a = c.args in
    row-stored a.state.now c.if-state-ne9688.false a.kind a.k a.counter a.row _ _ c.if-k-ge32.false
    (rw c.start-at.ensures at c.store_number.ensures) (rw c.start-at.ensures at c.store_row.ensures.0)
