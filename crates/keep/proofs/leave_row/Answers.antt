use mathlib.Core.Path.{sym, ◌∙◌}
use Rattle.image.proofs.Parts.{table-low}
use Rattle.keep.proofs.Places.{left-stays, left-stored}
use borrow.Author.Rules.{rules}
use Rattle.keep.proofs.leave_row.Goals as goal

pub returns-then-not-is_among : goal.returns-then-not-is_among
returns-then-not-is_among c =
    left-stays c.args.kind c.args.state.now c.args.k c.requires.0 c.requires.1 c.args.slot
    (rw c.holders-holders.ensures at (sym c.is_among.ensures ∙ c.if-not-is_among.true))

pub overflow_add-start : goal.overflow_add-start
overflow_add-start c =
    let l = table-low c.args.kind in
    let e = c.start.ensures in
    search rules

pub overflow_add-start-2 : goal.overflow_add-start-2
overflow_add-start-2 c =
    let l = table-low c.args.kind in
    let e = c.start.ensures in
    search rules

pub store_row-requires : goal.store_row-requires
store_row-requires c =
    let l = table-low c.args.kind in
    let e = c.start.ensures in
    search rules

pub returns : goal.returns
returns c =
    let a = c.args in
    c.store_row.ensures.0 ∙ rw (c.start.ensures, c.left-left.ensures, c.row-row.ensures)
    (left-stored a.kind a.state.now a.k c.requires.0 c.requires.1 a.slot
    (rw c.holders-holders.ensures at (sym c.is_among.ensures ∙ c.if-not-is_among.false)))
