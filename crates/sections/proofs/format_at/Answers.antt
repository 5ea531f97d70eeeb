use native.Mathlib.Omega.{arith}
use mathlib.Core.Bool.{false}
use mathlib.Core.Path.{◌≡◌, sym, ap}
use lib.ListN.{length, get_or-eq_default}
use Rattle.outgoing.specs.Layout.{format_by}
use borrow.Author.Rules.{rules}
use Rattle.sections.proofs.format_at.Goals as goal

pub returns-then-slot-ge8 : goal.returns-then-slot-ge8
returns-then-slot-ge8 c =
    let x = c.args in
    let l : length x.packed ≡ 8 = search rules in
    ap format_by (sym (get_or-eq_default x.packed false {n = x.slot} (omega arith)))

pub returns-then-packed-slot : goal.returns-then-packed-slot
returns-then-packed-slot c = ap format_by (sym c.if-packed-slot.true)

pub returns-else-packed-slot : goal.returns-else-packed-slot
returns-else-packed-slot c = ap format_by (sym c.if-packed-slot.false)
