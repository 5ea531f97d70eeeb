use Prim.Native.Nat.{◌+◌, ◌*◌}
use borrow.Author.Tests.{eq-eqb, ne_eqb, lt-ltb, le-ltb}
use Rattle.image.specs.Image.{row_part, table_at}
use Rattle.image.proofs.Parts.{table-low}
use Rattle.image.proofs.Laws.{part-size}
use borrow.Author.Rules.{rules}
use Rattle.image.proofs.row_part.Goals as goal

pub returns-then-state-ne9688 : goal.returns-then-state-ne9688
unfolding row_part
returns-then-state-ne9688 c = rw (ne_eqb _ _ c.if-state-ne9688.true)

pub returns-then-k-ge32 : goal.returns-then-k-ge32
unfolding row_part
returns-then-k-ge32 c = rw (eq-eqb _ _ c.if-state-ne9688.false, le-ltb _ _ c.if-k-ge32.true)

pub overflow_add-at : goal.overflow_add-at
overflow_add-at c = let l = table-low c.args.kind in let e = c.start.ensures in search rules

pub overflow_add-at-2 : goal.overflow_add-at-2
overflow_add-at-2 c = let l = table-low c.args.kind in let e = c.start.ensures in search rules

pub overflow_add-e : goal.overflow_add-e
overflow_add-e c = let l = table-low c.args.kind in let e = c.start.ensures in search rules

pub returns : goal.returns
unfolding row_part
returns c =
    let kind = c.args.kind in
    let k = c.args.k in
    rw (eq-eqb _ _ c.if-state-ne9688.false, lt-ltb _ _ c.if-k-ge32.false, c.start.ensures, part-size (table_at kind + 8 + k * 139) 139)
