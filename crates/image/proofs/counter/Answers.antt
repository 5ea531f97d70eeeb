use mathlib.Core.Path.{◌∙◌}
use Rattle.image.specs.Image.{table_of, table_at}
use Rattle.image.proofs.Parts.{table-low, table-of, table_none}
use Rattle.seq.proofs.Lists.{rest-size}
use borrow.Author.Rules.{rules}
use Rattle.image.proofs.counter.Goals as goal

pub returns-then-state-ne9688 : goal.returns-then-state-ne9688
returns-then-state-ne9688 c = rw (table_none c.args.kind _ c.if-state-ne9688.true)

pub slice_bounds-load_number-count : goal.slice_bounds-load_number-count
slice_bounds-load_number-count c = let l = table-low c.args.kind in let e = c.start-at.ensures in search rules

pub load_number-requires : goal.load_number-requires
load_number-requires c = let l = table-low c.args.kind in let e = c.start-at.ensures in search rules

pub returns : goal.returns
unfolding table_of
returns c =
    let args = c.args in
    rw (table-of args.kind _ c.if-state-ne9688.false) (c.load_number.ensures ∙ rw (c.start-at.ensures, rest-size (table_at args.kind) args.state.now))
