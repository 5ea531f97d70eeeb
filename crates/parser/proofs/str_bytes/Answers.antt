use mathlib.Core.Path.{ap, ◌∙◌}
use lib.ListN.{drop}
use borrow.Author.Rules.{part_to_end}
use Rattle.msgpack.specs.declared.Head.{Head}
use Rattle.parser.proofs.str_bytes.Goals as goal

pub slice_bounds-result-count : goal.slice_bounds-result-count
slice_bounds-result-count c = c.head_at-h.ensures.placed.inside

pub returns : goal.returns
returns c =
    let v = c.args.v.now in
    let head-at = c.head_at-h in
    part_to_end v head-at.result.end ∙ ap (λ (h : Head). drop h.end v) head-at.ensures.means
