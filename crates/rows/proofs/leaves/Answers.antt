use Rattle.image.proofs.Parts.{table_kept}
use mathlib.Core.Path.{◌∙◌}
use Rattle.image.specs.Image.{held}
use Rattle.rows.proofs.leaves.Goals as goal

pub returns : goal.returns
returns c =
    let args = c.args in
    let h = held args.state.now in
    λ m. c.stores.ensures h m
    ∙ rw (c.counter-counter.ensures, c.left-less.ensures, c.row-row.ensures, table_kept args.kind h args.sessions)
