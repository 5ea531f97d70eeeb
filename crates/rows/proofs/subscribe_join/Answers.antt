use mathlib.Core.Path.{◌∙◌}
use Rattle.replies.specs.Meaning.{message_of}
use Rattle.model.specs.State.{with_row}
use Rattle.model.specs.Step.{subscribe_join}
use Rattle.image.specs.Image.{held}
use Rattle.rows.proofs.subscribe_join.Goals as goal

pub returns : goal.returns
unfolding subscribe_join message_of with_row
returns c =
    let h = held c.args.state.now in
    λ m. c.stores.ensures h m ∙ rw (c.counter-counter.ensures, c.joined-more.ensures, c.row-row.ensures)
