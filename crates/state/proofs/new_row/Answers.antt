use Rattle.model.specs.State.{new_row}
use Rattle.state.proofs.new_row.Goals as goal

pub returns : goal.returns
unfolding new_row
returns c = rw (c.padded-bytes.ensures, c.cut-len.ensures, c.with_flag-holders.ensures)
