use Rattle.model.specs.State.{joined}
use Rattle.state.proofs.joined.Goals as goal

pub returns : goal.returns
unfolding joined
returns c = rw (c.with_holders.ensures, c.with_flag-more.ensures)
