use Rattle.uri.specs.Uri.{valid_called}
use Rattle.uri.proofs.valid_called.Goals as goal

pub returns : goal.returns
unfolding valid_called
returns c = c.valid.ensures
