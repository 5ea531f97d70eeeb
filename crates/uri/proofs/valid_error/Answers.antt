use Rattle.uri.specs.Uri.{valid_error}
use Rattle.uri.proofs.valid_error.Goals as goal

pub returns : goal.returns
unfolding valid_error
returns c = c.valid.ensures
