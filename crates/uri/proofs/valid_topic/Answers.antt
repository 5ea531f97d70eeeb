use Rattle.uri.specs.Uri.{valid_topic}
use Rattle.uri.proofs.valid_topic.Goals as goal

pub returns : goal.returns
unfolding valid_topic
returns c = c.valid.ensures
