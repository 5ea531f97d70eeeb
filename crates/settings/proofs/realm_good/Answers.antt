use Rattle.uri.specs.Uri.{valid_topic}
use Rattle.settings.specs.Settings.{realm_good}
use Rattle.settings.proofs.realm_good.Goals as goal

pub returns : goal.returns
unfolding realm_good valid_topic
returns c = c.valid_topic.ensures
