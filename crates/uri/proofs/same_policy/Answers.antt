use Rattle.uri.proofs.Laws.{same-is}
use Rattle.uri.proofs.same_policy.Goals as goal

pub returns : goal.returns
returns c = same-is _ _ c.eq.ensures
