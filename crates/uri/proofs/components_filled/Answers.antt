use Rattle.uri.specs.Uri.{components_filled}
use Rattle.uri.proofs.components_filled.Goals as goal

pub returns-in-Exact : goal.returns-in-Exact
unfolding components_filled
returns-in-Exact c = rw c.in-Exact.is c.all_filled.ensures

pub returns-in-Prefix : goal.returns-in-Prefix
unfolding components_filled
returns-in-Prefix c = rw c.in-Prefix.is c.all_filled-in-Prefix.ensures

pub returns-in-Wildcard : goal.returns-in-Wildcard
unfolding components_filled
returns-in-Wildcard c = rw c.in-Wildcard.is
