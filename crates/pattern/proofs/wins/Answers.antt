use Rattle.pattern.specs.Match.{wins_text}
use Rattle.pattern.proofs.wins.Goals as goal

pub returns-in-Exact : goal.returns-in-Exact
unfolding wins_text
returns-in-Exact c = rw c.in-Exact.is

pub returns-in-Prefix : goal.returns-in-Prefix
unfolding wins_text
returns-in-Prefix c = rw c.in-Prefix.is

pub returns-in-Wildcard : goal.returns-in-Wildcard
unfolding wins_text
returns-in-Wildcard c = rw c.in-Wildcard.is c.wildcard_wins.ensures
