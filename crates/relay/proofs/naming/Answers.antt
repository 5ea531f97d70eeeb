use Rattle.relay.proofs.naming.Goals as goal

pub returns-in-Exact : goal.returns-in-Exact
returns-in-Exact c = rw c.in-Exact.is

pub returns-in-Prefix : goal.returns-in-Prefix
returns-in-Prefix c = rw c.in-Prefix.is

pub returns-in-Wildcard : goal.returns-in-Wildcard
returns-in-Wildcard c = rw c.in-Wildcard.is
