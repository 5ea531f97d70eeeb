use Rattle.hub.proofs.keep_effect.Goals as goal

pub returns-in-Nothing : goal.returns-in-Nothing
returns-in-Nothing c = rw c.in-Nothing.is

pub returns-in-Call : goal.returns-in-Call
returns-in-Call c = rw c.in-Call.is c.keep_call.ensures

pub returns-in-Row : goal.returns-in-Row
returns-in-Row c = rw c.in-Row.is c.keep_row.ensures

pub returns-in-Ends : goal.returns-in-Ends
returns-in-Ends c = rw c.in-Ends.is c.end.ensures

pub returns-in-Publishes : goal.returns-in-Publishes
returns-in-Publishes c = rw c.in-Publishes.is
