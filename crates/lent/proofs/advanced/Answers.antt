use Rattle.lent.proofs.advanced.Goals as goal

pub returns-in-Request : goal.returns-in-Request
returns-in-Request c = rw c.in-Request.is c.at_request.ensures

pub returns-in-Invocation : goal.returns-in-Invocation
returns-in-Invocation c = rw c.in-Invocation.is c.at_invocation.ensures
