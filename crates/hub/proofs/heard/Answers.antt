use Rattle.hub.proofs.heard.Goals as goal

pub returns-in-Attach : goal.returns-in-Attach
returns-in-Attach c = rw c.in-Attach.is (c.nothing.ensures c.args.format _)

pub returns-in-Detach : goal.returns-in-Detach
returns-in-Detach c = rw c.in-Detach.is (c.nothing-in-Detach.ensures c.args.format _)

pub returns-in-Message : goal.returns-in-Message
returns-in-Message c = rw c.in-Message.is c.parse.ensures
