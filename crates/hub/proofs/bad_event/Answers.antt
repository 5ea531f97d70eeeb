use Rattle.hub.proofs.bad_event.Goals as goal

pub returns-in-Message : goal.returns-in-Message
returns-in-Message c = rw c.in-Message.is c.bad_number.ensures
