use Rattle.edges.proofs.boundary.Goals as goal

pub returns-in-Attach : goal.returns-in-Attach
returns-in-Attach c =
    let told = c.attach.ensures in
    record { answer = rw c.in-Attach.is told.answer; state = rw c.in-Attach.is told.state; bytes = rw c.in-Attach.is told.bytes }

pub returns-in-Detach : goal.returns-in-Detach
returns-in-Detach c =
    let told = c.hub_detach.ensures in
    record { answer = rw c.in-Detach.is told.answer; state = rw c.in-Detach.is told.state; bytes = rw c.in-Detach.is told.bytes }

pub returns-in-Message : goal.returns-in-Message
returns-in-Message c =
    let told = c.hub_message.ensures in
    record { answer = rw c.in-Message.is told.answer; state = rw c.in-Message.is told.state; bytes = rw c.in-Message.is told.bytes }
