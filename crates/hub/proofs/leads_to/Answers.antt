use Rattle.hub.proofs.leads_to.Goals as goal

pub returns-in-Attach : goal.returns-in-Attach
returns-in-Attach c = λ e. rw c.in-Attach.is (c.attaches.ensures _ _)

pub returns-in-Detach : goal.returns-in-Detach
returns-in-Detach c = λ e. rw c.in-Detach.is (c.detaches.ensures _ _)

pub returns-in-Message : goal.returns-in-Message
returns-in-Message c = λ e. rw c.in-Message.is (c.hears.ensures e)
