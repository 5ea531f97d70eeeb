use mathlib.Core.Path.{◌∙◌}
use Rattle.hub.proofs.Laws.{wrong-attach, wrong-message}
use Rattle.hub.proofs.wrong_time.Goals as goal

pub returns-in-Attach : goal.returns-in-Attach
returns-in-Attach c = rw (c.in-Attach.is, c.is_closed-closed.ensures) (wrong-attach _ _)

pub returns-in-Detach : goal.returns-in-Detach
returns-in-Detach c = rw c.in-Detach.is c.is_closed-closed.ensures

pub returns-in-Message : goal.returns-in-Message
returns-in-Message c = rw c.in-Message.is (c.is_closed-closed.ensures ∙ wrong-message _ _)
