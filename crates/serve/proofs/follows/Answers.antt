use mathlib.Core.Path.{sym}
use Rattle.serve.proofs.Laws.{follows-end, follows_next}
use Rattle.serve.proofs.follows.Goals as goal

pub returns-then-last-ge-LAST_ID : goal.returns-then-last-ge-LAST_ID
returns-then-last-ge-LAST_ID c = rw (← c.session_at-s.ensures) (sym (follows-end _ _ c.if-last-ge-LAST_ID.true))

pub returns : goal.returns
returns c = rw (← c.session_at-s.ensures) (follows_next _ _ c.if-last-ge-LAST_ID.false)
