use mathlib.Core.Path.{sym, ◌∙◌}
use Rattle.rules.specs.ByTable.{sessions_lawful}
use Rattle.rules.proofs.sessions_lawful.Goals as goal

pub returns-then-not-each_session : goal.returns-then-not-each_session
unfolding sessions_lawful
returns-then-not-each_session c = rw (sym c.each_session.ensures ∙ c.if-not-each_session.true)

pub returns : goal.returns
unfolding sessions_lawful
returns c = rw (sym c.each_session.ensures ∙ c.if-not-each_session.false) c.session_pairs.ensures
