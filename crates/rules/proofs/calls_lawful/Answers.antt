use mathlib.Core.Path.{sym, ◌∙◌}
use Rattle.rules.specs.ByTable.{calls_lawful}
use Rattle.rules.proofs.calls_lawful.Goals as goal

pub returns-then-not-each_call : goal.returns-then-not-each_call
unfolding calls_lawful
returns-then-not-each_call c = rw (sym c.each_call.ensures ∙ c.if-not-each_call.true)

pub returns : goal.returns
unfolding calls_lawful
returns c = rw (sym c.each_call.ensures ∙ c.if-not-each_call.false) c.call_pairs.ensures
