use mathlib.Core.Path.{sym}
use Rattle.strings.proofs.Laws.{quote-marked, backslash-marked, not-marked}
use Rattle.strings.proofs.is_marked.Goals as goal

pub returns-in-34 : goal.returns-in-34
returns-in-34 c = sym (quote-marked _ c.in-34.is)

pub returns-in-92 : goal.returns-in-92
returns-in-92 c = sym (backslash-marked _ c.in-92.is)

pub returns-in_default : goal.returns-in_default
returns-in_default c = sym (not-marked _ c.in_default.in_default-own.rest.0.1 c.in_default.in_default-own.rest.1)
