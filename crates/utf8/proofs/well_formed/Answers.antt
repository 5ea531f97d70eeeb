use mathlib.Core.Path.{sym, ◌∙◌}
use Rattle.utf8.proofs.Laws.{ascii-taken}
use Rattle.utf8.proofs.well_formed.Goals as goal

pub returns-then-is_ascii : goal.returns-then-is_ascii
returns-then-is_ascii c = sym (ascii-taken _ (sym c.is_ascii.ensures ∙ c.if-is_ascii.true))
