use mathlib.Core.Path.{sym, ◌∙◌}
use Rattle.contents.specs.Contents.{kinds_good}
use Rattle.contents.proofs.kinds_good.Goals as goal

pub returns-then-not-all_known : goal.returns-then-not-all_known
unfolding kinds_good
returns-then-not-all_known c = let e = sym c.all_known.ensures ∙ c.if-not-all_known.true in rw e

pub returns : goal.returns
unfolding kinds_good
returns c = let e = sym c.all_known.ensures ∙ c.if-not-all_known.false in rw e c.each_once.ensures
