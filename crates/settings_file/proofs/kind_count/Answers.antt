use mathlib.Core.Path.{refl, sym}
use borrow.Author.Tests.{eq-eqb, ne_eqb}
use Rattle.settings_file.specs.File.{kind_count}
use Rattle.settings_file.proofs.kind_count.Goals as goal

pub returns-then-byte-eq1 : goal.returns-then-byte-eq1
unfolding kind_count
returns-then-byte-eq1 c = rw (sym c.byte.ensures, eq-eqb _ 1 c.if-byte-eq1.true)

pub returns-else-byte-eq1 : goal.returns-else-byte-eq1
unfolding kind_count
returns-else-byte-eq1 c = rw (sym c.byte.ensures, ne_eqb _ 1 c.if-byte-eq1.false) refl
