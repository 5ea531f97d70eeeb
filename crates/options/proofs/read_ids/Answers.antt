use mathlib.Core.Path.{◌∙◌}
use borrow.Author.Tests.{eq-eqb, ne_eqb}
use Rattle.options.specs.Audience.{ids_of}
use Rattle.options.proofs.read_ids.Goals as goal

pub returns-then-v-eq0 : goal.returns-then-v-eq0
unfolding ids_of
returns-then-v-eq0 c = rw (eq-eqb _ 0 c.if-v-eq0.true)

pub returns-in-Json : goal.returns-in-Json
unfolding ids_of
returns-in-Json c = rw (ne_eqb _ 0 c.if-v-eq0.false, c.in-Json.is) (c.given.ensures ∙ c.in_list.ensures)

pub returns-in-MsgPack : goal.returns-in-MsgPack
unfolding ids_of
returns-in-MsgPack c = rw (ne_eqb _ 0 c.if-v-eq0.false, c.in-MsgPack.is) (c.given-in-MsgPack.ensures ∙ c.in_array.ensures)
