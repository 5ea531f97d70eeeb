use mathlib.Core.Path.{ap, ◌∙◌}
use Rattle.elements.specs.Kinds.{id_of}
use Rattle.arrays.specs.Arrays as Arrays
use Rattle.parser.proofs.id.Goals as goal

pub returns-in-Json : goal.returns-in-Json
returns-in-Json c = rw c.in-Json.is (c.id.ensures ∙ ap id_of c.text-t.ensures)

pub returns-in-MsgPack : goal.returns-in-MsgPack
returns-in-MsgPack c = rw c.in-MsgPack.is (c.id-in-MsgPack.ensures ∙ ap Arrays.id_of c.text-t.ensures)
