use mathlib.Core.Path.{ap, ◌∙◌}
use Rattle.seq.specs.Bytes.{text_of}
use Rattle.members.specs.Members as Members
use Rattle.maps.specs.Maps as Maps
use Rattle.parser.proofs.option.Goals as goal

pub returns-in-Json : goal.returns-in-Json
unfolding Members.value_in
returns-in-Json c =
    let args = c.args in
    let text = c.text-dict in
    let found = ap (text_of text.result.now) c.find.ensures in
    rw c.in-Json.is
    (c.text.ensures ∙ found ∙ ap (Members.value_in args.key.now) text.ensures)

pub returns-in-MsgPack : goal.returns-in-MsgPack
unfolding Maps.value_in
returns-in-MsgPack c =
    let args = c.args in
    let text = c.text-dict in
    let found = ap (text_of text.result.now) c.find-in-MsgPack.ensures in
    rw c.in-MsgPack.is
    (c.text-in-MsgPack.ensures ∙ found ∙ ap (Maps.value_in args.key.now) text.ensures)
