use mathlib.Core.Path.{ap, ◌∙◌}
use Rattle.incoming.specs.Read.{sound_by}
use Rattle.parser.proofs.Laws.{sound-other, sound-string}
use Rattle.parser.proofs.sound_value.Goals as goal

pub returns-then-not-is_string : goal.returns-then-not-is_string
returns-then-not-is_string c =
    let args = c.args in
    sound-other args.format args.v.now _ c.is_string.ensures (c.if-not-is_string.true)

pub returns : goal.returns
returns c =
    let args = c.args in
    let sound = c.is_sound.ensures ∙ ap (sound_by args.format) c.inside.ensures in
    sound-string args.format args.v.now _ c.is_string.ensures (c.if-not-is_string.false) _ sound
