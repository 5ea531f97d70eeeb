use mathlib.Core.Path.{ap, ◌∙◌}
use Rattle.incoming.specs.Read.{sound_by}
use Rattle.parser.proofs.sound_text.Goals as goal

pub returns : goal.returns
returns c =
    let args = c.args in
    c.is_sound.ensures ∙ ap (sound_by args.format) (c.text.ensures ∙ c.within.ensures)
