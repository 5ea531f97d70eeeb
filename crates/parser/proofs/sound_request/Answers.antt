use mathlib.Core.Path.{sym, ◌∙◌}
use Rattle.parser.proofs.sound_request.Goals as goal

pub returns-then-not-sound_text : goal.returns-then-not-sound_text
returns-then-not-sound_text c =
    let unsound = sym c.sound_text.ensures ∙ c.if-not-sound_text.true in
    rw unsound

pub returns : goal.returns
returns c =
    let sound = sym c.sound_text.ensures ∙ c.if-not-sound_text.false in
    rw (sound, c.sound_options.ensures)
