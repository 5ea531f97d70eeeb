use mathlib.Core.Path.{sym, ◌∙◌}
use Rattle.parser.proofs.is_request.Goals as goal

pub returns-then-not-sound_request : goal.returns-then-not-sound_request
returns-then-not-sound_request c =
    let unsound = sym c.sound_request.ensures ∙ c.if-not-sound_request.true in
    rw unsound

pub returns-then-not-sound_value : goal.returns-then-not-sound_value
returns-then-not-sound_value c =
    let sound-request = c.sound_request in
    let sound = sym sound-request.ensures ∙ c.if-not-sound_request.false in
    let bad = sym c.sound_value.ensures ∙ c.if-not-sound_value.true in
    rw (sound, bad)

pub returns : goal.returns
returns c =
    let sound-request = c.sound_request in
    let sound = sym sound-request.ensures ∙ c.if-not-sound_request.false in
    let good = sym c.sound_value.ensures ∙ c.if-not-sound_value.false in
    rw (sound, good)
