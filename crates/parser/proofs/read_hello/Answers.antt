use mathlib.Core.Path.{sym, ◌∙◌}
use borrow.Author.Tests.{eq-eqb, ne_eqb}
use Rattle.incoming.specs.Read.{hello}
use Rattle.parser.proofs.read_hello.Goals as goal

pub returns-then-not-sound_text : goal.returns-then-not-sound_text
unfolding hello
returns-then-not-sound_text c =
    let unsound = sym c.sound_text.ensures ∙ c.if-not-sound_text.true in
    rw unsound

pub returns-then-kinds-ne-HELLO_SHAPE : goal.returns-then-kinds-ne-HELLO_SHAPE
unfolding hello
returns-then-kinds-ne-HELLO_SHAPE c =
    let sound-text = c.sound_text in
    let sound = sym sound-text.ensures ∙ c.if-not-sound_text.false in
    rw (sound, ne_eqb c.args.kinds 124 c.if-kinds-ne-HELLO_SHAPE.true)

pub returns : goal.returns
unfolding hello
returns c =
    let args = c.args in
    let sound-text = c.sound_text in
    let sound = sym sound-text.ensures ∙ c.if-not-sound_text.false in
    rw (c.within.ensures, sound, eq-eqb args.kinds 124 c.if-kinds-ne-HELLO_SHAPE.false)
