use mathlib.Core.Path.{sym, ◌∙◌}
use Rattle.incoming.specs.Read.{yield}
use Rattle.parser.proofs.Laws.{payload-fits, payload-wrong}
use Rattle.parser.proofs.read_yield.Goals as goal

pub returns-then-not-sound_options : goal.returns-then-not-sound_options
unfolding yield
returns-then-not-sound_options c =
    let unsound = sym c.sound_options.ensures ∙ c.if-not-sound_options.true in
    rw unsound

pub returns-in_err-payload : goal.returns-in_err-payload
unfolding yield
returns-in_err-payload c =
    let sound-options = c.sound_options in
    let if1 = c.if-not-sound_options in
    let payload-after = c.payload_after in
    let s = c.args.s.now in
    let sound = sym sound-options.ensures ∙ if1.false in
    rw (c.from_residual.ensures, sound)
    (payload-wrong s _ _ _ (payload-after.ensures s _) c.in_err-payload.was)

pub returns : goal.returns
unfolding yield
returns c =
    let sound-options = c.sound_options in
    let if1 = c.if-not-sound_options in
    let payload-after = c.payload_after in
    let s = c.args.s.now in
    let sound = sym sound-options.ensures ∙ if1.false in
    rw (c.plain.ensures, c.id.ensures, sound)
    (payload-fits s _ _ _ (payload-after.ensures s _) _ c.in_ok-payload.was)
