use mathlib.Core.Path.{sym, ◌∙◌}
use Rattle.incoming.specs.Read.{publish}
use Rattle.parser.proofs.Laws.{payload-fits, payload-wrong}
use Rattle.parser.proofs.read_publish.Goals as goal

pub returns-then-not-sound_request : goal.returns-then-not-sound_request
unfolding publish
returns-then-not-sound_request c =
    let unsound = sym c.sound_request.ensures ∙ c.if-not-sound_request.true in
    rw unsound

pub returns-in_err-payload : goal.returns-in_err-payload
unfolding publish
returns-in_err-payload c =
    let sound-request = c.sound_request in
    let if1 = c.if-not-sound_request in
    let payload-after = c.payload_after in
    let s = c.args.s.now in
    let sound = sym sound-request.ensures ∙ if1.false in
    rw (c.from_residual.ensures, sound)
    (payload-wrong s _ _ _ (payload-after.ensures s _) c.in_err-payload.was)

pub returns : goal.returns
unfolding publish
returns c =
    let sound-request = c.sound_request in
    let if1 = c.if-not-sound_request in
    let payload-after = c.payload_after in
    let s = c.args.s.now in
    let sound = sym sound-request.ensures ∙ if1.false in
    rw (c.within.ensures, c.acknowledge_in.ensures, c.id.ensures, sound)
    (payload-fits s _ _ _ (payload-after.ensures s _) _ c.in_ok-payload.was)
