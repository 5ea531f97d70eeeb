use Rattle.parser.proofs.Laws.{payload-fits, payload-wrong, failure-lone, failure-other, failure-is, failure-wrong}
use Rattle.parser.proofs.read_error.Goals as goal

pub returns-then-not-sound_text : goal.returns-then-not-sound_text
returns-then-not-sound_text c =
    let args = c.args in
    let s = args.s.now in
    failure-lone args.format s args.kinds args.answered args.invocation args.uri args.list args.dict _
    c.sound_text.ensures (c.if-not-sound_text.true)

pub returns-then-id-ne-INVOCATION : goal.returns-then-id-ne-INVOCATION
returns-then-id-ne-INVOCATION c =
    let args = c.args in
    let sound-text = c.sound_text in
    let if1 = c.if-not-sound_text in
    let s = args.s.now in
    failure-other args.format s args.kinds args.answered args.invocation args.uri args.list args.dict _
    sound-text.ensures (if1.false) _ c.id.ensures c.if-id-ne-INVOCATION.true

pub returns-in_err-payload : goal.returns-in_err-payload
returns-in_err-payload c =
    let args = c.args in
    let sound-text = c.sound_text in
    let if1 = c.if-not-sound_text in
    let id = c.id in
    let if2 = c.if-id-ne-INVOCATION in
    let payload-after = c.payload_after in
    let s = args.s.now in
    let wrong = payload-wrong s _ _ _ (payload-after.ensures s _) c.in_err-payload.was in
    rw c.from_residual.ensures
    (failure-wrong args.format s args.kinds args.answered args.invocation args.uri args.list args.dict _
    sound-text.ensures (if1.false) _ id.ensures if2.false wrong)

pub returns : goal.returns
returns c =
    let args = c.args in
    let sound-text = c.sound_text in
    let if1 = c.if-not-sound_text in
    let id = c.id in
    let if2 = c.if-id-ne-INVOCATION in
    let payload-after = c.payload_after in
    let s = args.s.now in
    let fits = payload-fits s _ _ _ (payload-after.ensures s _) _ c.in_ok-payload.was in
    rw (c.within.ensures, c.id-2.ensures)
    (failure-is args.format s args.kinds args.answered args.invocation args.uri args.list args.dict _
    sound-text.ensures (if1.false) _ id.ensures if2.false _ fits)
