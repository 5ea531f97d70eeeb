use mathlib.Core.Path.{ap}
use mathlib.Core.List.{◌++◌}
use Prim.Native.Nat.{◌+◌}
use Rattle.hub.specs.Answer.{given, formats_on, written}
use Rattle.report.specs.Text.{head_text, messages_text, outcome_text}
use Rattle.replay.specs.Replay.{played, step_text, step_of}
use Rattle.report.proofs.Puts.{first, then, whole}
use Rattle.replay.proofs.Laws.{lent-read}
use Rattle.replay.proofs.advance.Goals as goal

pub returns : goal.returns
unfolding played step_text
returns c =
    let args = c.args in
    let x = given args.slot args.event args.message.now in
    let run = args.run in
    let line = args.line.now in
    let out = args.out.now in
    let lent = c.requires.lent in
    let answer = rw lent at c.step-s.ensures.answer in
    let state = rw lent at c.step-s.ensures.state in
    let bytes = rw lent at c.step-s.ensures.bytes in
    let a = first args.text.now 0 (head_text (run.steps + 1) line) c.put_head-a.ensures in
    let s = step_of run x in
    let b = then a (outcome_text s.outcome s.count (messages_text (written (formats_on run.state) s out))) (record {
      place = rw (answer, bytes) at c.put_outcome-len.ensures.place;
      bytes = rw (answer, bytes) at c.put_outcome-len.ensures.bytes;
    }) in
    let e = ap (λ l. head_text (run.steps + 1) line ++ l) (lent-read run.state x out) in
    let told = whole b (step_text (formats_on run.state) (run.steps + 1) line (step_of run x)) e in
    record { run = rw state; place = told.place; bytes = told.bytes }
