use Rattle.report.proofs.Puts.{first, then, whole}
use Rattle.seq.specs.Bytes.{chars}
use Rattle.seq.specs.Decimal.{decimal}
use mathlib.Core.List.{append_assoc}
use Rattle.report.specs.Text.{body_text, message_text}
use Rattle.report.proofs.put_message.Goals as goal

pub returns : goal.returns
unfolding message_text
returns c =
    let args = c.args in
    let a = first args.text.now args.at (chars "  -> slot ") c.put-a.ensures in
    let b = then a (decimal args.slot) c.put_number-b.ensures in
    let d = then b (chars ": ") c.put-c.ensures in
    let e = then d (body_text args.body.now) c.put_body-d.ensures in
    whole (then e (chars "\n") c.put.ensures) (message_text args.slot args.body.now) (simp append_assoc)
