use Rattle.report.proofs.Puts.{first, then, whole}
use Rattle.seq.specs.Bytes.{chars}
use Rattle.seq.specs.Decimal.{decimal}
use mathlib.Core.List.{append_assoc}
use Rattle.report.specs.Text.{reason_text, wrong_text}
use Rattle.report.proofs.put_wrong.Goals as goal

pub returns : goal.returns
unfolding wrong_text
returns c =
    let args = c.args in
    let a = first args.text.now args.at (chars "line ") c.put-a.ensures in
    let b = then a (decimal args.line) c.put_number-b.ensures in
    let d = then b (chars ": ") c.put-c.ensures in
    let e = then d (reason_text args.reason) c.put_reason-d.ensures in
    whole (then e (chars "\n") c.put.ensures) (wrong_text args.line args.reason) (simp append_assoc)
