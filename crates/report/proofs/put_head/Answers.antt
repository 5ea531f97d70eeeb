use Rattle.report.proofs.Puts.{first, then, whole}
use Rattle.seq.specs.Bytes.{chars}
use Rattle.seq.specs.Decimal.{decimal}
use mathlib.Core.List.{append_assoc}
use Rattle.report.specs.Text.{head_text}
use Rattle.report.proofs.put_head.Goals as goal

pub returns : goal.returns
unfolding head_text
returns c =
    let args = c.args in
    let a = first args.text.now args.at (decimal args.number) c.put_number-a.ensures in
    let b = then a (chars ": ") c.put-b.ensures in
    let d = then b args.line.now c.put-c.ensures in
    whole (then d (chars "\n") c.put.ensures) (head_text args.number args.line.now) (simp append_assoc)
