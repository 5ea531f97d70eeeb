use Rattle.report.proofs.Puts.{first, then, whole}
use Rattle.seq.specs.Bytes.{chars}
use Rattle.seq.specs.Decimal.{decimal}
use mathlib.Core.List.{append_assoc}
use Rattle.report.specs.Text.{done_text}
use Rattle.report.proofs.put_done.Goals as goal

pub returns : goal.returns
unfolding done_text
returns c =
    let args = c.args in
    let a = first args.text.now args.at (chars "  -> done, ") c.put-a.ensures in
    let b = then a (decimal args.count) c.put_number-b.ensures in
    whole (then b (chars " bytes\n") c.put.ensures) (done_text args.count) (simp append_assoc)
