use mathlib.Core.Path.{sym}
use Rattle.seq.specs.Bytes.{chars}
use Rattle.seq.specs.declared.Format.TheVariants.{Json, MsgPack}
use Rattle.conversion.specs.Converts.{convert}
use Rattle.report.specs.Text.{depth, packed_text, body_text}
use Rattle.report.proofs.Puts.{first, then, whole}
use Rattle.report.proofs.Bodies.{body-plain, body-packed}
use Rattle.report.proofs.put_body.Goals as goal

pub returns-then-byte-lt128 : goal.returns-then-byte-lt128
returns-then-byte-lt128 c =
    whole (first c.args.text.now c.args.at c.args.body.now c.put.ensures) (body_text c.args.body.now) (sym (body-plain c.args.body.now _ c.byte.ensures c.if-byte-lt128.true))

pub returns : goal.returns
returns c =
    let a = first c.args.text.now c.args.at (chars "msgpack ") c.put-a.ensures in
    let b = then a (packed_text c.args.body.now (convert MsgPack Json depth c.args.body.now 0)) c.put_packed.ensures in
    whole b (body_text c.args.body.now) (sym (body-packed c.args.body.now _ c.byte.ensures c.if-byte-lt128.false))
