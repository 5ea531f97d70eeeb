use Prim.Native.Nat.{◌<◌}
use mathlib.Core.Path.{sym}
use native.Mathlib.Omega.{arith}
use Rattle.seq.proofs.Bytes.{bytes-are}
use Rattle.seq.proofs.Rules.{all-of-at}
use Rattle.seq.specs.declared.Format.TheVariants.{Json, MsgPack}
use Rattle.conversion.specs.Converts.{convert}
use Rattle.report.specs.Text.{depth, hex_text, packed_text}
use Rattle.report.proofs.Puts.{first, whole}
use Rattle.report.proofs.Bodies.{shows-none, shows-cut, shows-long, shows-json}
use Rattle.report.proofs.put_packed.Goals as goal

pub returns-in_default : goal.returns-in_default
returns-in_default c =
    whole (first _ _ (hex_text c.args.body.now) c.put_hex.ensures) (packed_text c.args.body.now (convert MsgPack Json depth c.args.body.now 0)) (sym (shows-none c.args.body.now _ _ _ _ c.convert-converted.ensures.answer c.convert-converted.ensures.bytes c.in_default.is))

pub returns-then-value-body : goal.returns-then-value-body
returns-then-value-body c =
    whole (first _ _ (hex_text c.args.body.now) c.put_hex-then-value-body.ensures) (packed_text c.args.body.now (convert MsgPack Json depth c.args.body.now 0)) (sym (shows-cut c.args.body.now _ _ _ _ c.convert-converted.ensures.answer c.convert-converted.ensures.bytes ((bytes-are c.args.body.now).1 (all-of-at (λ b. b < 256) 0 c.args.body.now (λ k. omega (arith, c.shared_slice_known-1.given k)))) c.json_buffer-json.ensures _ c.in-Some.is c.if-value-body.true))

pub returns-then-len-gt32768 : goal.returns-then-len-gt32768
returns-then-len-gt32768 c =
    whole (first _ _ (hex_text c.args.body.now) c.put_hex-then-len-gt32768.ensures) (packed_text c.args.body.now (convert MsgPack Json depth c.args.body.now 0)) (sym (shows-long c.args.body.now _ _ _ _ c.convert-converted.ensures.answer c.convert-converted.ensures.bytes ((bytes-are c.args.body.now).1 (all-of-at (λ b. b < 256) 0 c.args.body.now (λ k. omega (arith, c.shared_slice_known-1.given k)))) c.json_buffer-json.ensures _ c.in-Some.is c.if-value-body.false c.if-len-gt32768.true))

pub returns : goal.returns
returns c =
    let said = rw c.text.ensures at c.put.ensures in
    whole (first _ _ _ said) (packed_text c.args.body.now (convert MsgPack Json depth c.args.body.now 0)) (sym (shows-json c.args.body.now _ _ _ _ c.convert-converted.ensures.answer c.convert-converted.ensures.bytes ((bytes-are c.args.body.now).1 (all-of-at (λ b. b < 256) 0 c.args.body.now (λ k. omega (arith, c.shared_slice_known-1.given k)))) c.json_buffer-json.ensures _ c.in-Some.is c.if-value-body.false c.if-len-gt32768.false))
