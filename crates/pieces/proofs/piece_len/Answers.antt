use mathlib.Core.Path.{ap, ◌∙◌}
use lib.ListN.{length}
use native.Mathlib.Omega.{arith}
use Rattle.seq.specs.Bytes.{source}
use Rattle.buffer.specs.Capped.{capped}
use Rattle.buffer.proofs.Sums.{capped_is}
use Rattle.pieces.proofs.PieceBytes.{blank-bytes, text-bytes, short-bytes, number-bytes, name-bytes, copy-bytes, values-bytes, byte-bytes, packed-bytes, str-bytes, joined_bytes}
use Rattle.pieces.proofs.piece_len.Goals as goal

pub returns-in-Blank : goal.returns-in-Blank
returns-in-Blank c =
    let s = c in
    capped_is 0 (omega arith) ∙ ap (λ l. capped (length l)) (blank-bytes (source s.args.message.now s.args.text.now) _ c.in-Blank.is)

pub returns-in-Text : goal.returns-in-Text
returns-in-Text c =
    let s = c in
    let p = c.in-Text in
    c.text_len.ensures ∙ ap (λ l. capped (length l)) (text-bytes (source s.args.message.now s.args.text.now) _ _ p.is)

pub returns-in-Short : goal.returns-in-Short
returns-in-Short c =
    let s = c in
    let p = c.in-Short in
    c.short_len.ensures ∙ ap (λ l. capped (length l)) (short-bytes (source s.args.message.now s.args.text.now) _ _ p.is)

pub returns-in-Number : goal.returns-in-Number
returns-in-Number c =
    let s = c in
    let p = c.in-Number in
    capped_is _ (omega arith) ∙ ap capped (c.number_len.ensures ∙ ap length (number-bytes (source s.args.message.now s.args.text.now) _ _ p.is))

pub returns-in-Name : goal.returns-in-Name
returns-in-Name c =
    let s = c in
    c.name_len.ensures ∙ ap (λ l. capped (length l)) (name-bytes (source s.args.message.now s.args.text.now) _ c.in-Name.is)

pub returns-in-Copy : goal.returns-in-Copy
returns-in-Copy c =
    let s = c in
    capped_is _ (omega arith) ∙ ap (λ l. capped (length l)) (copy-bytes (source s.args.message.now s.args.text.now) _ c.in-Copy.is)

pub returns-in-Values : goal.returns-in-Values
returns-in-Values c =
    let s = c in
    let p = c.in-Values in
    c.values_len.ensures ∙ ap (λ l. capped (length l)) (values-bytes (source s.args.message.now s.args.text.now) _ _ p.is)

pub returns-in-Byte : goal.returns-in-Byte
returns-in-Byte c =
    let s = c in
    capped_is 1 (omega arith) ∙ ap (λ l. capped (length l)) (byte-bytes (source s.args.message.now s.args.text.now) _ _ c.in-Byte.is)

pub returns-in-Packed : goal.returns-in-Packed
returns-in-Packed c =
    let s = c in
    let p = c.in-Packed in
    capped_is _ (omega arith) ∙ ap capped (c.packed_len.ensures ∙ ap length (packed-bytes (source s.args.message.now s.args.text.now) _ _ p.is))

pub returns-in-Str : goal.returns-in-Str
returns-in-Str c =
    let s = c in
    c.str_len.ensures ∙ ap (λ l. capped (length l)) (str-bytes (source s.args.message.now s.args.text.now) _ c.in-Str.is)

pub returns-in-Joined : goal.returns-in-Joined
returns-in-Joined c =
    let s = c in
    let p = c.in-Joined in
    c.joined_len.ensures ∙ ap (λ l. capped (length l)) (joined_bytes (source s.args.message.now s.args.text.now) _ _ p.is)
