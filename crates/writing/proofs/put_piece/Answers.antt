use native.Mathlib.Omega.{arith}
use Rattle.seq.specs.Bytes.{source}
use Rattle.buffer.proofs.Wrote.{told, tells, wrote, wrote_none}
use Rattle.pieces.proofs.PieceBytes.{blank-bytes, text-bytes, short-bytes, number-bytes, name-bytes, copy-bytes, values-bytes, byte-bytes, packed-bytes, str-bytes, joined_bytes}
use Rattle.writing.proofs.put_piece.Goals as goal

pub returns-in-Blank : goal.returns-in-Blank
returns-in-Blank c =
    let x = c.args in
    tells (wrote (blank-bytes (source x.message.now x.text.now) _ c.in-Blank.is) (wrote_none _ _ (omega arith)))

pub returns-in-Text : goal.returns-in-Text
returns-in-Text c =
    let x = c.args in
    let p = c.in-Text in
    tells (wrote (text-bytes (source x.message.now x.text.now) _ _ p.is) (told _ _ _ c.put_text.ensures))

pub returns-in-Short : goal.returns-in-Short
returns-in-Short c =
    let x = c.args in
    let p = c.in-Short in
    tells (wrote (short-bytes (source x.message.now x.text.now) _ _ p.is) (told _ _ _ c.put_short.ensures))

pub returns-in-Number : goal.returns-in-Number
returns-in-Number c =
    let x = c.args in
    let p = c.in-Number in
    tells (wrote (number-bytes (source x.message.now x.text.now) _ _ p.is) (told _ _ _ c.put_number.ensures))

pub returns-in-Name : goal.returns-in-Name
returns-in-Name c =
    let x = c.args in
    tells (wrote (name-bytes (source x.message.now x.text.now) _ c.in-Name.is) (told _ _ _ c.put_name.ensures))

pub returns-in-Copy : goal.returns-in-Copy
returns-in-Copy c =
    let x = c.args in
    tells (wrote (copy-bytes (source x.message.now x.text.now) _ c.in-Copy.is) (told _ _ _ c.put_bytes.ensures))

pub returns-in-Values : goal.returns-in-Values
returns-in-Values c =
    let x = c.args in
    let p = c.in-Values in
    tells (wrote (values-bytes (source x.message.now x.text.now) _ _ p.is) (told _ _ _ c.put_values.ensures))

pub returns-in-Byte : goal.returns-in-Byte
returns-in-Byte c =
    let x = c.args in
    let p = c.in-Byte in
    tells (wrote (byte-bytes (source x.message.now x.text.now) _ _ p.is) (told _ _ _ c.put_byte.ensures))

pub returns-in-Packed : goal.returns-in-Packed
returns-in-Packed c =
    let x = c.args in
    let p = c.in-Packed in
    tells (wrote (packed-bytes (source x.message.now x.text.now) _ _ p.is) (told _ _ _ c.put_whole.ensures))

pub returns-in-Str : goal.returns-in-Str
returns-in-Str c =
    let x = c.args in
    tells (wrote (str-bytes (source x.message.now x.text.now) _ c.in-Str.is) (told _ _ _ c.put_packed.ensures))

pub returns-in-Joined : goal.returns-in-Joined
returns-in-Joined c =
    let x = c.args in
    let p = c.in-Joined in
    tells (wrote (joined_bytes (source x.message.now x.text.now) _ _ p.is) (told _ _ _ c.put_joined.ensures))
