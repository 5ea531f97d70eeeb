use native.Mathlib.Omega.{arith}
use Rattle.buffer.proofs.Wrote.{told, tells, wrote_then}
use Rattle.writing.proofs.put_be16.Goals as goal

pub returns : goal.returns
returns c =
    let put_byte = c.put_byte-o in
    let put-byte2 = c.put_byte in
    tells (wrote_then (omega arith) (told _ _ _ put_byte.ensures) (told _ _ _ put-byte2.ensures))
