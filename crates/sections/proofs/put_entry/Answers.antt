use native.Mathlib.Omega.{arith}
use Rattle.buffer.proofs.Wrote.{told, tells, wrote_then}
use Rattle.sections.proofs.put_entry.Goals as goal

pub returns : goal.returns
returns c =
    let put_byte = c.put_byte-o in
    let put-be16 = c.put_be16 in
    tells (wrote_then (omega arith) (told _ _ _ put_byte.ensures) (told _ _ _ put-be16.ensures))
