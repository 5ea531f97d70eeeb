use native.Mathlib.Omega.{arith}
use Rattle.buffer.proofs.Wrote.{told, tells, wrote-both, wrote_then}
use Rattle.quoting.proofs.Laws.{quoted-is}
use Rattle.quoting.proofs.put_quoted.Goals as goal

pub returns : goal.returns
returns c =
    let args = c.args in
    let put_byte = c.put_byte-p in
    let put-between = c.put_between-q in
    let put-byte2 = c.put_byte in
    tells
    (wrote-both (quoted-is args.text.now) (omega arith)
    (wrote_then (omega arith) (told _ _ _ put_byte.ensures) (told _ _ _ put-between.ensures))
    (told _ _ _ put-byte2.ensures))
