use native.Mathlib.Omega.{arith}
use Rattle.buffer.proofs.Wrote.{told, tells, wrote, wrote_none, wrote-both}
use Rattle.pieces.proofs.Values.{bytes-absent, bytes-list, bytes-both}
use Rattle.writing.proofs.put_values.Goals as goal

pub returns-in-Absent : goal.returns-in-Absent
returns-in-Absent c =
    let x = c.args in
    tells (wrote (bytes-absent x.message.now _ c.in-Absent.is) (wrote_none _ _ (omega arith)))

pub returns-in-Arguments : goal.returns-in-Arguments
returns-in-Arguments c =
    let x = c.args in
    let p = c.in-Arguments in
    let put-value = c.put_value in
    tells (wrote (bytes-list x.message.now _ _ p.is) (told _ _ _ put-value.ensures))

pub shape_of-out-in-Keywords : goal.shape_of-out-in-Keywords
shape_of-out-in-Keywords c = omega (arith, c.put_value-o.auto, c.put_value-in-Keywords.auto)

pub returns-in-Keywords : goal.returns-in-Keywords
returns-in-Keywords c =
    let x = c.args in
    let p2 = c.in-Keywords in
    let put-value2 = c.put_value-o in
    let put-value3 = c.put_value-in-Keywords in
    tells
    (wrote-both (bytes-both x.message.now _ _ _ p2.is) (omega arith)
    (told _ _ _ put-value2.ensures) (told _ _ _ put-value3.ensures))
