use Prim.Native.Nat.{ℕ}
use mathlib.Core.List.{List, ◌++◌}
use mathlib.Core.Path.{ap₂, ◌∙◌}
use native.Mathlib.Omega.{arith}
use Rattle.buffer.proofs.Wrote.{told, tells, wrote, wrote_none, wrote-both}
use Rattle.pieces.proofs.Values.{joined-absent, joined-list, joined-both}
use Rattle.writing.proofs.put_joined.Goals as goal

pub returns-in-Absent : goal.returns-in-Absent
returns-in-Absent c =
    let x = c.args in
    tells (wrote (joined-absent x.message.now _ c.in-Absent.is) (wrote_none _ _ (omega arith)))

pub returns-in-Arguments : goal.returns-in-Arguments
returns-in-Arguments c =
    let x = c.args in
    let p = c.in-Arguments in
    tells (wrote (c.text.ensures ∙ joined-list x.message.now _ _ p.is) (told _ _ _ c.put_bytes.ensures))

pub returns-in-Keywords : goal.returns-in-Keywords
returns-in-Keywords c =
    let x = c.args in
    let p2 = c.in-Keywords in
    let both = ap₂ (λ (a b : List ℕ). a ++ b) c.text-in-Keywords.ensures c.text-in-Keywords-2.ensures in
    tells
    (wrote-both (both ∙ joined-both x.message.now _ _ _ p2.is) (omega arith)
    (told _ _ _ c.put_bytes-o.ensures) (told _ _ _ c.put_bytes-in-Keywords.ensures))
