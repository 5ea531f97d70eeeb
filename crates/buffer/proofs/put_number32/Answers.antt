use mathlib.Core.List.{[], ◌∷◌}
use mathlib.Core.Path.{◌≡◌, refl}
use native.Mathlib.Omega.{arith}
use Rattle.seq.specs.BigEndian.{digits}
use Rattle.buffer.proofs.Wrote.{told, tells, wrote-both, wrote_then}
use Rattle.buffer.proofs.put_number32.Goals as goal

pub returns : goal.returns
unfolding digits
returns c =
    let x1 = c.low_byte in
    let x2 = c.low_byte-2 in
    let x3 = c.low_byte-3 in
    let x4 = c.low_byte-4 in
    let e : x1.result ∷ x2.result ∷ x3.result ∷ x4.result ∷ [] ≡ digits 4 c.args.n =
    rw (x1.ensures, x2.ensures, x3.ensures, x4.ensures) refl in
    tells
    (wrote-both e (omega arith)
    (wrote_then (omega arith)
    (wrote_then (omega arith) (told _ _ _ c.put_byte-o.ensures) (told _ _ _ c.put_byte-p.ensures))
    (told _ _ _ c.put_byte-q.ensures))
    (told _ _ _ c.put_byte.ensures))
