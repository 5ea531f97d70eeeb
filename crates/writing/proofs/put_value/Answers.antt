use mathlib.Core.List.{◌∷◌}
use mathlib.Core.Path.{ap}
use native.Mathlib.Omega.{arith}
use Rattle.buffer.proofs.Wrote.{told, tells, wrote-both}
use Rattle.writing.proofs.put_value.Goals as goal

pub shape_of-out : goal.shape_of-out
shape_of-out c = omega (arith, c.put_byte-o.auto, c.put_bytes.auto)

pub returns : goal.returns
returns c =
    tells
    (wrote-both (ap (λ l. 44 ∷ l) c.text.ensures) (omega arith)
    (told _ _ _ c.put_byte-o.ensures) (told _ _ _ c.put_bytes.ensures))
