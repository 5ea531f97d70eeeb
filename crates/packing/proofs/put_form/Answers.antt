use native.Mathlib.Omega.{arith}
use Rattle.buffer.proofs.Wrote.{told, tells, wrote_then}
use Rattle.packing.proofs.put_form.Goals as goal

pub shape_of-out : goal.shape_of-out
shape_of-out c = omega (arith, c.put_wide.auto, c.put_byte-p.auto)

pub returns : goal.returns
returns c =
    tells (wrote_then (omega (arith, c.well_formed)) (told _ _ _ c.put_byte-p.ensures) (told _ _ _ c.put_wide.ensures))
