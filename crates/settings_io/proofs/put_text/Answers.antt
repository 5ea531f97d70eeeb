use native.Mathlib.Omega.{arith}
use Rattle.buffer.proofs.Wrote.{told, tells, wrote_then}
use Rattle.settings.specs.Lent.{text_bytes}
use Rattle.settings_io.proofs.put_text.Goals as goal

pub returns : goal.returns
unfolding text_bytes
returns c =
    tells
    (wrote_then (omega arith) (wrote_then (omega arith) (told _ _ _ c.put_byte-o.ensures) (told _ _ _ c.put_bytes-p.ensures))
    (told _ _ _ c.put_zeros.ensures))
