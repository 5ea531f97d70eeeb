use native.Mathlib.Omega.{arith}
use Rattle.buffer.proofs.Wrote.{told, tells, wrote_then}
use Rattle.settings_io.specs.Written.{entry_bytes}
use Rattle.settings_io.proofs.put_entry.Goals as goal

pub returns : goal.returns
unfolding entry_bytes
returns c =
    tells
    (wrote_then (omega arith) (told _ _ _ c.put_byte-o.ensures)
    (wrote_then (omega arith) (told _ _ _ c.put_number32-p.ensures) (told _ _ _ c.put_number32.ensures)))
