use mathlib.Core.Path.{refl}
use native.Mathlib.Omega.{arith}
use Rattle.values.specs.Write.{pack_text}
use Rattle.buffer.proofs.Wrote.{told, tells, wrote-both}
use Rattle.writing.proofs.put_packed.Goals as goal

pub returns : goal.returns
unfolding pack_text
returns c =
    tells (wrote-both refl (omega arith) (told _ _ _ c.put_str-o.ensures) (told _ _ _ c.put_bytes.ensures))
