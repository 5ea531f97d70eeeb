use Prim.Native.Nat.{ℕ}
use mathlib.Core.Path.{◌≡◌, sym}
use native.Mathlib.Omega.{arith}
use lib.ListN.{length, replicate, length-replicate}
use lib.Seq.{length-take-le}
use Rattle.buffer.proofs.Wrote.{told, tells, wrote}
use Rattle.settings_io.proofs.Laws.{take-zeros}
use Rattle.settings_io.proofs.put_zeros.Goals as goal

pub slice_bounds-put_bytes-end : goal.slice_bounds-put_bytes-end
slice_bounds-put_bytes-end c =
    let l : length {A = ℕ} (replicate 4224 0) ≡ 4224 = length-replicate {A = ℕ} 4224 0 in
    sym (length-take-le {A = ℕ} c.args.n (replicate 4224 0) (omega (arith, c.requires)))

pub returns : goal.returns
returns c =
    tells (wrote (take-zeros c.args.n 4224 (omega (arith, c.requires))) (told _ _ _ c.put_bytes.ensures))
