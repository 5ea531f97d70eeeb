use Prim.Native.Nat.{◌<◌}
use mathlib.Core.Path.{sym}
use native.Mathlib.Omega.{arith}
use Rattle.seq.proofs.Rules.{all-of-at}
use Rattle.seq.proofs.Bytes.{bytes-are}
use Rattle.parser.proofs.is_encoded.Goals as goal

pub returns-in-Json : goal.returns-in-Json
returns-in-Json c = rw c.in-Json.is c.well_formed-in-Json.ensures

pub returns-in-MsgPack : goal.returns-in-MsgPack
returns-in-MsgPack c =
    let s = c.args.s.now in
    let bytes = all-of-at (λ b. b < 256) 0 s (λ k. omega (arith, c.shared_slice_known-1.given k)) in
    rw c.in-MsgPack.is (sym ((bytes-are s).1 bytes))
