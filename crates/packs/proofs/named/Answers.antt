use mathlib.Core.List.{[], ◌∷◌}
use native.Mathlib.Omega.{arith}
use Rattle.seq.specs.Bytes.{payload_in}
use Rattle.values.specs.Write.{pack_whole, pack_text}
use Rattle.packs.proofs.Heads.{in_two}
use Rattle.pieces.specs.Pieces.{bytes_of}
use Rattle.packs.proofs.named.Goals as goal

pub returns : goal.returns
unfolding bytes_of
returns c = λ m.
    let x = c.args in
    in_two _ (x.kind ∷ []) (pack_whole x.a) (pack_whole x.b) (bytes_of m x.key) (pack_text m.text) (payload_in m x.payload)
    (c.head-h.ensures m _ (omega arith))
