use Prim.Native.Nat.{◌+◌}
use mathlib.Core.Path.{refl, ap, ◌∙◌}
use native.Mathlib.Omega.{arith}
use lib.ListN.{length}
use Rattle.seq.specs.Bytes.{source}
use Rattle.outgoing.specs.Outgoing.{render}
use Rattle.replies.specs.Meaning.{message_of}
use Rattle.buffer.specs.Capped.{capped}
use Rattle.buffer.proofs.Sums.{capped_is, sum-turn}
use Rattle.sections.proofs.size_reply.Goals as goal

pub returns : goal.returns
returns c =
    let x = c.args in
    let m = source x.message.now x.text.now in
    let t = render x.format (message_of m x.reply) in
    let len = c.pieces_len-len.ensures ∙ ap (λ l. capped (length l)) (c.pieces_of-ps.ensures m) in
    let size = c.plus.ensures ∙ sum-turn 3 _ 3 (length t) (3 + length t) (capped_is 3 (omega arith)) len refl in
    c.plus-2.ensures ∙ sum-turn x.at _ x.at (3 + length t) (x.at + (3 + length t)) (capped_is x.at (omega arith)) size refl
