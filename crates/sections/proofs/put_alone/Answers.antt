use mathlib.Core.List.{◌∷◌, ◌++◌}
use mathlib.Core.Path.{ap, ◌∙◌}
use Prim.Native.Nat.{◌%◌, ◌≤◌}
use native.Mathlib.Nat.{zero-add}
use native.Mathlib.Omega.{arith}
use lib.ListN.{length}
use Rattle.seq.specs.Bytes.{source}
use Rattle.buffer.specs.Capped.{capped, largest}
use Rattle.pieces.specs.Pieces.{written}
use Rattle.buffer.proofs.Sums.{capped_le}
use Rattle.outgoing.specs.Outgoing.{render}
use Rattle.replies.specs.Meaning.{message_of}
use Rattle.outgoing.specs.Layout.{be16}
use Rattle.buffer.proofs.Wrote.{told, wrote-both, wrote_then}
use Rattle.sections.specs.Sections.{one_output}
use Rattle.sections.proofs.Sections.{one_size, one-exact, bytes-none, bytes-done}
use Rattle.sections.proofs.put_alone.Goals as goal

pub returns-then-out-size : goal.returns-then-out-size
returns-then-out-size c =
    let x = c.args in
    let m = source x.message.now x.text.now in
    let t = render x.format (message_of m x.reply) in
    let size = c.pieces_len-len.ensures ∙ ap (λ l. capped (length l)) (c.pieces_of-ps.ensures m) in
    let sum = c.plus-size.ensures ∙ one_size x.slot _ t size in record {
      size = sum;
      bytes = bytes-none (one_output x.slot t) _ (omega (arith, sum, capped_le (length (one_output x.slot t))));
    }

pub shape_of-out : goal.shape_of-out
shape_of-out c =
    let put-be16 = c.put_be16-entry in
    let put-entry = c.put_entry-body in
    omega (arith, put-be16.auto, put-entry.auto, c.put_pieces.auto)

pub returns : goal.returns
returns c =
    let pieces-len = c.pieces_len-len in
    let plus = c.plus-size in
    let s = c in
    let x = s.args in
    let room = s.well_formed.1.1.1.1.1.0 in
    let m = source x.message.now x.text.now in
    let t = render x.format (message_of m x.reply) in
    let pieces_of = c.pieces_of-ps in
    let size = pieces-len.ensures ∙ ap (λ l. capped (length l)) (pieces_of.ensures m) in
    let f : length x.out.now ≤ largest = omega (arith, room) in
    let if1 = c.if-out-size in
    let exact = one-exact _ _ (length t) size plus.ensures (omega (arith, room, if1.false)) in
    let put-be16 = c.put_be16-entry in
    let put-entry = c.put_entry-body in
    let put-pieces = c.put_pieces in
    let e = ap (λ n. be16 1 ++ ((x.slot % 256 ∷ be16 n) ++ written m pieces_of.result)) exact.0
    ∙ ap (λ l. be16 1 ++ ((x.slot % 256 ∷ be16 (length t)) ++ l)) (pieces_of.ensures m) in
    let w = wrote-both e f (told _ _ _ put-be16.ensures)
    (wrote_then (omega (arith, put-be16.auto)) (told _ _ _ put-entry.ensures) (told _ _ _ put-pieces.ensures)) in record {
      size = w.ends ∙ ap capped (zero-add (length (one_output x.slot t)));
      bytes = bytes-done (one_output x.slot t) _ _ _ (omega (arith, if1.false)) w;
    }
