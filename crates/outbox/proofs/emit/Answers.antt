use Prim.Native.Nat.{◌+◌, ◌≤◌}
use lib.ListN.{length}
use native.Mathlib.Omega.{arith}
use Rattle.buffer.specs.Capped.{largest}
use Rattle.buffer.proofs.Sums.{capped_le, capped-exact}
use Rattle.buffer.proofs.Wrote.{told}
use Rattle.outgoing.specs.Layout.{formats_of, layout}
use Rattle.conversion.specs.Sources.{sources}
use Rattle.outbox.specs.Meaning.{mails_of}
use Rattle.outbox.specs.Emit.{added_by}
use Rattle.outbox.proofs.Mails.{layout-length, bodies-place, emit-all, outcome-none, outcome-done}
use Rattle.outbox.proofs.emit.Goals as goal

pub returns-then-out-size_all : goal.returns-then-out-size_all
returns-then-out-size_all c =
    let x = c.args in
    let fs = formats_of x.packed in
    let ms = mails_of fs (sources x.from x.message.now x.converted.now x.text.now) x.outbox in
    let most = capped_le (2 + added_by fs ms) in
    let whole = outcome-none (layout fs ms) _ (omega (arith, layout-length fs ms, c.size_all.ensures)) in record { answer = whole.0; bytes = whole.1 }

pub overflow_sub-bodies : goal.overflow_sub-bodies
overflow_sub-bodies c =
    let x = c.args in
    let room = c.well_formed.1.1.1.1.1.1.0 in
    let fs = formats_of x.packed in
    let ms = mails_of fs (sources x.from x.message.now x.converted.now x.text.now) x.outbox in
    let size-all = c.size_all in
    let if1 = c.if-out-size_all in
    let put_all = c.put_all-bodies in
    let exact = capped-exact _ _ size-all.ensures (omega (arith, room)) in
    omega (arith, bodies-place fs ms _ _ _ (omega (arith, if1.false)) (omega (arith, room)) (told _ _ _ put_all.ensures))

pub shape_of-out : goal.shape_of-out
shape_of-out c =
    let put_all = c.put_all-bodies in
    let put-all2 = c.put_all-end in
    omega (arith, put_all.auto, put-all2.auto, c.put_be16.auto)

pub returns : goal.returns
returns c =
    let x = c.args in
    let room = c.well_formed.1.1.1.1.1.1.0 in
    let f : length x.out.now ≤ largest = omega (arith, room) in
    let fs = formats_of x.packed in
    let ms = mails_of fs (sources x.from x.message.now x.converted.now x.text.now) x.outbox in
    let size-all = c.size_all in
    let if1 = c.if-out-size_all in
    let exact = capped-exact _ _ size-all.ensures (omega (arith, room, if1.false)) in
    let put_all = c.put_all-bodies in
    let put-all2 = c.put_all-end in
    let put-be16 = c.put_be16 in
    let whole = outcome-done (layout fs ms) _ _ _ (omega (arith, layout-length fs ms, if1.false)) f
    (emit-all fs ms _ _ _ (omega (arith, if1.false)) f (told _ _ _ put_all.ensures)
    _ _ _ (told _ _ _ put-all2.ensures) put-be16.ensures.bytes) in record { answer = whole.0; bytes = whole.1 }
