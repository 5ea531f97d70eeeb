use native.Mathlib.Omega.{arith}
use Rattle.seq.specs.Bytes.{source}
use Rattle.pieces.specs.Pieces.{written}
use Rattle.buffer.proofs.Wrote.{told, tells, wrote}
use Rattle.sections.proofs.Sections.{in-entries, in-bodies, wrote-past}
use Rattle.sections.proofs.put_mail.Goals as goal

pub returns-then-out-at : goal.returns-then-out-at
returns-then-out-at c =
    let s = c in
    let x = s.args in
    let t = written (source x.message.now x.text.now) x.ps in
    let past = wrote-past t x.len s.requires _ _ (omega arith) c.if-out-at.true c.plus.ensures in
    tells (wrote (in-bodies _ x.slot t x.len s.requires c.in-Bodies.is) past)

pub returns-in-Entries : goal.returns-in-Entries
returns-in-Entries c =
    let s = c in
    let x = s.args in
    let t = written (source x.message.now x.text.now) x.ps in
    let enum_told = c.in-Entries in
    tells (wrote (in-entries _ x.slot t x.len s.requires enum_told.is) (told _ _ _ c.put_entry.ensures))

pub returns-else-out-at : goal.returns-else-out-at
returns-else-out-at c =
    let s = c in
    let x = s.args in
    let t = written (source x.message.now x.text.now) x.ps in
    let enum-told2 = c.in-Bodies in
    tells (wrote (in-bodies _ x.slot t x.len s.requires enum-told2.is) (told _ _ _ c.put_pieces.ensures))
