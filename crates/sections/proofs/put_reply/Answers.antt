use mathlib.Core.Path.{ap}
use Rattle.seq.specs.Bytes.{source}
use Rattle.buffer.proofs.Wrote.{told, tells, wrote}
use Rattle.sections.specs.Sections.{put_in}
use Rattle.sections.proofs.put_reply.Goals as goal

pub put_mail-requires : goal.put_mail-requires
put_mail-requires c = c.pieces_len-len.ensures

pub returns : goal.returns
returns c =
    let x = c.args in
    let pieces_of = c.pieces_of-ps in
    tells (wrote (ap (put_in x.s x.slot) (pieces_of.ensures (source x.message.now x.text.now))) (told _ _ _ c.put_mail.ensures))
