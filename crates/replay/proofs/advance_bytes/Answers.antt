use mathlib.Core.Path.{refl, ap, ◌∙◌}
use lib.ListN.{take}
use Rattle.seq.specs.Bytes.{text_of}
use Rattle.hex_text.specs.Hex.{bytes_of}
use Rattle.replay.proofs.Laws.{cut-text, cut-played, cut-stepped}
use Rattle.replay.proofs.advance_bytes.Goals as goal

pub returns : goal.returns
returns c =
    let args = c.args in
    let sent = args.sent in
    let digits = text_of args.line.now sent.message in
    let cut = c.text-message.ensures ∙ cut-text _ _ _ _ refl c.unhex-n.ensures.count c.unhex-n.ensures.bytes ∙ ap (λ l. take 2049 (bytes_of l)) c.text.ensures in
    let same = cut-stepped args.run sent.slot sent.number (bytes_of digits) in
    record {
      run = rw (cut, cut-played args.run sent.slot sent.number (bytes_of digits)) at c.advance.ensures.run;
      place = rw (cut, same) at c.advance.ensures.place;
      bytes = rw (cut, same) at c.advance.ensures.bytes;
    }
