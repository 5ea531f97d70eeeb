use mathlib.Core.Path.{ap, ◌∙◌}
use lib.ListN.{length}
use Rattle.seq.specs.Bytes.{source}
use Rattle.buffer.specs.Capped.{capped}
use Rattle.sections.proofs.event_len.Goals as goal

pub returns : goal.returns
returns c =
    let x = c.args in
    c.pieces_len.ensures
    ∙ ap (λ l. capped (length l)) (c.pieces_of-ps.ensures (source x.message.now x.text.now))
