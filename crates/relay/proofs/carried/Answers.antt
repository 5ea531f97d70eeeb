use Rattle.seq.specs.Bytes.{payload_of}
use mathlib.Core.Path.{sym, ◌∙◌}
use Rattle.relay.proofs.Laws.{carried-within, carried-across}
use Rattle.relay.proofs.carried.Goals as goal

pub returns-then-same_format : goal.returns-then-same_format
returns-then-same_format c =
    let a = c.args in
    carried-within a.from a.to a.message.now a.converted.now a.p (sym c.same_format.ensures ∙ c.if-same_format.true)

pub returns : goal.returns
returns c =
    let a = c.args in
    carried-across a.from a.to a.message.now _ c.payload.result (payload_of a.message.now a.p) (sym c.same_format.ensures ∙ c.if-same_format.false) c.payload.ensures
