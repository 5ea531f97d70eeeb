use Prim.Native.Nat.{◌+◌}
use mathlib.Core.Path.{ap, ◌∙◌}
use native.Mathlib.Omega.{arith}
use Rattle.seq.specs.Bytes.{source}
use Rattle.buffer.specs.Capped.{capped}
use Rattle.outgoing.specs.Layout.{formats_of}
use Rattle.outbox.proofs.Mails.{sized-none}
use Rattle.outbox.proofs.Turns.{cancel-none, cancel-adds}
use Rattle.outbox.proofs.size_cancel.Goals as goal

pub returns-then-c-eq0 : goal.returns-then-c-eq0
returns-then-c-eq0 c =
    let x = c.args in
    let fs = formats_of x.step.packed in
    sized-none fs _ (cancel-none fs _ c.if-c-eq0.true) x.at (omega arith)

pub returns : goal.returns
returns c =
    let x = c.args in
    let format-at = c.format_at-format in
    let some = cancel-adds (formats_of x.step.packed) (source x.step.message.now x.step.text.now) x.c c.if-c-eq0.false _ format-at.ensures in
    c.size_reply.ensures ∙ ap (λ k. capped (x.at + k)) some
