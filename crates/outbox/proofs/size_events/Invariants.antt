use mathlib.Core.Path.{◌≡◌}
use Prim.Native.Nat.{◌+◌}
use lib.ListN.{length, take}
use Rattle.seq.specs.Lists.{joined}
use Rattle.buffer.specs.Capped.{capped}
use Rattle.conversion.specs.Sources.{sources}
use Rattle.outgoing.specs.Layout.{formats_of}
use Rattle.outbox.specs.Meaning.{event_mails}
use Rattle.outbox.specs.Emit.{added_by}
use Rattle.outbox.proofs.size_events.Given as goal

abbrev pub invariant-loop-row : goal.invariant-loop-row
invariant-loop-row l =
    let event = event_mails (formats_of l.step.packed) (sources l.step.from l.step.message.now l.step.converted.now l.step.text.now) l.publication l.payload l.other in
    (length l.row-items ≡ 32) × (l.o ≡ capped (l.at + added_by (formats_of l.step.packed) (joined event (take l.row-index l.row-items))))
