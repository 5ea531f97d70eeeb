use mathlib.Core.Path.{◌≡◌}
use lib.ListN.{length, take}
use Rattle.seq.specs.Lists.{joined}
use Rattle.buffer.proofs.Wrote.{Wrote}
use Rattle.conversion.specs.Sources.{sources}
use Rattle.outgoing.specs.Layout.{formats_of}
use Rattle.outbox.specs.Meaning.{event_mails}
use Rattle.outbox.specs.Emit.{section}
use Rattle.outbox.proofs.put_events.Given as goal

abbrev pub invariant-loop-row : goal.invariant-loop-row
invariant-loop-row l =
    (length l.row-items ≡ 32) × Wrote l.initial.out l.at (joined (section (formats_of l.step.packed) l.s) (joined (event_mails (formats_of l.step.packed) (sources l.step.from l.step.message.now l.step.converted.now l.step.text.now) l.publication l.payload l.other) (take l.row-index l.row-items))) l.o l.out
    × (length l.out ≡ length l.initial.out)
