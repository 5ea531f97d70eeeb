use mathlib.Core.Path.{◌≡◌}
use lib.ListN.{length, take}
use Rattle.seq.specs.Lists.{joined}
use Rattle.buffer.proofs.Wrote.{Wrote}
use Rattle.outgoing.specs.Layout.{formats_of}
use Rattle.outbox.specs.Meaning.{cancel_mails}
use Rattle.outbox.specs.Emit.{section}
use Rattle.outbox.proofs.put_cancels.Given as goal

abbrev pub invariant-loop-cancel : goal.invariant-loop-cancel
invariant-loop-cancel l =
    (length l.cancel-items ≡ 32) × Wrote l.initial.out l.at (joined (section (formats_of l.step.packed) l.s) (joined cancel_mails (take l.cancel-index l.cancel-items))) l.o l.out
    × (length l.out ≡ length l.initial.out)
