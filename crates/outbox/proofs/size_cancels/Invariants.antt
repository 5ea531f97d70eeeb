use mathlib.Core.Path.{◌≡◌}
use Prim.Native.Nat.{◌+◌}
use lib.ListN.{length, take}
use Rattle.seq.specs.Lists.{joined}
use Rattle.buffer.specs.Capped.{capped}
use Rattle.outgoing.specs.Layout.{formats_of}
use Rattle.outbox.specs.Meaning.{cancel_mails}
use Rattle.outbox.specs.Emit.{added_by}
use Rattle.outbox.proofs.size_cancels.Given as goal

abbrev pub invariant-loop-cancel : goal.invariant-loop-cancel
invariant-loop-cancel l =
    (length l.cancel-items ≡ 32) × (l.o ≡ capped (l.at + added_by (formats_of l.step.packed) (joined cancel_mails (take l.cancel-index l.cancel-items))))
