use mathlib.Core.Path.{◌≡◌}
use lib.ListN.{drop}
use Rattle.outgoing.specs.Layout.{formats_of}
use Rattle.relay.specs.Relay.{crosses}
use Rattle.relay.proofs.row_crosses.Given as goal

abbrev pub invariant-loop-i : goal.invariant-loop-i
invariant-loop-i l = crosses (formats_of l.packed) l.from 0 l.holders ≡ crosses (formats_of l.packed) l.from l.i (drop l.i l.holders)
