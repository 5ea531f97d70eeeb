use mathlib.Core.Path.{◌≡◌}
use lib.ListN.{drop}
use Rattle.outgoing.specs.Layout.{formats_of}
use Rattle.relay.specs.Relay.{rows_cross}
use Rattle.relay.proofs.rows_cross.Given as goal

abbrev pub invariant-loop-i : goal.invariant-loop-i
invariant-loop-i l = rows_cross (formats_of l.packed) l.from l.rows ≡ rows_cross (formats_of l.packed) l.from (drop l.i l.rows)
