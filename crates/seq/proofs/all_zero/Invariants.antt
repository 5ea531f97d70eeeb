use mathlib.Core.Bool.{◌&&◌}
use mathlib.Core.Path.{◌≡◌}
use lib.ListN.{drop}
use Rattle.seq.specs.Lists.{every}
use Rattle.seq.specs.Bytes.{is_zero}
use Rattle.seq.proofs.all_zero.Given as goal

abbrev pub invariant-loop-b : goal.invariant-loop-b
invariant-loop-b l = every is_zero l.bytes ≡ (l.zero && every is_zero (drop l.b-index l.bytes))
