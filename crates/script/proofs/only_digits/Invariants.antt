use mathlib.Core.Path.{◌≡◌}
use lib.ListN.{drop}
use Rattle.seq.specs.Lists.{every}
use Rattle.seq.specs.Bytes.{is_digit}
use Rattle.script.proofs.only_digits.Given as goal

abbrev pub invariant-loop-b : goal.invariant-loop-b
invariant-loop-b l = every is_digit l.word ≡ every is_digit (drop l.b-index l.word)
