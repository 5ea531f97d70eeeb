use mathlib.Core.Bool.{not, ◌&&◌}
use mathlib.Core.Path.{◌≡◌}
use lib.Dec.{eqb}
use lib.ListN.{drop}
use Rattle.seq.specs.Lists.{every}
use Rattle.json_text.proofs.is_new.Given as goal

abbrev pub invariant-loop-m : goal.invariant-loop-m
invariant-loop-m l = every (λ m. not (eqb m l.mark)) l.marks ≡ (l.new && every (λ m. not (eqb m l.mark)) (drop l.m-index l.marks))
