use Rattle.std.proofs.Common.{rules, tests, ◌∙◌}
use mathlib.Core.Path.{sym}
use Prim.Native.Nat.{ℕ}
use lib.Dec.{eqb}
use Rattle.std.specs.List.{zip}
use Rattle.std.proofs.lemmas.Iterator.{YieldsList-from_slice, YieldsList-from_zip}
use Rattle.std.proofs.lemmas.Iterator.Consumers.{YieldsList-at, count_from_yields_List}
use Rattle.std.proofs.lemmas.Iterator.Search.{YieldsList-from_take_while}
use Rattle.std.proofs.lemmas.List.Folds.{length-prefix_len}
use Rattle.pattern.proofs.Along.{shared-prefix}
use Rattle.pattern.proofs.common.Goals as goal

pub returns : goal.returns
returns c =
    let a = c.args.a.now in
    let b = c.args.b.now in
    let n = count_from_yields_List c.take_while.result c.count.result c.count.ensures.ran
    (YieldsList-from_take_while _ (λ (p : ℕ × ℕ). eqb p.0 p.1)
    (YieldsList-at c.take_while.ensures.source (YieldsList-from_zip (YieldsList-from_slice a cc) (YieldsList-from_slice b cc)))
    c.take_while.ensures.closure c.take_while.ensures.done (λ x b q k. search (rules, tests))) in
    n ∙ length-prefix_len (λ (p : ℕ × ℕ). eqb p.0 p.1) (zip a b) ∙ sym (shared-prefix a b)
