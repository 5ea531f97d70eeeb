use mathlib.Core.Path.{◌∙◌}
use lib.Dec.{eqb}
use Rattle.std.proofs.Common.{rules, tests}
use Rattle.std.proofs.lemmas.Iterator.{YieldsList-from_slice, YieldsList-from_take}
use Rattle.std.proofs.lemmas.Iterator.Search.{any_from_yields_List}
use Rattle.options.specs.Meaning.{ids_before}
use Rattle.options.proofs.Laws.{lists-any}
use Rattle.options.proofs.has.Goals as goal

pub returns : goal.returns
returns c =
    let l = c.args.l in
    any_from_yields_List (λ n. eqb n c.args.id) _ _ _ c.any.ensures.ran
    (YieldsList-from_take l.count (YieldsList-from_slice l.ids cc) c.take.ensures.count) (λ x b q k. search (rules, tests))
    ∙ lists-any c.args.id (ids_before l)
