use Rattle.std.proofs.Common.{rules, tests, ◌∙◌, ap, drop, ◌+◌}
use mathlib.Core.Bool.{not}
use mathlib.Core.Path.{sym}
use lib.Dec.{leb}
use Rattle.std.proofs.lemmas.Iterator.{YieldsList-from_slice}
use Rattle.std.proofs.lemmas.Iterator.Consumers.{count_from_yields_List}
use Rattle.std.proofs.lemmas.Iterator.Search.{YieldsList-from_take_while}
use Rattle.std.proofs.lemmas.List.Folds.{length-prefix_len}
use Rattle.uri.proofs.Places.{before-prefix}
use Rattle.uri.proofs.past.Goals as goal

pub returns : goal.returns
returns c =
    let ends = drop c.args.k c.args.ends.now in
    let at = c.args.at in
    let n = count_from_yields_List c.take_while.result c.count.result c.count.ensures.ran
    (YieldsList-from_take_while _ (λ to. not (leb at to)) (YieldsList-from_slice ends cc) c.take_while.ensures.closure c.take_while.ensures.done
    (λ x b q k. search (rules, tests))) in
    ap (λ m. c.args.k + m) (n ∙ length-prefix_len (λ to. not (leb at to)) ends ∙ sym (before-prefix at ends))
