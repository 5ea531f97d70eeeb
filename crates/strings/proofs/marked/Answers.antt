use Rattle.std.proofs.Common.{rules, tests, ◌∙◌}
use Rattle.std.proofs.lemmas.Iterator.{YieldsList-from_slice}
use Rattle.std.proofs.lemmas.Iterator.Consumers.{count_from_yields_List, YieldsList-from_filter}
use Rattle.seq.proofs.Lists.{length-filter_tally}
use Rattle.strings.specs.Strings.{is_marked}
use Rattle.strings.proofs.marked.Goals as goal

pub returns-clause-means : goal.returns-clause-means
returns-clause-means c =
    let t = c.args.t.now in
    let n = count_from_yields_List c.filter.result c.count.result c.count.ensures.ran
    (YieldsList-from_filter _ is_marked (YieldsList-from_slice t cc) c.filter.ensures.closure (λ x b q k. search (rules, tests))) in
    n ∙ length-filter_tally is_marked t
