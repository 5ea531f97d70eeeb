use Rattle.std.proofs.Common.{rules, tests, ◌∙◌, ap, drop, ◌+◌}
use Rattle.std.proofs.lemmas.Iterator.{YieldsList-from_slice}
use Rattle.std.proofs.lemmas.Iterator.Consumers.{count_from_yields_List}
use Rattle.std.proofs.lemmas.Iterator.Search.{YieldsList-from_take_while}
use Rattle.std.proofs.lemmas.List.Folds.{length-prefix_len}
use mathlib.Core.Bool.{not}
use mathlib.Core.Path.{sym}
use Rattle.uri.specs.Uri.{is_dot, part_end}
use Rattle.uri.proofs.Laws.{length-first_part}
use Rattle.uri.proofs.part_end.Goals as goal

pub returns : goal.returns
unfolding part_end
returns c =
    let s = drop c.args.at c.args.text.now in
    let n = count_from_yields_List c.take_while.result c.count.result c.count.ensures.ran
    (YieldsList-from_take_while _ (λ b. not (is_dot b)) (YieldsList-from_slice s cc) c.take_while.ensures.closure c.take_while.ensures.done
    (λ x b q k. search (rules, tests))) in
    ap (λ m. c.args.at + m) (n ∙ length-prefix_len (λ b. not (is_dot b)) s ∙ sym (length-first_part is_dot s))
