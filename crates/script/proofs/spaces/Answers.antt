use Rattle.std.proofs.Common.{rules, tests, ◌≡◌, ◌∙◌, ap, drop, ◌+◌}
use mathlib.Core.Path.{sym}
use Rattle.std.proofs.lemmas.Iterator.{YieldsList-from_slice}
use Rattle.std.proofs.lemmas.Iterator.Consumers.{count_from_yields_List}
use Rattle.std.proofs.lemmas.Iterator.Search.{YieldsList-from_take_while}
use Rattle.std.proofs.lemmas.List.Folds.{length-prefix_len}
use Rattle.seq.specs.Bytes.{is}
use Rattle.lex.specs.Lex.{past}
use Rattle.lex.proofs.Laws.{run-prefix}
use Rattle.script.proofs.spaces.Goals as goal

pub returns : goal.returns
unfolding past
returns c =
    let s = drop c.args.at c.args.s.now in
    let n = count_from_yields_List c.take_while.result c.count.result c.count.ensures.ran
    (YieldsList-from_take_while _ (is " ") (YieldsList-from_slice s cc) c.take_while.ensures.closure c.take_while.ensures.done
    (λ x b q k. search (rules, tests))) in
    ap (λ m. c.args.at + m) (n ∙ length-prefix_len (is " ") s ∙ sym (run-prefix (is " ") s))
