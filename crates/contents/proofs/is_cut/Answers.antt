use mathlib.Core.Path.{sym, ap, ◌∙◌}
use mathlib.Core.Bool.{not}
use native.Mathlib.Omega.{arith}
use Rattle.contents.proofs.Laws.{cut-page, cut-rest}
use Rattle.contents.proofs.is_cut.Goals as goal

pub overflow_mul-count : goal.overflow_mul-count
overflow_mul-count c = omega (arith, c.count.ensures.upper_bound)

pub overflow_add-count : goal.overflow_add-count
overflow_add-count c = omega (arith, c.count.ensures.upper_bound)

pub returns-then-file-count : goal.returns-then-file-count
returns-then-file-count c = let s = c.args.file.now in sym (cut-page s (omega (arith, c.count.ensures.value)))

pub returns : goal.returns
returns c =
    let s = c.args.file.now in
    sym (cut-rest s (omega (arith, c.count.ensures.value)) ∙ ap not (sym c.all_inside.ensures))
