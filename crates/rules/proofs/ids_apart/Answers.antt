use mathlib.Core.Bool.{not}
use mathlib.Core.Path.{sym, ap, ◌∙◌}
use Rattle.rules.proofs.Laws.{ids-other, ids-same}
use Rattle.rules.proofs.ids_apart.Goals as goal

pub returns-then-s-t : goal.returns-then-s-t
returns-then-s-t c = sym (ids-other c.args.s c.args.t c.if-s-t.true)

pub returns-then-is_open : goal.returns-then-is_open
returns-then-is_open c =
    let args = c.args in
    let if1 = c.if-s-t in
    let is-open = c.is_open in
    rw (ids-same args.s args.t if1.false, sym is-open.ensures ∙ c.if-is_open.true) (ap not c.is_open-then-is_open.ensures)

pub returns : goal.returns
returns c =
    let args = c.args in
    let if1 = c.if-s-t in
    rw (ids-same args.s args.t if1.false, sym c.is_open.ensures ∙ c.if-is_open.false)
