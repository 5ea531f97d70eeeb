use mathlib.Core.Path.{◌≡◌, sym, ap, ◌∙◌}
use native.Mathlib.Omega.{arith}
use borrow.Author.Tests.{le-leb, lt-leb}
use lib.Dec.{leb}
use Rattle.seq.specs.Lists.{every}
use Rattle.seq.specs.Numbers.{last_id}
use Rattle.image.specs.Image.{held, table_in}
use Rattle.rules.specs.ByTable.{row_lawful, table_lawful}
use Rattle.rules.proofs.table_lawful.Goals as goal

pub returns-then-counter-gt-LAST_ID : goal.returns-then-counter-gt-LAST_ID
unfolding table_lawful
returns-then-counter-gt-LAST_ID c = rw (ap (λ n. leb n last_id) (sym c.counter-counter.ensures) ∙ lt-leb _ last_id c.if-counter-gt-LAST_ID.true)

pub returns-then-not-each_row : goal.returns-then-not-each_row
unfolding table_lawful
returns-then-not-each_row c =
    let args = c.args in
    let counter = c.counter-counter in
    let t = table_in args.kind (held args.state.now) in
    let e : c.each_row.result ≡ every (row_lawful args.sessions t.counter args.kind) t.rows =
    c.each_row.ensures ∙ rw counter.ensures in
    rw (ap (λ n. leb n last_id) (sym counter.ensures) ∙ le-leb counter.result last_id (omega arith), sym e ∙ c.if-not-each_row.true)

pub returns : goal.returns
unfolding table_lawful
returns c =
    let args = c.args in
    let counter = c.counter-counter in
    let each_row = c.each_row in
    let t = table_in args.kind (held args.state.now) in
    let e : each_row.result ≡ every (row_lawful args.sessions t.counter args.kind) t.rows =
    each_row.ensures ∙ rw counter.ensures in
    rw (ap (λ n. leb n last_id) (sym counter.ensures) ∙ le-leb counter.result last_id (omega arith), sym e ∙ c.if-not-each_row.false) c.row_pairs.ensures
