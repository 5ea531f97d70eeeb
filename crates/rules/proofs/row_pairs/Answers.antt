use Prim.Native.Nat.{◌+◌, ◌<◌}
use mathlib.Core.Path.{◌≡◌, sym, ap, ◌∙◌}
use native.Mathlib.Omega.{arith}
use borrow.Author.Tests.{eq-eqb}
use lib.ListN.{length, get_or}
use Rattle.seq.proofs.Lists.{every-end}
use Rattle.seq.proofs.Loops.{pairs_start, pairs-fail, pairs-pass, pairs_next, pairs_end}
use Rattle.pattern.specs.Choice.{no_row}
use Rattle.model.specs.Rules.{rows_apart}
use Rattle.image.specs.Image.{held, table_in}
use Rattle.rules.specs.Mark.{mark, row_number}
use Rattle.rules.proofs.Laws.{unused-apart, noted-at, rows-length}
use Rattle.rules.proofs.row_pairs.Goals as goal

pub loop-i-init : goal.loop-i-init
loop-i-init c = pairs_start rows_apart no_row (table_in c.args.kind (held c.args.state.now)).rows

pub loop-i-preserved-then-numbers-i-eq0 : goal.loop-i-preserved-then-numbers-i-eq0
loop-i-preserved-then-numbers-i-eq0 c =
    let i = c.loop-i.i in
    let xs = (table_in c.args.kind (held c.args.state.now)).rows in
    let l : length xs ≡ 32 = rows-length c.args.kind c.args.state.now in
    let h : i < length xs = omega arith in
    let u = eq-eqb _ _ (sym (ap (λ t. get_or t i 0) c.numbers-numbers.ensures ∙ noted-at row_number xs i h) ∙ c.if-numbers-i-eq0.true) in
    c.loop-i.invariant ∙ pairs_next rows_apart no_row xs i (i + 1) (unused-apart _ u _)

pub rows_apart-requires : goal.rows_apart-requires
rows_apart-requires c =
    let numbers = c.numbers-numbers.ensures in
    let marks = c.marks-marks.ensures in
    let i = c.loop-i.i in
    let j = c.loop-j.j in
    let xs = (table_in c.args.kind (held c.args.state.now)).rows in
    let l : length xs ≡ 32 = rows-length c.args.kind c.args.state.now in
    let h : i < length xs = omega arith in
    let k : j < length xs = omega arith in (
      record {
        number_is = ap (λ t. get_or t i 0) numbers ∙ noted-at row_number xs i h;
        mark-is = ap (λ t. get_or t i 0) marks ∙ noted-at mark xs i h;
      },
      record {
        number_is = ap (λ t. get_or t j 0) numbers ∙ noted-at row_number xs j k;
        mark-is = ap (λ t. get_or t j 0) marks ∙ noted-at mark xs j k;
      },
    )

pub returns-then-not-rows_apart : goal.returns-then-not-rows_apart
returns-then-not-rows_apart c =
    let i = c.loop-i.i in
    let j = c.loop-j.j in
    let xs = (table_in c.args.kind (held c.args.state.now)).rows in
    let l : length xs ≡ 32 = rows-length c.args.kind c.args.state.now in
    let k : j < length xs = omega arith in
    sym (c.loop-j.invariant ∙ pairs-fail rows_apart no_row xs i j k (sym c.rows_apart.ensures ∙ c.if-not-rows_apart.true))

pub loop-j-preserved : goal.loop-j-preserved
loop-j-preserved c =
    let i = c.loop-i.i in
    let j = c.loop-j.j in
    let xs = (table_in c.args.kind (held c.args.state.now)).rows in
    let l : length xs ≡ 32 = rows-length c.args.kind c.args.state.now in
    let k : j < length xs = omega arith in
    c.loop-j.invariant ∙ pairs-pass rows_apart no_row xs i j k (sym c.rows_apart.ensures ∙ c.if-not-rows_apart.false)

pub loop-i-preserved : goal.loop-i-preserved
loop-i-preserved c =
    let j = c.loop-j.j in
    let xs = (table_in c.args.kind (held c.args.state.now)).rows in
    let l : length xs ≡ 32 = rows-length c.args.kind c.args.state.now in
    c.loop-j.invariant ∙ pairs_next rows_apart no_row xs c.loop-i.i j (every-end _ xs j (omega arith))

pub returns : goal.returns
returns c =
    let i = c.loop-i.i in
    let xs = (table_in c.args.kind (held c.args.state.now)).rows in
    let l : length xs ≡ 32 = rows-length c.args.kind c.args.state.now in
    sym (c.loop-i.invariant ∙ pairs_end rows_apart no_row xs i (i + 1) (omega arith) (omega arith))
