use mathlib.Core.List.{map}
use mathlib.Core.Path.{◌≡◌, refl, ◌∙◌}
use native.Mathlib.Omega.{arith}
use lib.ListN.{length, length-map}
use Rattle.seq.proofs.Loops.{filled-by, filled-all}
use Rattle.image.specs.Image.{held, table_in}
use Rattle.rules.specs.Mark.{row_number}
use Rattle.rules.proofs.Laws.{rows-length}
use Rattle.rules.proofs.numbers.Goals as goal

pub loop-i-init : goal.loop-i-init
loop-i-init c = refl

pub loop-i-preserved : goal.loop-i-preserved
loop-i-preserved c =
    let args = c.args in
    let loop = c.loop-i in
    let xs = (table_in args.kind (held args.state.now)).rows in
    let l : length xs ≡ 32 = rows-length args.kind args.state.now in
    rw (c.number.ensures, loop.invariant) (filled-by row_number 32 0 _ xs loop.i (omega arith) (omega arith))

pub returns : goal.returns
returns c =
    let args = c.args in
    let xs = (table_in args.kind (held args.state.now)).rows in
    let l : length xs ≡ 32 = rows-length args.kind args.state.now in
    c.loop-i.invariant ∙ filled-all 32 0 (map row_number xs) c.loop-i.i (simp length-map l) (omega arith)
