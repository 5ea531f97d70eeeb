use mathlib.Core.List.{map}
use mathlib.Core.Path.{◌≡◌, refl, ap, ◌∙◌}
use native.Mathlib.Omega.{arith}
use lib.ListN.{length, length-map}
use Rattle.seq.proofs.Lists.{length-mapped}
use Rattle.seq.proofs.Loops.{filled-by, filled-all}
use Rattle.outgoing.specs.Layout.{formats_of}
use Rattle.state.specs.Change.{is_packed}
use Rattle.state.proofs.Laws.{packed-formats}
use borrow.Author.Rules.{rules}
use Rattle.state.proofs.packed.Goals as goal

pub loop-i-init : goal.loop-i-init
loop-i-init c = refl

pub loop-i-preserved : goal.loop-i-preserved
loop-i-preserved c =
    let args = c.args in
    let loop = c.loop-i in
    let xs = args.sessions in
    let l : length xs ≡ 8 = search (rules, length-mapped) in
    rw (c.is_packed.ensures, loop.invariant) (filled-by is_packed 8 _ _ xs loop.i (omega arith) (omega arith))

pub returns : goal.returns
returns c =
    let args = c.args in
    let xs = args.sessions in
    let l : length xs ≡ 8 = search (rules, length-mapped) in
    ap formats_of (c.loop-i.invariant ∙ filled-all 8 _ (map is_packed xs) c.loop-i.i (simp length-map l) (omega arith))
    ∙ packed-formats xs
