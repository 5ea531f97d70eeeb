use mathlib.Core.Path.{refl, ◌∙◌}
use native.Mathlib.Omega.{arith}
use Rattle.uri.specs.Uri.{longest}
use Rattle.seq.proofs.Loops.{filled_more}
use Rattle.state.proofs.Laws.{cut_low, cut-short, filled-cut}
use borrow.Author.Rules.{rules}
use Rattle.state.proofs.padded.Goals as goal

pub loop-i-init : goal.loop-i-init
loop-i-init c = refl

pub bounds-text-i : goal.bounds-text-i
bounds-text-i c =
    let cut = c.cut-n in
    let args = c.args in
    omega (arith, cut.ensures, cut-short args.text.now)

pub bounds-bytes-i : goal.bounds-bytes-i
bounds-bytes-i c =
    let args = c.args in
    let cut = c.cut-n in
    let k = cut_low args.text.now in let e = cut.ensures in search rules

pub loop-i-preserved : goal.loop-i-preserved
loop-i-preserved c =
    let t = c.args.text.now in
    let i = c.loop-i.i in
    let k = cut_low t in
    let s = cut-short t in
    let e = c.cut-n.ensures in
    rw c.loop-i.invariant (filled_more longest 0 0 t i (omega arith) (omega arith))

pub returns : goal.returns
returns c =
    let e = c.cut-n.ensures in
    c.loop-i.invariant ∙ filled-cut c.args.text.now c.loop-i.i (omega arith)
