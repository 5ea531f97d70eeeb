use Rattle.image.proofs.Laws.{row_at, part-size, row-length, rows_pass, rows-fail}
use Prim.Native.Nat.{◌*◌}
use mathlib.Core.Path.{◌≡◌, refl, sym, ap, ◌∙◌}
use native.Mathlib.Omega.{arith}
use Rattle.seq.specs.Lists.{every}
use Rattle.image.specs.Image.{cut, row_formed}
use Rattle.image.proofs.Laws.{rows_pass, rows-fail}
use Rattle.image.proofs.rows_formed.Goals as goal

pub loop-i-init : goal.loop-i-init
unfolding every cut
loop-i-init c = refl

pub row_formed-requires : goal.row_formed-requires
row_formed-requires c =
    rw (part-size (c.loop-i.i * 139) 139) (row-length 139 c.loop-i.i c.args.s.now (omega arith))

pub returns-then-not-row_formed : goal.returns-then-not-row_formed
returns-then-not-row_formed c =
    let s = c.args.s.now in
    let i = c.loop-i.i in
    let r : c.row_formed.result ≡ row_formed c.args.kind (row_at 139 i s) =
    rw (part-size (i * 139) 139) at c.row_formed.ensures in
    sym (rows-fail (row_formed c.args.kind) 139 s i c.loop-i.invariant 32 (omega arith) (sym r ∙ c.if-not-row_formed.true))

pub loop-i-preserved : goal.loop-i-preserved
loop-i-preserved c =
    let s = c.args.s.now in
    let i = c.loop-i.i in
    let r : c.row_formed.result ≡ row_formed c.args.kind (row_at 139 i s) =
    rw (part-size (i * 139) 139) at c.row_formed.ensures in
    rows_pass (row_formed c.args.kind) 139 s i c.loop-i.invariant (sym r ∙ c.if-not-row_formed.false)

pub returns : goal.returns
returns c =
    let e : c.loop-i.i ≡ 32 = omega arith in
    sym (ap (λ n. every (row_formed c.args.kind) (cut 139 n c.args.s.now)) (sym e) ∙ c.loop-i.invariant)
