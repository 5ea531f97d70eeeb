use Prim.Native.Nat.{◌*◌}
use mathlib.Core.Path.{◌≡◌, refl, ◌∙◌}
use mathlib.Core.List.{append-nil}
use native.Mathlib.Omega.{arith}
use Rattle.image.specs.Image.{cut, call_of}
use Rattle.image.proofs.Laws.{part-size, row-length, rows_more}
use Rattle.image.proofs.load_calls.Goals as goal

pub loop-i-init : goal.loop-i-init
unfolding cut
loop-i-init c = refl

pub load_call-requires : goal.load_call-requires
load_call-requires c =
    rw (part-size (c.loop-i.i * 18) 18) (let e = row-length 18 c.loop-i.i c.args.s.now (omega arith) in omega arith)

pub loop-i-preserved : goal.loop-i-preserved
loop-i-preserved c =
    let i = c.loop-i.i in
    rw (c.load_call.ensures, c.loop-i.invariant, part-size (i * 18) 18) (rows_more call_of 18 c.args.s.now 32 i _ (omega arith))

pub returns : goal.returns
returns c =
    let e : c.loop-i.i ≡ 32 = omega arith in
    c.loop-i.invariant ∙ rw e (append-nil _)
