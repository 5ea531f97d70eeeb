use Prim.Native.Nat.{◌*◌}
use mathlib.Core.Path.{◌≡◌, refl, ◌∙◌}
use mathlib.Core.List.{append-nil}
use native.Mathlib.Omega.{arith}
use Rattle.image.specs.Image.{cut, session_of}
use Rattle.image.proofs.Laws.{part-size, row-length, rows_more}
use Rattle.image.proofs.load_sessions.Goals as goal

pub loop-i-init : goal.loop-i-init
unfolding cut
loop-i-init c = refl

pub load_session-requires : goal.load_session-requires
load_session-requires c =
    rw (part-size (c.loop-i.i * 25) 25) (let e = row-length 25 c.loop-i.i c.args.s.now (omega arith) in omega arith)

pub loop-i-preserved : goal.loop-i-preserved
loop-i-preserved c =
    let i = c.loop-i.i in
    rw (c.load_session.ensures, c.loop-i.invariant, part-size (i * 25) 25) (rows_more session_of 25 c.args.s.now 8 i _ (omega arith))

pub returns : goal.returns
returns c =
    let e : c.loop-i.i ≡ 8 = omega arith in
    c.loop-i.invariant ∙ rw e (append-nil _)
