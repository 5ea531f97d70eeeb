use Rattle.image.proofs.Laws.{row_at, row_first, rows_pass, rows-fail}
use mathlib.Core.Bool.{true, false}
use mathlib.Core.Path.{◌≡◌, refl, sym, ap, ◌∙◌}
use native.Mathlib.Omega.{arith}
use Rattle.seq.specs.Lists.{every}
use Rattle.image.specs.Image.{cut, session_formed}
use Rattle.image.proofs.sessions_formed.Goals as goal

pub loop-i-init : goal.loop-i-init
unfolding every cut
loop-i-init c = refl

pub returns-then-not-is_status : goal.returns-then-not-is_status
unfolding session_formed
returns-then-not-is_status c =
    let the-loop = c.loop-i in
    let s = c.args.s.now in
    let i = the-loop.i in
    let t : session_formed (row_at 25 i s) ≡ false = rw (row_first 25 i s (omega arith)) (sym c.is_status.ensures ∙ c.if-not-is_status.true) in
    sym (rows-fail session_formed 25 s i the-loop.invariant 8 (omega arith) t)

pub loop-i-preserved : goal.loop-i-preserved
unfolding session_formed
loop-i-preserved c =
    let the-loop = c.loop-i in
    let s = c.args.s.now in
    let i = the-loop.i in
    let t : session_formed (row_at 25 i s) ≡ true = rw (row_first 25 i s (omega arith)) (sym c.is_status.ensures ∙ c.if-not-is_status.false) in
    rows_pass session_formed 25 s i the-loop.invariant t

pub returns : goal.returns
returns c =
    let e : c.loop-i.i ≡ 8 = omega arith in
    sym (ap (λ n. every session_formed (cut 25 n c.args.s.now)) (sym e) ∙ c.loop-i.invariant)
