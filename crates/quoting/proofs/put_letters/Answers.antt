use mathlib.Core.Path.{refl}
use native.Mathlib.Omega.{arith}
use Rattle.seq.proofs.Joined.{joined-all}
use Rattle.values.specs.Write.{spelled}
use Rattle.buffer.proofs.Wrote.{told, tells, wrote, wrote_none, wrote-turn, wrote-length}
use Rattle.quoting.proofs.put_letters.Goals as goal

pub loop-b-init : goal.loop-b-init
loop-b-init c = (wrote_none _ _ (omega arith), refl)

pub loop-b-preserved : goal.loop-b-preserved
loop-b-preserved c =
    let l = c.loop-b in
    let t = c.args.text.now in
    let w = wrote-turn spelled 0 t l.b-index (omega arith) (omega arith) l.invariant.0 (told _ _ _ c.put_letter-q.ensures) in
    (w, wrote-length w)

pub returns : goal.returns
returns c =
    let l = c.loop-b in
    tells (wrote (joined-all spelled c.args.text.now l.b-index (omega arith)) l.invariant.0)
