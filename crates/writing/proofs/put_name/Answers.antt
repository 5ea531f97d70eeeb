use mathlib.Core.Path.{refl, sym, ◌∙◌}
use native.Mathlib.Omega.{arith}
use Rattle.seq.proofs.Joined.{joined-all}
use Rattle.strings.proofs.Written.{escaped-plain}
use Rattle.writing.proofs.Escaped.{letter, letters}
use Rattle.buffer.proofs.Wrote.{told, tells, wrote, wrote_none, wrote-turn}
use Rattle.writing.proofs.put_name.Goals as goal

pub returns-then-marked-eq0 : goal.returns-then-marked-eq0
returns-then-marked-eq0 c =
    let none = sym c.marked.ensures.means ∙ c.if-marked-eq0.true in
    tells (wrote (sym (escaped-plain _ none)) (told _ _ _ c.put_bytes.ensures))

pub loop-b-init : goal.loop-b-init
loop-b-init c = (wrote_none _ _ (omega arith), refl)

pub loop-b-preserved : goal.loop-b-preserved
loop-b-preserved c =
    let x = c.args in
    let l = c.loop-b in
    let put-char = c.put_char-o in (
      wrote-turn letter 0 x.text.now l.b-index (omega arith) (omega arith) l.invariant.0 (told _ _ _ put-char.ensures),
      omega (arith, put-char.auto, l.invariant.1),
    )

pub returns : goal.returns
returns c =
    let x = c.args in
    let l = c.loop-b in
    tells (wrote (joined-all letter x.text.now l.b-index (omega arith) ∙ letters x.text.now) l.invariant.0)
