use mathlib.Core.Path.{sym, ◌∙◌}
use native.Mathlib.Omega.{arith}
use Rattle.writing.proofs.Escaped.{letter-marked, letter-other}
use Rattle.buffer.proofs.Wrote.{told, tells, wrote, wrote-both}
use Rattle.writing.proofs.put_char.Goals as goal

pub returns-then-not-is_marked : goal.returns-then-not-is_marked
returns-then-not-is_marked c =
    let other = sym c.is_marked.ensures ∙ c.if-not-is_marked.true in
    tells (wrote (letter-other _ other) (told _ _ _ c.put_byte.ensures))

pub shape_of-out : goal.shape_of-out
shape_of-out c = omega (arith, c.put_byte-o.auto, c.put_byte-2.auto)

pub returns : goal.returns
returns c =
    let marked = sym c.is_marked.ensures ∙ c.if-not-is_marked.false in
    tells
    (wrote-both (letter-marked _ marked) (omega arith) (told _ _ _ c.put_byte-o.ensures)
    (told _ _ _ c.put_byte-2.ensures))
