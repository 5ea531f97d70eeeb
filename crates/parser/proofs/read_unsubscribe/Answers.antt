use mathlib.Core.Path.{sym}
use Rattle.incoming.specs.Read.{release}
use Rattle.parser.proofs.Laws.{cond_yes, cond_no}
use Rattle.parser.proofs.read_unsubscribe.Goals as goal

pub returns-then-kinds-ne-RELEASE_SHAPE : goal.returns-then-kinds-ne-RELEASE_SHAPE
unfolding release
returns-then-kinds-ne-RELEASE_SHAPE c = sym (cond_no _ 111 _ _ c.if-kinds-ne-RELEASE_SHAPE.true)

pub returns : goal.returns
unfolding release
returns c =
    let if1 = c.if-kinds-ne-RELEASE_SHAPE in
    rw (c.plain.ensures, c.id.ensures, c.id-2.ensures) (sym (cond_yes _ 111 _ _ if1.false))
