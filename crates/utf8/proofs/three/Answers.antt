use native.Mathlib.Omega.{arith}
use mathlib.Core.Path.{sym}
use Rattle.utf8.proofs.Laws.{lead3a, lead3b, lead3c, lead3d}
use Rattle.utf8.proofs.three.Goals as goal

pub returns-then-b-lt225 : goal.returns-then-b-lt225
returns-then-b-lt225 c = sym (lead3a c.args.b c.requires.0 c.if-b-lt225.true)

pub returns-then-b-lt237 : goal.returns-then-b-lt237
returns-then-b-lt237 c = sym (lead3b c.args.b c.requires.0 c.if-b-lt225.false c.if-b-lt237.true)

pub returns-then-b-lt238 : goal.returns-then-b-lt238
returns-then-b-lt238 c = sym (lead3c c.args.b c.requires.0 c.if-b-lt237.false c.if-b-lt238.true)

pub returns : goal.returns
returns c =
    let pre = c.requires in
    sym (lead3d c.args.b pre.0 (omega arith) pre.1)
