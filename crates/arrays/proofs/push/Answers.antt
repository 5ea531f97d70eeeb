use native.Mathlib.Omega.{arith}
use Rattle.arrays.proofs.Laws.{kind-small}
use Rattle.arrays.proofs.push.Goals as goal

pub with_kind-requires : goal.with_kind-requires
with_kind-requires c = (c.requires.0, c.requires.1, omega (arith, c.kind.ensures, kind-small c.text.result.now))

pub returns : goal.returns
returns c = rw (c.with_kind.ensures, c.kind.ensures, c.text.ensures)
