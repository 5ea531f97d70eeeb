use mathlib.Core.Path.{sym}
use native.Mathlib.Omega.{arith}
use Rattle.strings.proofs.Laws.{escape-short}
use Rattle.strings.proofs.escape.Goals as goal

pub returns : goal.returns
returns c = record {
  means = sym (escape-short _ _ c.byte-b.ensures c.if-b-eq117.false _ c.short.ensures.means);
  small = omega arith;
}
