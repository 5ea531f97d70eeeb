use mathlib.Core.Path.{sym}
use native.Mathlib.Omega.{arith}
use Rattle.strings.proofs.Laws.{unit-is}
use Rattle.strings.proofs.unit.Goals as goal

pub returns : goal.returns
returns c =
    let byte = c.byte in
    let digit = c.digit-a in
    let byte2 = c.byte-2 in
    let digit2 = c.digit-b in record {
      means = sym (unit-is _ _ _ _ _ _ _ _ _ _ byte.ensures byte2.ensures c.byte-3.ensures c.byte-4.ensures
          digit.ensures.means digit2.ensures.means c.digit-c.ensures.means c.digit-d.ensures.means);
      small = omega arith;
    }
