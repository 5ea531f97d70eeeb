use mathlib.Core.Path.{sym}
use native.Mathlib.Omega.{arith}
use Rattle.strings.proofs.Laws.{encoding-one, encoding-two, encoding-three, encoding-four}
use Rattle.strings.proofs.encode.Goals as goal

pub returns-then-n-lt128 : goal.returns-then-n-lt128
returns-then-n-lt128 c = record {
  means = sym (encoding-one _ c.if-n-lt128.true);
  small = omega arith;
}

pub returns-then-n-lt2048 : goal.returns-then-n-lt2048
returns-then-n-lt2048 c = record {
  means = sym (encoding-two _ c.if-n-lt128.false c.if-n-lt2048.true _ c.tail.ensures);
  small = omega arith;
}

pub returns-then-n-lt65536 : goal.returns-then-n-lt65536
returns-then-n-lt65536 c =
    let if2 = c.if-n-lt2048 in record {
      means = sym (encoding-three _ if2.false c.if-n-lt65536.true _ _ c.tail-then-n-lt65536.ensures c.tail-then-n-lt65536-2.ensures);
      small = omega arith;
    }

pub returns : goal.returns
returns c =
    let if3 = c.if-n-lt65536 in
    let tail4 = c.tail-2 in record {
      means = sym (encoding-four _ if3.false _ _ _ tail4.ensures c.tail-3.ensures c.tail-4.ensures);
      small = omega arith;
    }
