use mathlib.Core.Path.{sym}
use native.Mathlib.Omega.{arith}
use Rattle.strings.proofs.Laws.{digit-below, digit-ten, digit-between, digit-upper, digit-behind, digit-lower, digit-past}
use Rattle.strings.proofs.digit.Goals as goal

pub returns-in-48-to-57 : goal.returns-in-48-to-57
returns-in-48-to-57 c = record {
  means = sym (digit-ten _ c.in-48-to-57.if-b-lt48-own.false c.in-48-to-57.if-b-lt58-own.true);
  small = omega arith;
}

pub returns-in-65-to-70 : goal.returns-in-65-to-70
returns-in-65-to-70 c = record {
  means = sym (digit-upper _ c.in-65-to-70.if-b-lt65-own.false c.in-65-to-70.if-b-lt71-own.true);
  small = omega arith;
}

pub returns-in-97-to-102 : goal.returns-in-97-to-102
returns-in-97-to-102 c = record {
  means = sym (digit-lower _ c.in-97-to-102.if-b-lt97-own.false c.in-97-to-102.if-b-lt103-own.true);
  small = omega arith;
}

pub returns-in_default : goal.returns-in_default
returns-in_default c = record {
  means = sym (digit-below _ c.in_default.if-b-lt48-own.true);
  small = omega arith;
}

pub returns-in_default-2 : goal.returns-in_default-2
returns-in_default-2 c = record {
  means = sym (digit-between _ c.in_default.if-b-lt58-own.false c.in_default.if-b-lt65-own.true);
  small = omega arith;
}

pub returns-in_default-3 : goal.returns-in_default-3
returns-in_default-3 c = record {
  means = sym (digit-behind _ c.in_default.if-b-lt71-own.false c.in_default.if-b-lt97-own.true);
  small = omega arith;
}

pub returns-in_default-4 : goal.returns-in_default-4
returns-in_default-4 c = record {
  means = sym (digit-past _ c.in_default.if-b-lt103-own.false);
  small = omega arith;
}
