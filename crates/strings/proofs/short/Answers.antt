use mathlib.Core.Path.{sym}
use native.Mathlib.Omega.{arith}
use Rattle.strings.proofs.Laws.{short-b, short-f, short_n, short-r, short-t, short_none}
use Rattle.strings.proofs.short.Goals as goal

pub returns-in-98 : goal.returns-in-98
returns-in-98 c = record {
  means = sym (short-b _ c.in-98.is);
  small = omega arith;
}

pub returns-in-102 : goal.returns-in-102
returns-in-102 c = record {
  means = sym (short-f _ c.in-102.is);
  small = omega arith;
}

pub returns-in-110 : goal.returns-in-110
returns-in-110 c = record {
  means = sym (short_n _ c.in-110.is);
  small = omega arith;
}

pub returns-in-114 : goal.returns-in-114
returns-in-114 c = record {
  means = sym (short-r _ c.in-114.is);
  small = omega arith;
}

pub returns-in-116 : goal.returns-in-116
returns-in-116 c = record {
  means = sym (short-t _ c.in-116.is);
  small = omega arith;
}

pub returns-in_default : goal.returns-in_default
returns-in_default c =
    let n = c.in_default.in_default-own.rest in record {
      means = sym (short_none _ n.0.0.0.0.1 n.0.0.0.1 n.0.0.1 n.0.1 n.1);
      small = omega arith;
    }
