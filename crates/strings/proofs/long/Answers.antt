use mathlib.Core.Path.{sym, ◌∙◌}
use native.Mathlib.Omega.{arith}
use Rattle.strings.proofs.Laws.{low-bounds, escape-below, escape-above, escape-pair, escape-lone}
use Rattle.strings.proofs.long.Goals as goal

pub returns-then-high-lt55296 : goal.returns-then-high-lt55296
returns-then-high-lt55296 c = record {
  means = sym (escape-below _ c.requires _ c.unit-high.ensures.means c.if-high-lt55296.true);
  small = omega arith;
}

pub returns-then-high-gt56319 : goal.returns-then-high-gt56319
returns-then-high-gt56319 c = record {
  means = sym (escape-above _ c.requires _ c.unit-high.ensures.means (omega arith));
  small = omega arith;
}

pub overflow_sub-result-then-low_follows : goal.overflow_sub-result-then-low_follows
overflow_sub-result-then-low_follows c = let h = low-bounds _ (sym c.low_follows.ensures ∙ c.if-low_follows.true) in let e = c.unit-low.ensures.means in omega arith

pub returns-then-low_follows : goal.returns-then-low_follows
returns-then-low_follows c =
    let pre = c.requires in
    let unit = c.unit-high in
    let if1 = c.if-high-lt55296 in
    let low = sym c.low_follows.ensures ∙ c.if-low_follows.true in
    let h = low-bounds _ low in
    let e = c.unit-low.ensures.means in record {
      means = sym (escape-pair _ pre _ unit.ensures.means if1.false c.if-high-gt56319.false _ e low);
      small = omega arith;
    }

pub returns : goal.returns
returns c =
    let pre = c.requires in
    let unit = c.unit-high in
    let if1 = c.if-high-lt55296 in
    let none = sym c.low_follows.ensures ∙ c.if-low_follows.false in record {
      means = sym (escape-lone _ pre _ unit.ensures.means if1.false c.if-high-gt56319.false none);
      small = omega arith;
    }
