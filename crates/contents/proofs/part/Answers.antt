use mathlib.Core.Path.{◌∙◌}
use native.Mathlib.Omega.{arith}
use Rattle.contents.proofs.Laws.{part-first, part-later, length-parts}
use Rattle.contents.proofs.part.Goals as goal

pub overflow_mul-result : goal.overflow_mul-result
overflow_mul-result c = omega (arith, c.count.ensures.upper_bound)

pub overflow_add-result : goal.overflow_add-result
overflow_add-result c = omega (arith, c.count.ensures.upper_bound)

pub returns-then-k-eq0 : goal.returns-then-k-eq0
returns-then-k-eq0 c =
    let args = c.args in record {
      value = rw c.if-k-eq0.true (part-first args.file.now _ c.count.ensures.value);
      narrow = omega (arith, c.count.ensures.upper_bound);
    }

pub section_at-requires : goal.section_at-requires
section_at-requires c = let s = c.args.file.now in omega (arith, length-parts s)

pub returns : goal.returns
returns c =
    let args = c.args in record {
      value = c.section_at.ensures.value ∙ part-later args.file.now args.k (omega arith);
      narrow = c.section_at.ensures.narrow;
    }
