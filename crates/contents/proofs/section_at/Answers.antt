use native.Mathlib.Omega.{arith}
use Rattle.contents.proofs.Laws.{section-is}
use Rattle.contents.proofs.section_at.Goals as goal

pub overflow_mul-at : goal.overflow_mul-at
overflow_mul-at c = omega (arith, c.shared_slice_known-1.given 1)

pub overflow_add-at : goal.overflow_add-at
overflow_add-at c = omega (arith, c.shared_slice_known-1.given 1)

pub overflow_add-at-2 : goal.overflow_add-at-2
overflow_add-at-2 c = omega (arith, c.shared_slice_known-1.given 1)

pub returns : goal.returns
returns c =
    let args = c.args in record {
      value = rw (c.section_of.ensures.value, c.text.ensures) (section-is args.file.now args.k c.requires);
      narrow = c.section_of.ensures.narrow;
    }
