use mathlib.Core.Path.{sym, ◌∙◌}
use native.Mathlib.Omega.{arith}
use Rattle.json_text.proofs.Laws.{at_long, at-short, value-flat}
use Rattle.json_text.proofs.value.Goals as goal

pub returns-then-s-gt-MAX_BYTES : goal.returns-then-s-gt-MAX_BYTES
returns-then-s-gt-MAX_BYTES c =
    let args = c.args in record {
      means = sym (at_long args.depth args.s.now args.at c.if-s-gt-MAX_BYTES.true);
      within = tt;
    }

pub braced-requires : goal.braced-requires
braced-requires c =
    (omega (arith, c.if-s-gt-MAX_BYTES.false), sym c.byte.ensures ∙ c.in-123.is)

pub returns-in-91 : goal.returns-in-91
returns-in-91 c =
    let args = c.args in
    let short = at-short args.depth args.s.now args.at c.if-s-gt-MAX_BYTES.false in record {
      means = c.nested.ensures.means ∙ sym short;
      within = c.nested.ensures.within;
    }

pub returns-in-123 : goal.returns-in-123
returns-in-123 c =
    let args = c.args in
    let short = at-short args.depth args.s.now args.at c.if-s-gt-MAX_BYTES.false in record {
      means = c.braced.ensures.means ∙ sym short;
      within = c.braced.ensures.within;
    }

pub returns-in_default : goal.returns-in_default
returns-in_default c =
    let args = c.args in
    let short = at-short args.depth args.s.now args.at c.if-s-gt-MAX_BYTES.false in
    let flat = value-flat args.depth args.s.now args.at _ c.byte.ensures (λ e. omega arith) (λ e. omega arith) in record {
      means = c.scalar.ensures.means ∙ sym flat ∙ sym short;
      within = c.scalar.ensures.within;
    }
