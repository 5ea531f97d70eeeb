use mathlib.Core.Path.{sym, ◌∙◌}
use borrow.Author.Tests.{eq-eqb, ne_eqb, le-leb, lt-leb}
use Rattle.uri.specs.Uri.{longest, valid_text}
use Rattle.uri.proofs.valid.Goals as goal

pub returns-then-text-eq0 : goal.returns-then-text-eq0
unfolding valid_text
returns-then-text-eq0 c = rw (eq-eqb _ _ c.if-text-eq0.true)

pub returns-then-text-gt-LONGEST : goal.returns-then-text-gt-LONGEST
unfolding valid_text
returns-then-text-gt-LONGEST c = rw (ne_eqb _ _ c.if-text-eq0.false, lt-leb _ longest c.if-text-gt-LONGEST.true)

pub returns-then-not-all_clean : goal.returns-then-not-all_clean
unfolding valid_text
returns-then-not-all_clean c =
    let if1 = c.if-text-eq0 in
    let if2 = c.if-text-gt-LONGEST in
    let all-clean = c.all_clean in
    rw (ne_eqb _ _ if1.false, le-leb _ _ if2.false, sym all-clean.ensures ∙ c.if-not-all_clean.true)

pub returns : goal.returns
unfolding valid_text
returns c =
    let if1 = c.if-text-eq0 in
    let if2 = c.if-text-gt-LONGEST in
    let all-clean = c.all_clean in
    rw (
      ne_eqb _ _ if1.false,
      le-leb _ _ if2.false,
      sym all-clean.ensures ∙ c.if-not-all_clean.false,
      c.components_filled.ensures,
    )
