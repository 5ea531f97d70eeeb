use mathlib.Core.Path.{sym, ◌∙◌}
use borrow.Author.Tests.{eq-eqb, ne_eqb}
use Rattle.seq.specs.Bytes.{byte_at}
use Rattle.pattern.specs.Match.{fits_text}
use Rattle.settings.specs.Settings.{fits}
use Rattle.settings.specs.Lent.{rule_of}
use Rattle.settings.proofs.rule_fits.Goals as goal

pub returns-then-size-slot : goal.returns-then-size-slot
unfolding fits rule_of
returns-then-size-slot c =
    let args = c.args in
    rw (ne_eqb (byte_at args.b.now 0) args.slot (λ e. c.if-size-slot.true (c.size.ensures ∙ (c.byte.ensures ∙ e))))

pub returns-then-byte-action : goal.returns-then-byte-action
unfolding fits rule_of
returns-then-byte-action c =
    let args = c.args in
    rw (
      eq-eqb (byte_at args.b.now 0) args.slot
          (sym (c.size.ensures ∙ c.byte.ensures) ∙ c.if-size-slot.false),
      ne_eqb (byte_at args.b.now 1) args.action (λ e. c.if-byte-action.true (c.byte-2.ensures ∙ e)),
    )

pub returns : goal.returns
unfolding fits rule_of fits_text
returns c =
    let args = c.args in
    rw (
      eq-eqb (byte_at args.b.now 0) args.slot
          (sym (c.size.ensures ∙ c.byte.ensures)
          ∙ c.if-size-slot.false),
      eq-eqb (byte_at args.b.now 1) args.action (sym c.byte-2.ensures ∙ c.if-byte-action.false),
      c.begins.ensures,
      c.prefix.ensures,
    )
