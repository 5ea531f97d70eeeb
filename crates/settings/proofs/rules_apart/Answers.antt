use mathlib.Core.Path.{sym, ◌∙◌}
use borrow.Author.Tests.{eq-eqb, ne_eqb}
use Rattle.seq.specs.Bytes.{byte_at}
use Rattle.settings.specs.Settings.{rules_apart}
use Rattle.settings.specs.Lent.{rule_of}
use Rattle.settings.proofs.rules_apart.Goals as goal

pub returns-then-byte : goal.returns-then-byte
unfolding rules_apart rule_of
returns-then-byte c =
    let args = c.args in
    rw (ne_eqb (byte_at args.a.now 0) (byte_at args.b.now 0) (λ e. c.if-byte.true (c.byte.ensures ∙ e ∙ sym c.byte-2.ensures)))

pub returns-then-byte-2 : goal.returns-then-byte-2
unfolding rules_apart rule_of
returns-then-byte-2 c =
    let args = c.args in
    rw (
      eq-eqb (byte_at args.a.now 0) (byte_at args.b.now 0) (sym c.byte.ensures ∙ c.if-byte.false ∙ c.byte-2.ensures),
      ne_eqb (byte_at args.a.now 1) (byte_at args.b.now 1) (λ e. c.if-byte-2.true (c.byte-3.ensures ∙ e ∙ sym c.byte-4.ensures)),
    )

pub returns : goal.returns
unfolding rules_apart rule_of
returns c =
    let args = c.args in
    rw (
      eq-eqb (byte_at args.a.now 0) (byte_at args.b.now 0) (sym c.byte.ensures ∙ c.if-byte.false ∙ c.byte-2.ensures),
      eq-eqb (byte_at args.a.now 1) (byte_at args.b.now 1) (sym c.byte-3.ensures ∙ c.if-byte-2.false ∙ c.byte-4.ensures),
      c.same_bytes.ensures,
      c.prefix-2.ensures,
      c.prefix.ensures,
    )
