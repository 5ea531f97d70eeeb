use mathlib.Core.Bool.{true, false}
use mathlib.Core.Path.{◌≡◌, refl, sym, ap, ◌∙◌}
use Rattle.seq.specs.Lists.{every}
use Rattle.settings.specs.Settings.{realm_good, rule_good, values_good}
use Rattle.settings.specs.Lent.{text_in}
use Rattle.settings_file.specs.File.{rules_in, settings_in, outside_rule}
use Rattle.settings_file.proofs.is_outside.Goals as goal

pub returns-then-not-realm_good : goal.returns-then-not-realm_good
unfolding outside_rule values_good settings_in
returns-then-not-realm_good c =
    let file = c.args.file.now in
    let a : realm_good (settings_in file).realm ≡ false =
    ap (λ b. realm_good (text_in b)) (sym c.body.ensures) ∙ ap realm_good (sym c.text_in.ensures)
    ∙ sym c.realm_good.ensures ∙ c.if-not-realm_good.true in
    rw a refl

pub all_good-requires : goal.all_good-requires
all_good-requires c = c.requires.1

pub returns-then-not-all_good : goal.returns-then-not-all_good
unfolding outside_rule values_good settings_in
returns-then-not-all_good c =
    let file = c.args.file.now in
    let a : realm_good (settings_in file).realm ≡ true =
    ap (λ b. realm_good (text_in b)) (sym c.body.ensures) ∙ ap realm_good (sym c.text_in.ensures)
    ∙ sym c.realm_good.ensures ∙ c.if-not-realm_good.false in
    let b : every rule_good (settings_in file).rules ≡ false =
    ap (λ b. every rule_good (rules_in b)) (sym c.requires.0) ∙ sym c.all_good.ensures ∙ c.if-not-all_good.true in
    rw (a, b) refl

pub returns : goal.returns
unfolding outside_rule values_good settings_in
returns c =
    let file = c.args.file.now in
    let a : realm_good (settings_in file).realm ≡ true =
    ap (λ b. realm_good (text_in b)) (sym c.body.ensures) ∙ ap realm_good (sym c.text_in.ensures)
    ∙ sym c.realm_good.ensures ∙ c.if-not-realm_good.false in
    let b : every rule_good (settings_in file).rules ≡ true =
    ap (λ b. every rule_good (rules_in b)) (sym c.requires.0) ∙ sym c.all_good.ensures ∙ c.if-not-all_good.false in
    rw (a, b, c.wait_good.ensures, c.wait_in.ensures) refl
