use mathlib.Core.Bool.{true, false}
use mathlib.Core.Path.{◌≡◌, refl, sym, ap, ◌∙◌}
use Rattle.contents.specs.Contents.{body_of}
use Rattle.settings_file.specs.File.{realm_kind, rules_kind, whole_rules, realm_fits, wrong_length}
use Rattle.settings_file.proofs.is_misfit.Goals as goal

pub returns-then-not-realm_fits : goal.returns-then-not-realm_fits
unfolding wrong_length
returns-then-not-realm_fits c =
    let file = c.args.file.now in
    let a : realm_fits (body_of realm_kind file) ≡ false =
    ap realm_fits (sym c.body.ensures) ∙ sym c.realm_fits.ensures ∙ c.if-not-realm_fits.true in
    rw a refl

pub returns-then-not-is_whole : goal.returns-then-not-is_whole
unfolding wrong_length
returns-then-not-is_whole c =
    let file = c.args.file.now in
    let a : realm_fits (body_of realm_kind file) ≡ true =
    ap realm_fits (sym c.body.ensures) ∙ sym c.realm_fits.ensures ∙ c.if-not-realm_fits.false in
    let b : whole_rules (body_of rules_kind file) ≡ false =
    ap whole_rules (sym c.body-2.ensures) ∙ sym c.is_whole.ensures ∙ c.if-not-is_whole.true in
    rw (a, b) refl

pub returns : goal.returns
unfolding wrong_length
returns c =
    let file = c.args.file.now in
    let a : realm_fits (body_of realm_kind file) ≡ true =
    ap realm_fits (sym c.body.ensures) ∙ sym c.realm_fits.ensures ∙ c.if-not-realm_fits.false in
    let b : whole_rules (body_of rules_kind file) ≡ true =
    ap whole_rules (sym c.body-2.ensures) ∙ sym c.is_whole.ensures ∙ c.if-not-is_whole.false in
    rw (a, b, c.wait_fits.ensures) refl
