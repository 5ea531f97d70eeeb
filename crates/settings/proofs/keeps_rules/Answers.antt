use mathlib.Core.Path.{sym, ap, ◌∙◌}
use native.Mathlib.Omega.{arith}
use borrow.Author.Tests.{le-leb}
use lib.ListN.{length}
use Rattle.settings.specs.Settings.{most_rules, realm_good, wait_good, values_good, keeps_rules}
use Rattle.settings.specs.Lent.{settings_of}
use Rattle.settings.proofs.Laws.{used-most, rules-count}
use Rattle.settings.proofs.keeps_rules.Goals as goal

pub returns-then-not-each_apart : goal.returns-then-not-each_apart
unfolding keeps_rules
returns-then-not-each_apart c =
    let s = c.args.settings.now in
    rw (le-leb (length (settings_of s).rules) most_rules (omega (arith, rules-count s, used-most s)), sym c.each_apart.ensures ∙ c.if-not-each_apart.true)

pub returns-then-not-realm_good : goal.returns-then-not-realm_good
unfolding keeps_rules values_good
returns-then-not-realm_good c =
    let s = c.args.settings.now in
    let r = c.realm_good.ensures ∙ ap realm_good c.realm.ensures in
    rw (le-leb (length (settings_of s).rules) most_rules (omega (arith, rules-count s, used-most s)), sym c.each_apart.ensures ∙ c.if-not-each_apart.false, sym r ∙ c.if-not-realm_good.true)

pub returns-then-not-each_good : goal.returns-then-not-each_good
unfolding keeps_rules values_good
returns-then-not-each_good c =
    let s = c.args.settings.now in
    let r = c.realm_good.ensures ∙ ap realm_good c.realm.ensures in
    rw (
      le-leb (length (settings_of s).rules) most_rules (omega (arith, rules-count s, used-most s)),
      sym c.each_apart.ensures ∙ c.if-not-each_apart.false,
      sym r ∙ c.if-not-realm_good.false,
      sym c.each_good.ensures ∙ c.if-not-each_good.true,
    )

pub returns : goal.returns
unfolding keeps_rules values_good
returns c =
    let s = c.args.settings.now in
    let r = c.realm_good.ensures ∙ ap realm_good c.realm.ensures in
    rw (
      le-leb (length (settings_of s).rules) most_rules (omega (arith, rules-count s, used-most s)),
      sym c.each_apart.ensures ∙ c.if-not-each_apart.false,
      sym r ∙ c.if-not-realm_good.false,
      sym c.each_good.ensures ∙ c.if-not-each_good.false,
    )
    (c.wait_good.ensures ∙ ap wait_good c.wait.ensures)
