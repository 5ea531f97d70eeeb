use mathlib.Core.Bool.{true, false}
use mathlib.Core.Path.{◌≡◌, refl, sym, ap, ◌∙◌}
use native.Mathlib.Omega.{arith}
use borrow.Author.Tests.{lt-ltb, le-ltb}
use lib.Dec.{ltb}
use lib.ListN.{length}
use Rattle.seq.specs.Lists.{pairwise}
use Rattle.contents.specs.Contents.{cut_short, overlaps, kinds_good}
use Rattle.settings.specs.Settings.{most_rules, rules_apart}
use Rattle.settings_file.specs.File.{kind_count, rules_in, settings_in, unknown_version, wrong_kinds, wrong_length, too_many_rules, rule_twice, outside_rule, judged}
use Rattle.settings_file.proofs.Tests.{whole-fits}
use Rattle.settings_file.proofs.judge.Goals as goal

pub returns-then-is_unknown : goal.returns-then-is_unknown
unfolding judged wrong_kinds too_many_rules rule_twice settings_in
returns-then-is_unknown c =
    let file = c.args.file.now in
    let v = c.args.reader in
    let t1 : unknown_version v file ≡ true = sym c.is_unknown.ensures ∙ c.if-is_unknown.true in
    rw t1 refl

pub returns-then-is_cut : goal.returns-then-is_cut
unfolding judged wrong_kinds too_many_rules rule_twice settings_in
returns-then-is_cut c =
    let file = c.args.file.now in
    let v = c.args.reader in
    let t1 : unknown_version v file ≡ false = sym c.is_unknown.ensures ∙ c.if-is_unknown.false in
    let t2 : cut_short file ≡ true = sym c.is_cut.ensures ∙ c.if-is_cut.true in
    rw (t1, t2) refl

pub returns-then-overlaps : goal.returns-then-overlaps
unfolding judged wrong_kinds too_many_rules rule_twice settings_in
returns-then-overlaps c =
    let file = c.args.file.now in
    let v = c.args.reader in
    let t1 : unknown_version v file ≡ false = sym c.is_unknown.ensures ∙ c.if-is_unknown.false in
    let t2 : cut_short file ≡ false = sym c.is_cut.ensures ∙ c.if-is_cut.false in
    let t3 : overlaps file ≡ true = sym c.overlaps.ensures ∙ c.if-overlaps.true in
    rw (t1, t2, t3) refl

pub returns-then-not-kinds_good : goal.returns-then-not-kinds_good
unfolding judged wrong_kinds too_many_rules rule_twice settings_in
returns-then-not-kinds_good c =
    let file = c.args.file.now in
    let v = c.args.reader in
    let t1 : unknown_version v file ≡ false = sym c.is_unknown.ensures ∙ c.if-is_unknown.false in
    let t2 : cut_short file ≡ false = sym c.is_cut.ensures ∙ c.if-is_cut.false in
    let t3 : overlaps file ≡ false = sym c.overlaps.ensures ∙ c.if-overlaps.false in
    let t4 : kinds_good (kind_count file) file ≡ false =
    ap (λ n. kinds_good n file) (sym c.kind_count.ensures) ∙ sym c.kinds_good.ensures ∙ c.if-not-kinds_good.true in
    rw (t1, t2, t3, t4) refl

pub returns-then-is_misfit : goal.returns-then-is_misfit
unfolding judged wrong_kinds too_many_rules rule_twice settings_in
returns-then-is_misfit c =
    let file = c.args.file.now in
    let v = c.args.reader in
    let t1 : unknown_version v file ≡ false = sym c.is_unknown.ensures ∙ c.if-is_unknown.false in
    let t2 : cut_short file ≡ false = sym c.is_cut.ensures ∙ c.if-is_cut.false in
    let t3 : overlaps file ≡ false = sym c.overlaps.ensures ∙ c.if-overlaps.false in
    let t4 : kinds_good (kind_count file) file ≡ true =
    ap (λ n. kinds_good n file) (sym c.kind_count.ensures) ∙ sym c.kinds_good.ensures ∙ c.if-not-kinds_good.false in
    let t5 : wrong_length file ≡ true = sym c.is_misfit.ensures ∙ c.if-is_misfit.true in
    rw (t1, t2, t3, t4, t5) refl

pub rule_count-requires : goal.rule_count-requires
rule_count-requires c =
    let file = c.args.file.now in
    let t5 : wrong_length file ≡ false = sym c.is_misfit.ensures ∙ c.if-is_misfit.false in
    rw c.body-rules.ensures (whole-fits file t5)

pub returns-then-rule_count-gt32 : goal.returns-then-rule_count-gt32
unfolding judged wrong_kinds too_many_rules rule_twice settings_in
returns-then-rule_count-gt32 c =
    let file = c.args.file.now in
    let v = c.args.reader in
    let t1 : unknown_version v file ≡ false = sym c.is_unknown.ensures ∙ c.if-is_unknown.false in
    let t2 : cut_short file ≡ false = sym c.is_cut.ensures ∙ c.if-is_cut.false in
    let t3 : overlaps file ≡ false = sym c.overlaps.ensures ∙ c.if-overlaps.false in
    let t4 : kinds_good (kind_count file) file ≡ true =
    ap (λ n. kinds_good n file) (sym c.kind_count.ensures) ∙ sym c.kinds_good.ensures ∙ c.if-not-kinds_good.false in
    let t5 : wrong_length file ≡ false = sym c.is_misfit.ensures ∙ c.if-is_misfit.false in
    let n6 : c.rule_count.result ≡ length (settings_in file).rules =
    c.rule_count.ensures ∙ ap (λ b. length (rules_in b)) c.body-rules.ensures in
    let t6 : ltb most_rules (length (settings_in file).rules) ≡ true = lt-ltb most_rules (length (settings_in file).rules) (omega arith) in
    rw (t1, t2, t3, t4, t5, t6) refl

pub all_apart-requires : goal.all_apart-requires
all_apart-requires c =
    let file = c.args.file.now in
    let t5 : wrong_length file ≡ false = sym c.is_misfit.ensures ∙ c.if-is_misfit.false in
    rw c.body-rules.ensures (whole-fits file t5)

pub returns-then-not-all_apart : goal.returns-then-not-all_apart
unfolding judged wrong_kinds too_many_rules rule_twice settings_in
returns-then-not-all_apart c =
    let file = c.args.file.now in
    let v = c.args.reader in
    let t1 : unknown_version v file ≡ false = sym c.is_unknown.ensures ∙ c.if-is_unknown.false in
    let t2 : cut_short file ≡ false = sym c.is_cut.ensures ∙ c.if-is_cut.false in
    let t3 : overlaps file ≡ false = sym c.overlaps.ensures ∙ c.if-overlaps.false in
    let t4 : kinds_good (kind_count file) file ≡ true =
    ap (λ n. kinds_good n file) (sym c.kind_count.ensures) ∙ sym c.kinds_good.ensures ∙ c.if-not-kinds_good.false in
    let t5 : wrong_length file ≡ false = sym c.is_misfit.ensures ∙ c.if-is_misfit.false in
    let n6 : c.rule_count.result ≡ length (settings_in file).rules =
    c.rule_count.ensures ∙ ap (λ b. length (rules_in b)) c.body-rules.ensures in
    let t6 : ltb most_rules (length (settings_in file).rules) ≡ false = le-ltb most_rules (length (settings_in file).rules) (omega arith) in
    let t7 : pairwise rules_apart (settings_in file).rules ≡ false =
    ap (λ b. pairwise rules_apart (rules_in b)) (sym c.body-rules.ensures) ∙ sym c.all_apart.ensures ∙ c.if-not-all_apart.true in
    rw (t1, t2, t3, t4, t5, t6, t7) refl

pub is_outside-requires : goal.is_outside-requires
is_outside-requires c =
    let file = c.args.file.now in
    let t5 : wrong_length file ≡ false = sym c.is_misfit.ensures ∙ c.if-is_misfit.false in
    (c.body-rules.ensures, rw c.body-rules.ensures (whole-fits file t5))

pub returns-then-is_outside : goal.returns-then-is_outside
unfolding judged wrong_kinds too_many_rules rule_twice settings_in
returns-then-is_outside c =
    let file = c.args.file.now in
    let v = c.args.reader in
    let t1 : unknown_version v file ≡ false = sym c.is_unknown.ensures ∙ c.if-is_unknown.false in
    let t2 : cut_short file ≡ false = sym c.is_cut.ensures ∙ c.if-is_cut.false in
    let t3 : overlaps file ≡ false = sym c.overlaps.ensures ∙ c.if-overlaps.false in
    let t4 : kinds_good (kind_count file) file ≡ true =
    ap (λ n. kinds_good n file) (sym c.kind_count.ensures) ∙ sym c.kinds_good.ensures ∙ c.if-not-kinds_good.false in
    let t5 : wrong_length file ≡ false = sym c.is_misfit.ensures ∙ c.if-is_misfit.false in
    let n6 : c.rule_count.result ≡ length (settings_in file).rules =
    c.rule_count.ensures ∙ ap (λ b. length (rules_in b)) c.body-rules.ensures in
    let t6 : ltb most_rules (length (settings_in file).rules) ≡ false = le-ltb most_rules (length (settings_in file).rules) (omega arith) in
    let t7 : pairwise rules_apart (settings_in file).rules ≡ true =
    ap (λ b. pairwise rules_apart (rules_in b)) (sym c.body-rules.ensures) ∙ sym c.all_apart.ensures ∙ c.if-not-all_apart.false in
    let t8 : outside_rule file ≡ true = sym c.is_outside.ensures ∙ c.if-is_outside.true in
    rw (t1, t2, t3, t4, t5, t6, t7, t8) refl

pub returns : goal.returns
unfolding judged wrong_kinds too_many_rules rule_twice settings_in
returns c =
    let file = c.args.file.now in
    let v = c.args.reader in
    let t1 : unknown_version v file ≡ false = sym c.is_unknown.ensures ∙ c.if-is_unknown.false in
    let t2 : cut_short file ≡ false = sym c.is_cut.ensures ∙ c.if-is_cut.false in
    let t3 : overlaps file ≡ false = sym c.overlaps.ensures ∙ c.if-overlaps.false in
    let t4 : kinds_good (kind_count file) file ≡ true =
    ap (λ n. kinds_good n file) (sym c.kind_count.ensures) ∙ sym c.kinds_good.ensures ∙ c.if-not-kinds_good.false in
    let t5 : wrong_length file ≡ false = sym c.is_misfit.ensures ∙ c.if-is_misfit.false in
    let n6 : c.rule_count.result ≡ length (settings_in file).rules =
    c.rule_count.ensures ∙ ap (λ b. length (rules_in b)) c.body-rules.ensures in
    let t6 : ltb most_rules (length (settings_in file).rules) ≡ false = le-ltb most_rules (length (settings_in file).rules) (omega arith) in
    let t7 : pairwise rules_apart (settings_in file).rules ≡ true =
    ap (λ b. pairwise rules_apart (rules_in b)) (sym c.body-rules.ensures) ∙ sym c.all_apart.ensures ∙ c.if-not-all_apart.false in
    let t8 : outside_rule file ≡ false = sym c.is_outside.ensures ∙ c.if-is_outside.false in
    rw (t1, t2, t3, t4, t5, t6, t7, t8) refl
