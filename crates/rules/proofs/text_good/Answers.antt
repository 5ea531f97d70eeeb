use mathlib.Core.Path.{◌≡◌, sym, ap, ◌∙◌}
use native.Mathlib.Omega.{arith}
use borrow.Author.Tests.{le-leb, lt-leb}
use lib.Dec.{leb}
use Rattle.uri.specs.Uri.{longest}
use Rattle.pattern.specs.Choice.{row_text}
use Rattle.model.specs.State.{row_at}
use Rattle.model.specs.Rules.{text_good}
use Rattle.image.specs.Image.{held, table_in}
use Rattle.rules.specs.ByTable.{rule_of}
use Rattle.rules.proofs.text_good.Goals as goal

pub returns-then-len-gt-LONGEST : goal.returns-then-len-gt-LONGEST
unfolding text_good
returns-then-len-gt-LONGEST c = rw (ap (λ n. leb n longest) (sym c.len.ensures) ∙ lt-leb _ longest c.if-len-gt-LONGEST.true)

pub returns-then-not-is_valid : goal.returns-then-not-is_valid
unfolding text_good
returns-then-not-is_valid c =
    let args = c.args in
    let len = c.len in
    let policy = c.policy-policy in
    let text = c.text in
    let r = row_at (table_in args.kind (held args.state.now)) args.k in
    let v : c.is_valid.result ≡ rule_of args.kind (row_text r) r.policy =
    c.is_valid.ensures ∙ rw (text.ensures, policy.ensures) in
    rw (ap (λ n. leb n longest) (sym len.ensures) ∙ le-leb len.result longest (omega arith), sym v ∙ c.if-not-is_valid.true)

pub returns : goal.returns
unfolding text_good
returns c =
    let args = c.args in
    let len = c.len in
    let policy = c.policy-policy in
    let text = c.text in
    let is-valid = c.is_valid in
    let r = row_at (table_in args.kind (held args.state.now)) args.k in
    let v : is-valid.result ≡ rule_of args.kind (row_text r) r.policy = is-valid.ensures ∙ rw (text.ensures, policy.ensures) in
    rw (ap (λ n. leb n longest) (sym len.ensures) ∙ le-leb len.result longest (omega arith), sym v ∙ c.if-not-is_valid.false) c.is_padded.ensures
