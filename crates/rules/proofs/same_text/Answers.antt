use mathlib.Core.Path.{◌≡◌, sym, ◌∙◌}
use Rattle.uri.specs.Uri.{same_policy}
use Rattle.model.specs.State.{row_at}
use Rattle.image.specs.Image.{held, table_in}
use Rattle.rules.proofs.same_text.Goals as goal

pub returns-then-not-same_policy : goal.returns-then-not-same_policy
returns-then-not-same_policy c =
    let args = c.args in
    let policy = c.policy-p in
    let policy2 = c.policy-q in
    let t = table_in args.kind (held args.state.now) in
    let p : c.same_policy.result ≡ same_policy (row_at t args.i).policy (row_at t args.j).policy =
    c.same_policy.ensures ∙ rw (policy.ensures, policy2.ensures) in
    rw (sym p ∙ c.if-not-same_policy.true)

pub returns : goal.returns
returns c =
    let args = c.args in
    let policy = c.policy-p in
    let policy2 = c.policy-q in
    let same-policy = c.same_policy in
    let if1 = c.if-not-same_policy in
    let text = c.text-s in
    let t = table_in args.kind (held args.state.now) in
    let p : same-policy.result ≡ same_policy (row_at t args.i).policy (row_at t args.j).policy =
    same-policy.ensures ∙ rw (policy.ensures, policy2.ensures) in
    rw (sym p ∙ if1.false, ← text.ensures, ← c.text-t.ensures) c.same_bytes.ensures
