use mathlib.Core.Path.{ap, ◌∙◌}
use mathlib.Core.List.{List}
use Prim.Native.Nat.{ℕ}
use Rattle.incoming.specs.Read.{text_by, policy_named}
use Rattle.parser.proofs.Laws.{policy-absent, policy-none, policy-string}
use Rattle.parser.proofs.policy.Goals as goal

pub returns-then-v-eq0 : goal.returns-then-v-eq0
returns-then-v-eq0 c = policy-absent c.args.format c.args.v.now c.if-v-eq0.true

pub returns-then-not-is_string : goal.returns-then-not-is_string
returns-then-not-is_string c =
    let args = c.args in
    policy-none args.format args.v.now c.if-v-eq0.false _ c.is_string.ensures (c.if-not-is_string.true)

pub returns : goal.returns
returns c =
    let args = c.args in
    let if1 = c.if-v-eq0 in
    let is-string = c.is_string in
    let if2 = c.if-not-is_string in
    let string = policy-string args.format args.v.now if1.false _ is-string.ensures (if2.false) in
    c.policy_named.ensures ∙ ap (λ (t : List ℕ). policy_named (text_by args.format t)) c.inside.ensures ∙ string
