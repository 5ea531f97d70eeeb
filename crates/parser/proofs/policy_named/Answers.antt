use Rattle.incoming.specs.Read.{text_by}
use Rattle.parser.proofs.Laws.{policy-exact, policy-prefix, policy-wildcard, policy-other}
use Rattle.parser.proofs.policy_named.Goals as goal

pub returns-then-is_text : goal.returns-then-is_text
returns-then-is_text c =
    let args = c.args in
    let t = text_by args.format args.t.now in
    policy-exact t _ c.is_text.ensures c.if-is_text.true

pub returns-then-is_text-2 : goal.returns-then-is_text-2
returns-then-is_text-2 c =
    let is-text = c.is_text in
    let if1 = c.if-is_text in
    let args = c.args in
    let t = text_by args.format args.t.now in
    policy-prefix t _ is-text.ensures if1.false _ c.is_text-2.ensures c.if-is_text-2.true

pub returns-then-is_text-3 : goal.returns-then-is_text-3
returns-then-is_text-3 c =
    let is-text = c.is_text in
    let if1 = c.if-is_text in
    let is-text2 = c.is_text-2 in
    let if2 = c.if-is_text-2 in
    let args = c.args in
    let t = text_by args.format args.t.now in
    policy-wildcard t _ is-text.ensures if1.false _ is-text2.ensures if2.false _
    c.is_text-3.ensures c.if-is_text-3.true

pub returns : goal.returns
returns c =
    let is-text = c.is_text in
    let if1 = c.if-is_text in
    let is-text2 = c.is_text-2 in
    let if2 = c.if-is_text-2 in
    let args = c.args in
    let t = text_by args.format args.t.now in
    policy-other t _ is-text.ensures if1.false _ is-text2.ensures if2.false _
    c.is_text-3.ensures c.if-is_text-3.false
