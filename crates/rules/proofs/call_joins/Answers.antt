use mathlib.Core.Path.{sym, ◌∙◌}
use native.Mathlib.Omega.{arith}
use borrow.Author.Tests.{le-leb, lt-leb}
use Rattle.rules.specs.ByTable.{joins}
use Rattle.rules.proofs.call_joins.Goals as goal

pub returns-then-not-is_open : goal.returns-then-not-is_open
unfolding joins
returns-then-not-is_open c = rw (sym c.is_open.ensures ∙ c.if-not-is_open.true)

pub returns-then-not-is_open-2 : goal.returns-then-not-is_open-2
unfolding joins
returns-then-not-is_open-2 c =
    let is-open = c.is_open in
    let if1 = c.if-not-is_open in
    rw (sym is-open.ensures ∙ if1.false, sym c.is_open-2.ensures ∙ c.if-not-is_open-2.true)

pub returns-then-caller-call : goal.returns-then-caller-call
unfolding joins
returns-then-caller-call c =
    let is-open = c.is_open in
    let if1 = c.if-not-is_open in
    let is-open2 = c.is_open-2 in
    let if2 = c.if-not-is_open-2 in
    rw (sym is-open.ensures ∙ if1.false, sym is-open2.ensures ∙ if2.false, lt-leb _ _ c.if-caller-call.true)

pub returns-then-call-eq0 : goal.returns-then-call-eq0
unfolding joins
returns-then-call-eq0 c =
    let is-open = c.is_open in
    let if1 = c.if-not-is_open in
    let is-open2 = c.is_open-2 in
    let if2 = c.if-not-is_open-2 in
    let args = c.args in
    rw (
      sym is-open.ensures ∙ if1.false,
      sym is-open2.ensures ∙ if2.false,
      le-leb args.call.request
          args.caller.request (omega arith),
      c.if-call-eq0.true,
    )

pub returns : goal.returns
unfolding joins
returns c =
    let is-open = c.is_open in
    let if1 = c.if-not-is_open in
    let is-open2 = c.is_open-2 in
    let if2 = c.if-not-is_open-2 in
    let args = c.args in
    rw (
      sym is-open.ensures ∙ if1.false,
      sym is-open2.ensures ∙ if2.false,
      le-leb args.call.request
          args.caller.request (omega arith),
      le-leb 1 args.call.invocation (omega arith),
    )
