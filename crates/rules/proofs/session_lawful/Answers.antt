use mathlib.Core.Path.{sym, ◌∙◌}
use native.Mathlib.Omega.{arith}
use borrow.Author.Tests.{eq-eqb, ne_eqb, le-leb, lt-leb}
use Rattle.seq.specs.Numbers.{last_id}
use Rattle.model.specs.Rules.{session_zero, id_in_range, counters_low}
use Rattle.rules.specs.ByTable.{session_lawful}
use Rattle.rules.proofs.Laws.{session-closed}
use Rattle.rules.proofs.session_lawful.Goals as goal

pub returns-then-s-eq0 : goal.returns-then-s-eq0
unfolding session_lawful session_zero id_in_range counters_low
returns-then-s-eq0 c = rw (sym c.is_open.ensures ∙ c.if-is_open.true, c.if-s-eq0.true)

pub returns-then-s-gt-LAST_ID : goal.returns-then-s-gt-LAST_ID
unfolding session_lawful session_zero id_in_range counters_low
returns-then-s-gt-LAST_ID c =
    let is-open = c.is_open in
    let if1 = c.if-is_open in
    let args = c.args in
    rw (sym is-open.ensures ∙ if1.true, le-leb 1 args.s.id (omega arith), lt-leb _ last_id c.if-s-gt-LAST_ID.true)

pub returns-then-s-gt-LAST_ID-2 : goal.returns-then-s-gt-LAST_ID-2
unfolding session_lawful session_zero id_in_range counters_low
returns-then-s-gt-LAST_ID-2 c =
    let is-open = c.is_open in
    let if1 = c.if-is_open in
    let args = c.args in
    rw (
      sym is-open.ensures ∙ if1.true,
      le-leb 1 args.s.id (omega arith),
      le-leb args.s.id last_id
          (omega arith),
      lt-leb _ last_id c.if-s-gt-LAST_ID-2.true,
    )

pub returns-then-is_open : goal.returns-then-is_open
unfolding session_lawful session_zero id_in_range counters_low
returns-then-is_open c =
    let is-open = c.is_open in
    let if1 = c.if-is_open in
    let args = c.args in
    rw (
      sym is-open.ensures ∙ if1.true,
      le-leb 1 args.s.id (omega arith),
      le-leb args.s.id last_id (omega arith),
      le-leb
          args.s.request last_id (omega arith),
    )

pub returns-then-s-ne0 : goal.returns-then-s-ne0
unfolding session_lawful session_zero id_in_range counters_low
returns-then-s-ne0 c = rw (sym c.is_open.ensures ∙ c.if-is_open.false, ne_eqb _ _ c.if-s-ne0.true)

pub returns-then-s-ne0-2 : goal.returns-then-s-ne0-2
unfolding session_lawful session_zero id_in_range counters_low
returns-then-s-ne0-2 c =
    let is-open = c.is_open in
    let if1 = c.if-is_open in
    let if5 = c.if-s-ne0 in
    rw (sym is-open.ensures ∙ if1.false, eq-eqb _ _ if5.false, ne_eqb _ _ c.if-s-ne0-2.true)

pub returns : goal.returns
returns c =
    let args = c.args in
    let is-open = c.is_open in
    let if1 = c.if-is_open in
    let if5 = c.if-s-ne0 in
    session-closed args.s (sym is-open.ensures ∙ if1.false) if5.false c.if-s-ne0-2.false
