use mathlib.Core.Path.{sym, ◌∙◌}
use Rattle.model.specs.Step.{welcomes, on_attached}
use Rattle.hub.proofs.on_attached.Goals as goal

pub returns-then-is_realm : goal.returns-then-is_realm
unfolding on_attached
returns-then-is_realm c =
    let e = c.in-Greets in
    let is-realm = c.is_realm in
    let if1 = c.if-is_realm in
    let welcomes = c.welcomes in
    λ h m. rw (e.is, sym is-realm.ensures ∙ if1.true) (welcomes.ensures h m)

pub returns-else-is_realm : goal.returns-else-is_realm
unfolding on_attached
returns-else-is_realm c =
    let e = c.in-Greets in
    let is-realm = c.is_realm in
    let if1 = c.if-is_realm in
    let turns-away = c.turns_away in
    λ h m. rw (e.is, sym is-realm.ensures ∙ if1.false) (turns-away.ensures h m)

pub returns-in-Leaves : goal.returns-in-Leaves
unfolding on_attached
returns-in-Leaves c = λ h m. rw c.in-Leaves.is (c.closes.ensures h m)

pub returns-in-Wrong : goal.returns-in-Wrong
unfolding on_attached
returns-in-Wrong c = λ h m. rw c.in-Wrong.is (c.turns_away-in-Wrong.ensures h m)
