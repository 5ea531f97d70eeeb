use mathlib.Core.Path.{◌≡◌, sym, ap, ◌∙◌}
use Rattle.image.specs.Image.{held}
use Rattle.rules.specs.ByTable.{sessions_lawful, table_lawful, by_table}
use Rattle.rules.proofs.Together.{together}
use Rattle.image.specs.declared.Kind.TheVariants.{Members, Owner}
use Rattle.rules.proofs.lawful.Goals as goal

pub returns-then-not-is_formed : goal.returns-then-not-is_formed
returns-then-not-is_formed c = rw (sym c.is_formed.ensures ∙ c.if-not-is_formed.true)

pub returns-then-not-sessions_lawful : goal.returns-then-not-sessions_lawful
unfolding by_table
returns-then-not-sessions_lawful c =
    let args = c.args in
    let is-formed = c.is_formed in
    let if1 = c.if-not-is_formed in
    let sessions = c.sessions-sessions in
    let h = held args.state.now in
    let s : c.sessions_lawful.result ≡ sessions_lawful h.sessions = c.sessions_lawful.ensures ∙ ap sessions_lawful sessions.ensures in
    rw (sym is-formed.ensures ∙ if1.false, ← together h, sym s ∙ c.if-not-sessions_lawful.true)

pub returns-then-not-table_lawful : goal.returns-then-not-table_lawful
unfolding by_table
returns-then-not-table_lawful c =
    let args = c.args in
    let is-formed = c.is_formed in
    let if1 = c.if-not-is_formed in
    let sessions = c.sessions-sessions in
    let sessions-lawful = c.sessions_lawful in
    let if2 = c.if-not-sessions_lawful in
    let h = held args.state.now in
    let s : sessions-lawful.result ≡ sessions_lawful h.sessions = sessions-lawful.ensures ∙ ap sessions_lawful sessions.ensures in
    let t : c.table_lawful.result ≡ table_lawful h.sessions Members h.subscriptions =
    c.table_lawful.ensures ∙ ap (λ ss. table_lawful ss Members h.subscriptions) sessions.ensures in
    rw (sym is-formed.ensures ∙ if1.false, ← together h, sym s ∙ if2.false, sym t ∙ c.if-not-table_lawful.true)

pub returns-then-not-table_lawful-2 : goal.returns-then-not-table_lawful-2
unfolding by_table
returns-then-not-table_lawful-2 c =
    let args = c.args in
    let is-formed = c.is_formed in
    let if1 = c.if-not-is_formed in
    let sessions = c.sessions-sessions in
    let sessions-lawful = c.sessions_lawful in
    let if2 = c.if-not-sessions_lawful in
    let table-lawful = c.table_lawful in
    let if3 = c.if-not-table_lawful in
    let h = held args.state.now in
    let s : sessions-lawful.result ≡ sessions_lawful h.sessions = sessions-lawful.ensures ∙ ap sessions_lawful sessions.ensures in
    let t : table-lawful.result ≡ table_lawful h.sessions Members h.subscriptions =
    table-lawful.ensures ∙ ap (λ ss. table_lawful ss Members h.subscriptions) sessions.ensures in
    let u : c.table_lawful-2.result ≡ table_lawful h.sessions Owner h.registrations =
    c.table_lawful-2.ensures ∙ ap (λ ss. table_lawful ss Owner h.registrations) sessions.ensures in
    rw (
      sym is-formed.ensures ∙ if1.false,
      ← together h,
      sym s ∙ if2.false,
      sym t ∙ if3.false,
      sym u ∙ c.if-not-table_lawful-2.true,
    )

pub returns : goal.returns
unfolding by_table
returns c =
    let args = c.args in
    let is-formed = c.is_formed in
    let if1 = c.if-not-is_formed in
    let sessions = c.sessions-sessions in
    let sessions-lawful = c.sessions_lawful in
    let if2 = c.if-not-sessions_lawful in
    let table-lawful = c.table_lawful in
    let if3 = c.if-not-table_lawful in
    let table-lawful2 = c.table_lawful-2 in
    let if4 = c.if-not-table_lawful-2 in
    let h = held args.state.now in
    let s : sessions-lawful.result ≡ sessions_lawful h.sessions = sessions-lawful.ensures ∙ ap sessions_lawful sessions.ensures in
    let t : table-lawful.result ≡ table_lawful h.sessions Members h.subscriptions =
    table-lawful.ensures ∙ ap (λ ss. table_lawful ss Members h.subscriptions) sessions.ensures in
    let u : table-lawful2.result ≡ table_lawful h.sessions Owner h.registrations =
    table-lawful2.ensures ∙ ap (λ ss. table_lawful ss Owner h.registrations) sessions.ensures in
    rw (
      sym is-formed.ensures ∙ if1.false,
      ← together h,
      sym s ∙ if2.false,
      sym t ∙ if3.false,
      sym u ∙ if4.false,
    )
    (c.calls_lawful.ensures ∙ rw (c.calls-calls.ensures, sessions.ensures))
