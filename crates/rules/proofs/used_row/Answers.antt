use mathlib.Core.Path.{◌≡◌, sym, ◌∙◌}
use Rattle.model.specs.State.{holder_count, row_at}
use Rattle.model.specs.Rules.{holders_open}
use Rattle.image.specs.Image.{held, table_in}
use Rattle.rules.specs.ByTable.{wanted_of, held_lawful}
use Rattle.rules.proofs.used_row.Goals as goal

pub returns-then-not-is_wanted : goal.returns-then-not-is_wanted
unfolding held_lawful
returns-then-not-is_wanted c =
    let args = c.args in
    let holders = c.holders-holders in
    let count = c.count in
    let r = row_at (table_in args.kind (held args.state.now)) args.k in
    let w : c.is_wanted.result ≡ wanted_of args.kind (holder_count r) =
    c.is_wanted.ensures ∙ rw (count.ensures, holders.ensures) in
    rw (sym w ∙ c.if-not-is_wanted.true)

pub returns-then-not-holders_open : goal.returns-then-not-holders_open
unfolding held_lawful
returns-then-not-holders_open c =
    let args = c.args in
    let holders = c.holders-holders in
    let count = c.count in
    let is-wanted = c.is_wanted in
    let if1 = c.if-not-is_wanted in
    let r = row_at (table_in args.kind (held args.state.now)) args.k in
    let w : is-wanted.result ≡ wanted_of args.kind (holder_count r) =
    is-wanted.ensures ∙ rw (count.ensures, holders.ensures) in
    let o : c.holders_open.result ≡ holders_open args.sessions r.holders = c.holders_open.ensures ∙ rw holders.ensures in
    rw (sym w ∙ if1.false, sym o ∙ c.if-not-holders_open.true)

pub returns : goal.returns
unfolding held_lawful
returns c =
    let args = c.args in
    let holders = c.holders-holders in
    let count = c.count in
    let is-wanted = c.is_wanted in
    let if1 = c.if-not-is_wanted in
    let holders-open = c.holders_open in
    let r = row_at (table_in args.kind (held args.state.now)) args.k in
    let w : is-wanted.result ≡ wanted_of args.kind (holder_count r) =
    is-wanted.ensures ∙ rw (count.ensures, holders.ensures) in
    let o : holders-open.result ≡ holders_open args.sessions r.holders = holders-open.ensures ∙ rw holders.ensures in
    rw (sym w ∙ if1.false, sym o ∙ c.if-not-holders_open.false) c.text_good.ensures
