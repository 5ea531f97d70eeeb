use Prim.Native.Nat.{◌<◌}
use Rattle.seq.specs.Numbers.{last_id}
use mathlib.Core.Path.{sym, ◌∙◌}
use Rattle.replies.specs.Meaning.{message_of}
use Rattle.model.specs.State.{added}
use Rattle.model.specs.Step.{register_new}
use Rattle.image.specs.Image.{held}
use Rattle.rows.proofs.Laws.{on-place, place-low}
use borrow.Author.Rules.{rules}
use Rattle.rows.proofs.register_new.Goals as goal

pub returns-in_default : goal.returns-in_default
unfolding register_new
returns-in_default c =
    let h = held c.args.state.now in
    λ m. rw (on-place, (sym c.place.ensures ∙ c.in_default.is)) (c.refuses.ensures h m)

pub overflow_add-number : goal.overflow_add-number
overflow_add-number c =
    let p = sym c.place.ensures ∙ c.in-Some.is in
    let n : c.counter-last.result < last_id = rw c.counter-last.ensures (place-low _ _ p) in
    search rules

pub returns : goal.returns
unfolding register_new message_of added
returns c =
    let h = held c.args.state.now in
    let p = sym c.place.ensures ∙ c.in-Some.is in
    λ m. rw (on-place, p) (c.stores.ensures h m ∙ rw (c.new_row-row.ensures, c.counter-last.ensures))
