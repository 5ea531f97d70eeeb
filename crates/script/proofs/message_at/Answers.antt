use mathlib.Core.Path.{sym, ap, ◌∙◌}
use Rattle.std.specs.Prelude.{Err}
use Rattle.std.proofs.lemmas.Result.{err_from_is_err_and}
use Rattle.script.specs.declared.Reason.TheVariants.{NoSlot, NoNumber}
use Rattle.script.specs.Numbers.{number_of}
use Rattle.script.proofs.Laws.{no_slot, no_number, both-numbers}
use Rattle.script.proofs.message_at.Goals as goal

pub returns-in_err-slot : goal.returns-in_err-slot
returns-in_err-slot c =
    let args = c.args in
    let one = c.word-one in
    let two = c.word-two in
    let first = c.number_of.ensures ∙ ap (number_of NoSlot) c.text.ensures in
    let p = err_from_is_err_and c.from_residual.result c.from_residual.ensures.1 in
    p.1 ∙ ap Err p.2 ∙ sym (no_slot args.s.now args.at one.result two.result one.ensures two.ensures _ (sym first ∙ c.in_err-slot.was))

pub returns-in_err-number : goal.returns-in_err-number
returns-in_err-number c =
    let args = c.args in
    let one = c.word-one in
    let two = c.word-two in
    let first = c.number_of.ensures ∙ ap (number_of NoSlot) c.text.ensures in
    let second = c.number_of-2.ensures ∙ ap (number_of NoNumber) c.text-2.ensures in
    let p = err_from_is_err_and c.from_residual-in_err-number.result c.from_residual-in_err-number.ensures.1 in
    p.1 ∙ ap Err p.2
    ∙ sym (no_number args.s.now args.at one.result two.result one.ensures two.ensures _ _ (sym first ∙ c.in_ok-slot.was) (sym second ∙ c.in_err-number.was))

pub returns : goal.returns
returns c =
    let args = c.args in
    let one = c.word-one in
    let two = c.word-two in
    let first = c.number_of.ensures ∙ ap (number_of NoSlot) c.text.ensures in
    let second = c.number_of-2.ensures ∙ ap (number_of NoNumber) c.text-2.ensures in
    c.rest.ensures
    ∙ sym (both-numbers args.s.now args.at one.result two.result one.ensures two.ensures _ _ (sym first ∙ c.in_ok-slot.was) (sym second ∙ c.in_ok-number.was))
