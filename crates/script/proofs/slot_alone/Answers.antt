use mathlib.Core.Path.{sym, ap, ◌∙◌}
use Rattle.script.specs.declared.Reason.TheVariants.{NoSlot}
use Rattle.script.specs.Numbers.{number_of}
use Rattle.script.proofs.Laws.{alone-more, alone-is}
use Rattle.script.proofs.slot_alone.Goals as goal

pub returns-then-spaces-s : goal.returns-then-spaces-s
returns-then-spaces-s c =
    let args = c.args in
    let word = c.word-w in
    sym (alone-more args.s.now args.at word.result _ word.ensures c.spaces.ensures c.if-spaces-s.true)

pub returns : goal.returns
returns c =
    let args = c.args in
    let word = c.word-w in
    c.number_of.ensures ∙ ap (number_of NoSlot) c.text.ensures
    ∙ sym (alone-is args.s.now args.at word.result _ word.ensures c.spaces.ensures c.if-spaces-s.false)
