use Rattle.report.proofs.Puts.{first, then, whole}
use mathlib.Core.List.{◌++◌}
use mathlib.Core.Path.{refl}
use Rattle.report.specs.Text.{done_text, messages_text, outcome_text}
use Rattle.report.proofs.put_outcome.Goals as goal

pub returns-in-Done : goal.returns-in-Done
unfolding outcome_text
returns-in-Done c =
    let args = c.args in
    let a = first args.text.now args.at (done_text args.count) c.put_done-a.ensures in
    let b = then a (messages_text args.out.now) c.put_messages.ensures in
    rw c.in-Done.is (whole b (done_text args.count ++ messages_text args.out.now) refl)

pub returns-in-BadState : goal.returns-in-BadState
unfolding outcome_text
returns-in-BadState c =
    rw c.in-BadState.is c.put.ensures

pub returns-in-BadSlot : goal.returns-in-BadSlot
unfolding outcome_text
returns-in-BadSlot c =
    rw c.in-BadSlot.is c.put-in-BadSlot.ensures

pub returns-in-WrongTime : goal.returns-in-WrongTime
unfolding outcome_text
returns-in-WrongTime c =
    rw c.in-WrongTime.is c.put-in-WrongTime.ensures

pub returns-in-BadNumber : goal.returns-in-BadNumber
unfolding outcome_text
returns-in-BadNumber c =
    rw c.in-BadNumber.is c.put-in-BadNumber.ensures

pub returns-in-NoRoom : goal.returns-in-NoRoom
unfolding outcome_text
returns-in-NoRoom c =
    rw c.in-NoRoom.is c.put-in-NoRoom.ensures
