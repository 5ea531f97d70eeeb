use Rattle.report.specs.Text.{reason_text}
use Rattle.report.proofs.put_reason.Goals as goal

pub returns-in-UnknownWord : goal.returns-in-UnknownWord
unfolding reason_text
returns-in-UnknownWord c = rw c.in-UnknownWord.is c.put.ensures

pub returns-in-NoSlot : goal.returns-in-NoSlot
unfolding reason_text
returns-in-NoSlot c = rw c.in-NoSlot.is c.put-in-NoSlot.ensures

pub returns-in-NoNumber : goal.returns-in-NoNumber
unfolding reason_text
returns-in-NoNumber c = rw c.in-NoNumber.is c.put-in-NoNumber.ensures

pub returns-in-NoMessage : goal.returns-in-NoMessage
unfolding reason_text
returns-in-NoMessage c = rw c.in-NoMessage.is c.put-in-NoMessage.ensures

pub returns-in-TooLarge : goal.returns-in-TooLarge
unfolding reason_text
returns-in-TooLarge c = rw c.in-TooLarge.is c.put-in-TooLarge.ensures

pub returns-in-AfterSlot : goal.returns-in-AfterSlot
unfolding reason_text
returns-in-AfterSlot c = rw c.in-AfterSlot.is c.put-in-AfterSlot.ensures

pub returns-in-NoHex : goal.returns-in-NoHex
unfolding reason_text
returns-in-NoHex c = rw c.in-NoHex.is c.put-in-NoHex.ensures
