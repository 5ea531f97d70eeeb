-- The text of a line of 1,048,576 bytes or less fits the buffer of 2,097,152, so that nothing of it is cut off. Assumes nothing.
use mathlib.Core.Path.{◌≡◌, refl}
use Prim.Native.Nat.{ℕ, ◌+◌, ◌*◌, ◌-◌, ◌%◌, ◌≤◌}
use native.Mathlib.Omega.{arith}
use mathlib.Core.List.{List, [], ◌∷◌}
use lib.ListN.{length, length-append, length-take}
use Rattle.seq.specs.Lists.{joined}
use Rattle.seq.proofs.Digits.{length-decimal}
use Rattle.show.specs.Buffer.{fitting}
use Rattle.show.proofs.Joined.{whole}
use Rattle.script.specs.declared.Reason.{Reason}
use Rattle.script.specs.declared.Reason.TheVariants.{UnknownWord, NoSlot, NoNumber, NoMessage, TooLarge, AfterSlot, NoHex}
use Rattle.script.specs.Script.{text_end}
use Rattle.outgoing.specs.Outgoing.{render}
use Rattle.outgoing.specs.Layout.{Formats, Mail, body, layout}
use Rattle.outgoing.proofs.Lengths.{layout-cons, layout-none}
use Rattle.model.specs.declared.Outcome.{Outcome}
use Rattle.model.specs.declared.Outcome.TheVariants.{Done, BadState, BadSlot, WrongTime, BadNumber, NoRoom}
use Rattle.report.proofs.Short.{body-short}
use Rattle.report.specs.Text.{message_text, done_text, outcome_text, head_text, reason_text, wrong_text}
use Rattle.replay.specs.declared.Run.{Run}
use Rattle.hub.specs.Answer.{formats_on}
use Rattle.replay.specs.Replay.{room, mail_text, step_text, Action, nothing, steps, stops, step_of, shown, action, action_text}
use Rattle.replay.proofs.Laws.{lent_fits}

module _ (formats : Formats) where
  mail-short : (m : Mail) → length (mail_text formats m) ≤ 45 + 6 * length (render (formats m.to) m.message)
  unfolding mail_text message_text body
  mail-short m =
      let k = body-short (render (formats m.to) m.message) in simp length-append (omega (arith, length-decimal (m.to % 256)))

  mails-short : (ms : List Mail) → length (joined (mail_text formats) ms) + 30 ≤ 15 * length (layout formats ms)
  mails-short [] = omega (arith, layout-none formats)
  mails-short (m ∷ ms) =
      let e = layout-cons formats m ms in
      let r = mails-short ms in
      let k = mail-short m in
      simp length-append (omega arith)

  outcome-short : (o : Outcome) (count : ℕ) (ms : List Mail) → (o ≡ Done → length (layout formats ms) ≤ room)
      → length (outcome_text o count (joined (mail_text formats) ms)) ≤ 983048
  unfolding outcome_text done_text
  outcome-short Done count ms f =
      let r = mails-short ms in
      let l = f refl in
      simp length-append (omega (arith, length-decimal count))
  outcome-short BadState count ms f = omega arith
  outcome-short BadSlot count ms f = omega arith
  outcome-short WrongTime count ms f = omega arith
  outcome-short BadNumber count ms f = omega arith
  outcome-short NoRoom count ms f = omega arith

reason-short : (reason : Reason) → length (reason_text reason) ≤ 67
unfolding reason_text
reason-short UnknownWord = omega arith
reason-short NoSlot = omega arith
reason-short NoNumber = omega arith
reason-short NoMessage = omega arith
reason-short TooLarge = omega arith
reason-short AfterSlot = omega arith
reason-short NoHex = omega arith

action-short : (run : Run) (number : ℕ) (text : List ℕ) (a : Action) → length (action_text run number text a) ≤ length text + 983071
unfolding action_text step_text head_text wrong_text
action-short run number text nothing = omega arith
action-short run number text (steps x) =
    let s = step_of run x in
    let o = outcome-short (formats_on run.state) s.outcome s.count s.mails (lent_fits run.state x room) in
    simp length-append (omega (arith, length-decimal (run.steps + 1)))
action-short run number text (stops reason) = simp length-append (omega (arith, length-decimal number, reason-short reason))

pub text-whole : (run : Run) (number : ℕ) (line buffer : List ℕ) → length line ≤ 1048576 → length buffer ≡ 2097152
    → fitting buffer 0 (action_text run number (shown line) (action line)) ≡ action_text run number (shown line) (action line)
text-whole run number line buffer h l =
    let a = action-short run number (shown line) (action line) in
    let t = length-take (text_end line - 0) line in
    whole buffer 0 (action_text run number (shown line) (action line)) (omega arith)
