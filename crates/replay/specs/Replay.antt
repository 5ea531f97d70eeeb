-- A script replayed line by line: what a line does to the hub, which stands as bytes, and what is written for it. hub_ffi/specs/Claims.antt
-- says that steps from an empty hub's bytes are a run of the model (as_run).
use Rattle.std.specs.Prelude.{ℕ, Result, Ok, Err, ◌+◌, ◌%◌, false, List, [], ◌++◌}
use Rattle.seq.specs.Bytes.{text_of, part}
use Rattle.seq.specs.Lists.{joined}
use Rattle.script.specs.declared.Reason.{Reason}
use Rattle.script.specs.declared.Line.{Line}
use Rattle.script.specs.declared.Line.TheVariants.{Blank, Attach, AttachMsgPack, Detach, Send, Bytes}
use Rattle.script.specs.Script.{text_end, read_line}
use Rattle.hex_text.specs.Hex.{bytes_of}
use Rattle.seq.specs.declared.Format.TheVariants.{Json, MsgPack}
use Rattle.outgoing.specs.Layout.{Formats, Mail, body}
use Rattle.model.specs.declared.Event.TheVariants as Event
use Rattle.model.specs.Step as Step
use Rattle.hub.specs.Answer.{given, formats_on, lent, kept}
use Rattle.replay.specs.declared.Run.{Run}
use Rattle.report.specs.Text.{message_text, outcome_text, head_text, wrong_text}

-- the lent output of each step
abbrev pub room : ℕ
room = 65536

-- a message sent with its receiver, whose slot stands in one byte, in the receiver's format
unfoldable pub mail_text : Formats → Mail → List ℕ
mail_text formats m = message_text (m.to % 256) (body formats m)

-- what is written for a step: its number and its line, how it came out, and each message sent, in order
unfoldable pub step_text : Formats → ℕ → List ℕ → Step.Stepped → List ℕ
step_text formats number line s =
    head_text number line ++ outcome_text s.outcome s.count (joined (mail_text formats) s.mails)

-- what a line is to the hub: nothing, a step, or a line that cannot be read
pub data Action : Type 0 where
  nothing : Action
  steps : Step.Step → Action
  stops : Reason → Action

-- the action of a line that was read from a text
unfoldable pub action_of : List ℕ → Result Line Reason → Action
action_of text (Ok Blank) = nothing
action_of text (Ok (Attach slot)) = steps (given slot (Event.Attach Json) [])
action_of text (Ok (AttachMsgPack slot)) = steps (given slot (Event.Attach MsgPack) [])
action_of text (Ok (Detach slot)) = steps (given slot Event.Detach [])
action_of text (Ok (Send sent)) = steps (given sent.slot (Event.Message sent.number) (text_of text sent.message))
action_of text (Ok (Bytes sent)) = steps (given sent.slot (Event.Message sent.number) (bytes_of (text_of text sent.message)))
action_of text (Err reason) = stops reason

-- a line as written, without the carriage return at its end
abbrev pub shown : List ℕ → List ℕ
shown line = part 0 (text_end line) line

abbrev pub action : List ℕ → Action
action line = action_of (shown line) (read_line line)

-- the model's step on the hub that the bytes stand for
abbrev pub step_of : Run → Step.Step → Step.Stepped
step_of run x = lent run.state x room

-- where the run stands after an action: a step is counted, and a line that cannot be read is the last
unfoldable pub played : Run → Action → Run
played run nothing = run
played run (steps x) = record { state = kept (step_of run x) run.state; steps = run.steps + 1; going = run.going }
played run (stops reason) = record { state = run.state; steps = run.steps; going = false }

-- what is written for an action of the line with this number and text
unfoldable pub action_text : Run → ℕ → List ℕ → Action → List ℕ
action_text run number text nothing = []
action_text run number text (steps x) = step_text (formats_on run.state) (run.steps + 1) text (step_of run x)
action_text run number text (stops reason) = wrong_text number reason
