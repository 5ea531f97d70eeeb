-- What is written for a step and for a line that cannot be read (docs/REPLAY.md, "What is written").
use Rattle.std.specs.Prelude.{ℕ, zero, suc, ◌+◌, ◌*◌, Bool, cond, ◌&&◌, List, [], ◌++◌, eqb, leb, ltb, length}
use Rattle.seq.specs.declared.Format.TheVariants.{Json, MsgPack}
use Rattle.seq.specs.Bytes.{is_byte, byte_at, chars, part}
use Rattle.seq.specs.Decimal.{decimal}
use Rattle.seq.specs.Lists.{every}
use Rattle.hex_text.specs.Hex.{hex_of}
use Rattle.values.specs.Read.{Read}
use Rattle.values.specs.Read.Read.{Gives, Not}
use Rattle.conversion.specs.Converts.{convert}
use Rattle.script.specs.declared.Reason.{Reason}
use Rattle.script.specs.declared.Reason.TheVariants.{UnknownWord, NoSlot, NoNumber, NoMessage, TooLarge, AfterSlot, NoHex}
use Rattle.model.specs.declared.Outcome.{Outcome}
use Rattle.model.specs.declared.Outcome.TheVariants.{Done, BadState, BadSlot, WrongTime, BadNumber, NoRoom}
use Rattle.report.specs.Contents.{number16, entry_at}

-- how deep a message nests
abbrev pub depth : ℕ
depth = 8

-- the longest JSON text that a message in MessagePack is shown as
abbrev pub longest : ℕ
longest = 32768

-- a message's bytes in hex
unfoldable pub hex_text : List ℕ → List ℕ
hex_text body = chars "hex " ++ hex_of body

-- the whole message is bytes of one value, whose JSON text is not too long
abbrev pub is_shown : List ℕ → List ℕ → ℕ → Bool
is_shown body json end = every is_byte body && (eqb end (length body) && leb (length json) longest)

-- a message in MessagePack, by what it converts to: as that JSON text, or in hex
unfoldable pub packed_text : List ℕ → Read (List ℕ) → List ℕ
packed_text body (Gives json end) = cond (is_shown body json end) json (hex_text body)
packed_text body Not = hex_text body

-- a message: one in JSON, whose first byte is below hex 80, as it is; another is one in MessagePack
unfoldable pub body_text : List ℕ → List ℕ
body_text body =
    cond (ltb (byte_at body 0) 0x80) body (chars "msgpack " ++ packed_text body (convert MsgPack Json depth body 0))

-- a message with its receiver
unfoldable pub message_text : ℕ → List ℕ → List ℕ
message_text slot body = chars "  -> slot " ++ decimal slot ++ chars ": " ++ body_text body ++ chars "\n"

-- n messages of an output, from entry k on; their bodies stand one after the other, the first at `from`
unfoldable pub messages_from : List ℕ → ℕ → ℕ → ℕ → List ℕ
messages_from out zero k from = []
messages_from out (suc n) k from =
    message_text (entry_at out k).slot (part from (from + (entry_at out k).len) out)
    ++ messages_from out n (k + 1) (from + (entry_at out k).len)

-- all messages of an output; the first body stands behind the contents
abbrev pub messages_text : List ℕ → List ℕ
messages_text out = messages_from out (number16 out 0) 0 (2 + 3 * number16 out 0)

-- the length of the output, contents included
unfoldable pub done_text : ℕ → List ℕ
done_text count = chars "  -> done, " ++ decimal count ++ chars " bytes\n"

-- how a step came out, with the text of its messages
unfoldable pub outcome_text : Outcome → ℕ → List ℕ → List ℕ
outcome_text Done count messages = done_text count ++ messages
outcome_text BadState count messages = chars "  -> refused 1 BAD STATE\n"
outcome_text BadSlot count messages = chars "  -> refused 2 BAD SLOT\n"
outcome_text WrongTime count messages = chars "  -> refused 3 WRONG TIME\n"
outcome_text BadNumber count messages = chars "  -> refused 4 BAD NUMBER\n"
outcome_text NoRoom count messages = chars "  -> refused 5 NO ROOM\n"

-- a step's number, and its line as written
unfoldable pub head_text : ℕ → List ℕ → List ℕ
head_text number line = decimal number ++ chars ": " ++ line ++ chars "\n"

-- why a line cannot be read
unfoldable pub reason_text : Reason → List ℕ
reason_text UnknownWord = chars "the first word is not attach, attach_msgpack, detach, send or bytes"
reason_text NoSlot = chars "the slot is missing or no number"
reason_text NoNumber = chars "the lent number is missing or no number"
reason_text NoMessage = chars "the message is missing"
reason_text TooLarge = chars "a number does not fit 64 bits"
reason_text AfterSlot = chars "something stands after the slot"
reason_text NoHex = chars "the bytes are no hex digits"

-- a line that cannot be read, by its number in the script
unfoldable pub wrong_text : ℕ → Reason → List ℕ
wrong_text line reason = chars "line " ++ decimal line ++ chars ": " ++ reason_text reason ++ chars "\n"
