-- A script of steps for the hub, one to a line: `attach SLOT`, `attach_msgpack SLOT`, `detach SLOT`, `send SLOT NUMBER MESSAGE`,
-- `bytes SLOT NUMBER HEX`.
use Rattle.std.specs.Prelude.{ℕ, Result, Ok, Err, ◌+◌, ◌-◌, cond, not, ◌||◌, List, length, eqb}
use Prim.Native.Char.{code}
use Rattle.script.specs.declared.Reason.{Reason}
use Rattle.seq.specs.declared.Span.{Span}
use Rattle.seq.specs.Bytes.{is, chars, byte_at, part, same, text_of}
use Rattle.lex.specs.Lex.{past}
use Rattle.hex_text.specs.Hex.{is_whole}
use Rattle.script.specs.declared.Reason.TheVariants.{UnknownWord, NoSlot, NoNumber, NoMessage, AfterSlot, NoHex}
use Rattle.script.specs.declared.Sent.{Sent}
use Rattle.script.specs.declared.Line.{Line}
use Rattle.script.specs.declared.Line.TheVariants.{Blank, Attach, AttachMsgPack, Detach, Send, Bytes}
use Rattle.script.specs.Numbers.{number_of}

-- the first place from `at` on that holds this byte; the end where none does
abbrev pub upto : ℕ → List ℕ → ℕ → ℕ
upto b s at = past (λ x. not (eqb x b)) s at

-- the end of the line that goes on at a place: the next line feed, or the end of the text
abbrev pub line_end : List ℕ → ℕ → ℕ
line_end s at = upto (code "\n") s at

-- the first place from `at` on that holds no space
abbrev pub spaces : List ℕ → ℕ → ℕ
spaces s at = past (is " ") s at

-- the next word from a place on: past the spaces, up to the next space or the end
unfoldable pub word_at : List ℕ → ℕ → Span
word_at s at = record { from = spaces s at; to = upto (code " ") s (spaces s at) }

-- the number of the next word
abbrev pub number_at : Reason → List ℕ → ℕ → Result ℕ Reason
number_at missing s at = number_of missing (text_of s (word_at s at))

-- what to do with a value, where there is no reason against it
abbrev pub on_ok : {A B : Type 0} → Result A Reason → (A → Result B Reason) → Result B Reason
on_ok (Ok x) f = f x
on_ok (Err reason) f = Err reason

-- a slot after which nothing but spaces stands
unfoldable pub slot_alone : List ℕ → ℕ → Result ℕ Reason
slot_alone s at = cond (eqb (spaces s (word_at s at).to) (length s)) (number_at NoSlot s at) (Err AfterSlot)

-- the message is the rest of the line, after the one space behind the lent number; it may be empty
unfoldable pub rest : List ℕ → ℕ → ℕ → ℕ → Result Sent Reason
rest s slot number at =
    cond (is " " (byte_at s at))
    (Ok (record { slot = slot; number = number; message = record { from = at + 1; to = length s } }))
    (Err NoMessage)

-- what follows the word `send` or `bytes`
unfoldable pub message_at : List ℕ → ℕ → Result Sent Reason
message_at s at =
    on_ok (number_at NoSlot s at) (λ slot.
    on_ok (number_at NoNumber s (word_at s at).to) (λ number.
    rest s slot number (word_at s (word_at s at).to).to))

-- a message that is given in hex: two digits for each byte, and nothing else
unfoldable pub in_hex : List ℕ → Sent → Result Line Reason
in_hex s sent = cond (is_whole (text_of s sent.message)) (Ok (Bytes sent)) (Err NoHex)

-- a line by its first word
unfoldable pub step : List ℕ → Span → Result Line Reason
step s word =
    cond (same (text_of s word) (chars "attach")) (on_ok (slot_alone s word.to) (λ slot. Ok (Attach slot)))
    (cond (same (text_of s word) (chars "attach_msgpack")) (on_ok (slot_alone s word.to) (λ slot. Ok (AttachMsgPack slot)))
    (cond (same (text_of s word) (chars "detach")) (on_ok (slot_alone s word.to) (λ slot. Ok (Detach slot)))
    (cond (same (text_of s word) (chars "send")) (on_ok (message_at s word.to) (λ sent. Ok (Send sent)))
    (cond (same (text_of s word) (chars "bytes")) (on_ok (message_at s word.to) (in_hex s))
    (Err UnknownWord)))))

-- a line of spaces alone, or whose first word begins with `#`, is no step
unfoldable pub read_text : List ℕ → Result Line Reason
read_text s = cond (eqb (word_at s 0).from (length s) || is "#" (byte_at s (word_at s 0).from)) (Ok Blank) (step s (word_at s 0))

-- the length of a line without the carriage return at its end
unfoldable pub text_end : List ℕ → ℕ
text_end s = cond (is "\r" (byte_at s (length s - 1))) (length s - 1) (length s)

unfoldable pub read_line : List ℕ → Result Line Reason
read_line s = read_text (part 0 (text_end s) s)
