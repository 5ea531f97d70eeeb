-- Lines of a script, read. Assumes nothing.
use Rattle.std.specs.Prelude.{Result, Ok, Err}
use Rattle.script.specs.declared.Reason.{Reason}
use mathlib.Core.Path.{◌≡◌, refl}
use mathlib.Core.List.{List, [], ◌∷◌, map}
use Prim.Native.Nat.{ℕ}
use Rattle.seq.specs.Bytes.{chars, same}
use Rattle.seq.specs.Lists.{every}
use Rattle.lex.specs.Lex.{run, past}
use Rattle.script.specs.declared.Reason.TheVariants.{UnknownWord, NoSlot, NoNumber, NoMessage, TooLarge, AfterSlot, NoHex}
use Rattle.hex_text.specs.Hex.{hex_value, is_whole}
use Rattle.script.specs.declared.Sent.{Sent}
use Rattle.script.specs.declared.Line.{Line}
use Rattle.script.specs.declared.Line.TheVariants.{Blank, Attach, AttachMsgPack, Detach, Send, Bytes}
use Rattle.script.specs.Numbers.{value_from, fitting, number_of}
use Rattle.script.specs.Script.{word_at, slot_alone, rest, message_at, in_hex, step, read_text, text_end, read_line}

-- slot 0 sends, under the lent number 4711, what stands from a place up to another
abbrev sent : ℕ → ℕ → Sent
sent from to = record { slot = 0; number = 4711; message = record { from = from; to = to } }

abbrev examples : List (List ℕ × Result Line Reason)
examples =
    (chars "", Ok Blank)
    ∷ (chars "  ", Ok Blank)
    ∷ (chars "# the station opens", Ok Blank)
    ∷ (chars "attach 07\r", Ok (Attach 7))
    ∷ (chars " detach  18446744073709551615 ", Ok (Detach 18446744073709551615))
    ∷ (chars "send 0 4711 [1,\"hub.bus\",{}]\r", Ok (Send (sent 12 28)))
    ∷ (chars "send  0  4711  x", Ok (Send (sent 14 16)))
    ∷ (chars "send 0 4711 ", Ok (Send (sent 12 12)))
    ∷ (chars "send 0 4711", Err NoMessage)
    ∷ (chars "send 0 [1,\"hub.bus\",{}]", Err NoNumber)
    ∷ (chars " attach_msgpack  7 ", Ok (AttachMsgPack 7))
    ∷ (chars "bytes 0 4711 9301c2\r", Ok (Bytes (sent 13 19)))
    ∷ (chars "bytes 0 4711 09aFAf", Ok (Bytes (sent 13 19)))
    ∷ (chars "bytes 0 4711 ", Ok (Bytes (sent 13 13)))
    ∷ (chars "bytes 0 4711 9301c", Err NoHex)
    ∷ (chars "bytes 0 4711 9301cg", Err NoHex)
    ∷ (chars "bytes 0 4711  9301", Err NoHex)
    ∷ (chars "bytes 0 4711 93 01 ", Err NoHex)
    ∷ (chars "bytes 0 4711", Err NoMessage)
    ∷ (chars "bytes 0 9301c2", Err NoNumber)
    ∷ (chars "bytes", Err NoSlot)
    ∷ (chars "attach_msgpack 0 1", Err AfterSlot)
    ∷ (chars "attach_json 0", Err UnknownWord)
    ∷ (chars "attach", Err NoSlot)
    ∷ (chars "attach one", Err NoSlot)
    ∷ (chars "attach 0 1", Err AfterSlot)
    ∷ (chars "attach 18446744073709551616", Err TooLarge)
    ∷ (chars "attached 0", Err UnknownWord)
    ∷ []

all_read : map (λ (x : List ℕ × Result Line Reason). read_line x.0) examples ≡ map (λ (x : List ℕ × Result Line Reason). x.1) examples
unfolding same every hex_value is_whole run past value_from fitting number_of word_at slot_alone rest message_at in_hex step read_text text_end read_line
all_read = refl
