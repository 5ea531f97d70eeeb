-- Messages and the texts that they are shown as, by computation. Assumes nothing.
use mathlib.Core.Path.{◌≡◌, refl}
use mathlib.Core.List.{List, [], ◌∷◌, map}
use Prim.Native.Nat.{ℕ}
use Rattle.seq.specs.Bytes.{chars}
use Rattle.seq.specs.Lists.{every}
use Rattle.seq.specs.Decimal.{decimal, digits}
use Rattle.utf8.specs.Utf8.{continues, step, lead}
use Rattle.msgpack.specs.Head.{head_at, head_of, form_of, forms, number, signed_head, half}
use Rattle.msgpack.specs.MsgPack.{text, bytes}
use Rattle.values.specs.Write.{spelled, quoted_text, json_scalar, commaed, separated, json_member, json_layer, write}
use Rattle.values.specs.Stands.{stands, text_at, pack_text_at, pack_scalar_at, items, pack_member_at, pack_layer_at}
use Rattle.conversion.specs.Converts.{convert}
use Rattle.hex_text.specs.Hex.{hex_value, bytes_of, hex_digit, hex_byte}
use Rattle.report.specs.Text.{hex_text, packed_text, body_text}

-- a message, and its text
abbrev examples : List (List ℕ × List ℕ)
examples =
    (chars "[36,2,70016,{},[\"full\"]]", chars "[36,2,70016,{},[\"full\"]]")
    ∷ ([], [])
    ∷ (bytes_of (chars "952402ce000111808091a466756c6c"), chars "msgpack [36,2,70016,{},[\"full\"]]")
    -- a member whose value is below 0
    ∷ (bytes_of (chars "93320181a163ff"), chars "msgpack [50,1,{\"c\":-1}]")
    -- a float, a byte left over, and a value that is cut
    ∷ (bytes_of (chars "91ca3f800000"), chars "msgpack hex 91ca3f800000")
    ∷ (bytes_of (chars "91c0C0"), chars "msgpack hex 91c0c0")
    ∷ (bytes_of (chars "92c0"), chars "msgpack hex 92c0")
    -- eight lists in each other, and nine
    ∷ (bytes_of (chars "9191919191919190"), chars "msgpack [[[[[[[[]]]]]]]]")
    ∷ (bytes_of (chars "919191919191919190"), chars "msgpack hex 919191919191919190")
    ∷ []

all_shown : map (λ (x : List ℕ × List ℕ). body_text x.0) examples ≡ map (λ (x : List ℕ × List ℕ). x.1) examples
unfolding every hex_value bytes_of hex_digit hex_byte hex_text packed_text body_text convert decimal digits continues step lead
    head_at head_of form_of forms number signed_head half text bytes stands text_at pack_text_at pack_scalar_at items pack_member_at pack_layer_at
    spelled quoted_text json_scalar commaed separated json_member json_layer write
all_shown = refl
