-- Values and their bytes by computation: a record of a donor, and both sides of each edge. Assumes nothing.
use Prim.Native.Nat.{ℕ, zero, suc}
use mathlib.Core.List.{List, [], ◌∷◌}
use mathlib.Core.Bool.{true}
use mathlib.Core.Path.{◌≡◌, refl}
use lib.ListN.{length, replicate}
use Rattle.seq.specs.Bytes.{chars, same}
use Rattle.seq.specs.Lists.{All}
use Rattle.seq.specs.Decimal.{decimal, digits}
use Rattle.seq.specs.declared.Format.{Format}
use Rattle.seq.specs.declared.Format.TheVariants.{Json, MsgPack}
use Rattle.utf8.specs.Utf8.{continues, step, lead}
use Rattle.utf8.specs.Table.{encoding}
use Rattle.lex.specs.Lex.{run, past, some_digits, integer, hex4, is_escape, escape, char, string, quoted, first, next, colon}
use Rattle.strings.specs.Strings.{digit, unit, low_at, short, escape as unescape, undone_after, lone_after}
use Rattle.json_text.specs.Json.{literal}
use Rattle.elements.specs.Kinds.{decimal as natural}
use Rattle.msgpack.specs.Head.{head_at, head_of, form_of, forms, number, signed_head, half}
use Rattle.msgpack.specs.MsgPack.{text, bytes}
use Rattle.values.specs.Value.{Scalar, Member, Value}
use Rattle.values.specs.Value.Scalar.{Null, Flag, Whole, Below, Text}
use Rattle.values.specs.Value.Layer.{Plain, Items, Members}
use Rattle.values.specs.Read.Read.{Gives, Not}
use Rattle.values.specs.Write.{hex_digit, spelled, quoted_text, json_scalar, commaed, separated, json_member, json_layer, write}
use Rattle.values.specs.Write.{wide, pack_whole, pack_below, pack_str, pack_array, pack_map, pack_text, pack_scalar, pack_member, pack_layer}
use Rattle.values.specs.Stands.{member, quoted_at, whole_at, json_whole_at, json_below_at, json_scalar_at, series, enclosed, json_member_at, json_layer_at, stands}
use Rattle.values.specs.Stands.{text_at, pack_text_at, pack_scalar_at, items, pack_member_at, pack_layer_at}

-- a text, from its first byte to its last, stands for a value
abbrev For : Format → (depth : ℕ) → List ℕ → Value depth → Type 0
For f depth w v = stands f depth w 0 ≡ Gives v (length w)

-- and for nothing
abbrev ForNone : Format → ℕ → List ℕ → Type 0
ForNone f depth w = stands f depth w 0 ≡ Not

-- it is what is written, too
abbrev BothWays : Format → (depth : ℕ) → List ℕ → Value depth → Type 0
BothWays f depth w v = (write f depth v ≡ w) × For f depth w v

-- ---- a record of a donor
abbrev donor : Value 2
donor = Members (member (chars "id") (Plain (Text (chars "D\"17"))) ∷ member (chars "ml") (Items (Whole 450 ∷ Below 4 ∷ Null ∷ Flag true ∷ [])) ∷ [])

pub in-json : BothWays Json 2 (chars "{\"id\":\"D\\\"17\",\"ml\":[450,-5,null,true]}") donor
unfolding write json_layer separated commaed json_member json_scalar quoted_text spelled decimal digits
    stands json_layer_at enclosed series json_member_at json_scalar_at json_whole_at json_below_at whole_at natural quoted_at
    run past some_digits integer is_escape escape char string quoted first next colon literal same
    unescape short undone_after lone_after encoding
in-json = (refl, refl)

-- with white space, and a quote as a number
pub spaced-json : For Json 2 (chars "{\"id\" :\"D\\u002217\", \"ml\":[450, -5,null,true ]}") donor
unfolding stands json_layer_at enclosed series json_member_at json_scalar_at json_whole_at json_below_at whole_at natural quoted_at
    run past some_digits integer hex4 is_escape escape char string quoted first next colon literal same
    unescape digit unit low_at undone_after lone_after encoding
spaced-json = refl

abbrev packed : List ℕ
packed =
    0x82 ∷ 0xa2 ∷ 105 ∷ 100 ∷ 0xa4 ∷ 68 ∷ 34 ∷ 49 ∷ 55 ∷ 0xa2 ∷ 109 ∷ 108
    ∷ 0x94 ∷ 0xcd ∷ 1 ∷ 0xc2 ∷ 0xfb ∷ 0xc0 ∷ 0xc3 ∷ []

pub in-pack : BothWays MsgPack 2 packed donor
unfolding write pack_layer pack_member pack_scalar pack_text pack_str pack_array pack_map pack_whole pack_below wide stands
    pack_layer_at pack_member_at pack_scalar_at pack_text_at text_at items
    head_at head_of form_of forms number signed_head half text bytes continues step lead
in-pack = (refl, refl)

-- ---- integers in JSON
pub json-zero : BothWays Json 0 (chars "0") (Whole 0) × For Json 0 (chars "-0") (Whole 0)
unfolding write json_scalar decimal digits stands json_scalar_at json_whole_at json_below_at whole_at natural run past some_digits integer
json-zero = ((refl, refl), refl)

pub json-ends : BothWays Json 0 (chars "18446744073709551615") (Whole 0xffffffffffffffff) × ForNone Json 0 (chars "18446744073709551616")
    × BothWays Json 0 (chars "-9223372036854775808") (Below 0x7fffffffffffffff) × ForNone Json 0 (chars "-9223372036854775809")
unfolding write json_scalar decimal digits stands json_scalar_at json_whole_at json_below_at whole_at natural run past some_digits integer
json-ends = ((refl, refl), refl, (refl, refl), refl)

-- a fraction, or an exponent
pub json-parts : All (ForNone Json 0) (chars "1.0" ∷ chars "1e2" ∷ chars "1E2" ∷ chars "0.5" ∷ chars "-0.0" ∷ chars "-1e0" ∷ [])
unfolding stands json_scalar_at json_whole_at json_below_at whole_at natural run past some_digits integer
json-parts = (refl, (refl, (refl, (refl, (refl, (refl, tt))))))

-- ---- integers in MsgPack: both sides of each change of form
pub pack-whole : BothWays MsgPack 0 (0 ∷ []) (Whole 0)
    × BothWays MsgPack 0 (0x7f ∷ []) (Whole 127) × BothWays MsgPack 0 (0xcc ∷ 0x80 ∷ []) (Whole 128)
    × BothWays MsgPack 0 (0xcc ∷ 0xff ∷ []) (Whole 255) × BothWays MsgPack 0 (0xcd ∷ 1 ∷ 0 ∷ []) (Whole 256)
    × BothWays MsgPack 0 (0xcd ∷ 0xff ∷ 0xff ∷ []) (Whole 65535) × BothWays MsgPack 0 (0xce ∷ 0 ∷ 1 ∷ 0 ∷ 0 ∷ []) (Whole 65536)
    × BothWays MsgPack 0 (0xce ∷ 0xff ∷ 0xff ∷ 0xff ∷ 0xff ∷ []) (Whole 4294967295)
    × BothWays MsgPack 0 (0xcf ∷ 0 ∷ 0 ∷ 0 ∷ 1 ∷ 0 ∷ 0 ∷ 0 ∷ 0 ∷ []) (Whole 4294967296)
    × BothWays MsgPack 0 (0xcf ∷ 0xff ∷ 0xff ∷ 0xff ∷ 0xff ∷ 0xff ∷ 0xff ∷ 0xff ∷ 0xff ∷ []) (Whole 18446744073709551615)
unfolding write pack_scalar pack_whole wide stands pack_scalar_at pack_text_at head_at head_of form_of forms number signed_head half
pack-whole = ((refl, refl), (refl, refl), (refl, refl), (refl, refl), (refl, refl), (refl, refl), (refl, refl), (refl, refl), (refl, refl), (refl, refl))

pub pack-below : BothWays MsgPack 0 (0xff ∷ []) (Below 0)
    × BothWays MsgPack 0 (0xe0 ∷ []) (Below 31) × BothWays MsgPack 0 (0xd0 ∷ 0xdf ∷ []) (Below 32)
    × BothWays MsgPack 0 (0xd0 ∷ 0x80 ∷ []) (Below 127) × BothWays MsgPack 0 (0xd1 ∷ 0xff ∷ 0x7f ∷ []) (Below 128)
    × BothWays MsgPack 0 (0xd1 ∷ 0x80 ∷ 0 ∷ []) (Below 32767) × BothWays MsgPack 0 (0xd2 ∷ 0xff ∷ 0xff ∷ 0x7f ∷ 0xff ∷ []) (Below 32768)
    × BothWays MsgPack 0 (0xd2 ∷ 0x80 ∷ 0 ∷ 0 ∷ 0 ∷ []) (Below 2147483647)
    × BothWays MsgPack 0 (0xd3 ∷ 0xff ∷ 0xff ∷ 0xff ∷ 0xff ∷ 0x7f ∷ 0xff ∷ 0xff ∷ 0xff ∷ []) (Below 2147483648)
    × BothWays MsgPack 0 (0xd3 ∷ 0x80 ∷ 0 ∷ 0 ∷ 0 ∷ 0 ∷ 0 ∷ 0 ∷ 0 ∷ []) (Below 9223372036854775807)
unfolding write pack_scalar pack_below wide stands pack_scalar_at pack_text_at head_at head_of form_of forms number signed_head half
pack-below = ((refl, refl), (refl, refl), (refl, refl), (refl, refl), (refl, refl), (refl, refl), (refl, refl), (refl, refl), (refl, refl), (refl, refl))

-- forms that are not written: longer ones, and signed ones from 0 up
pub pack-longer : For MsgPack 0 (0xcc ∷ 5 ∷ []) (Whole 5) × For MsgPack 0 (0xcf ∷ 0 ∷ 0 ∷ 0 ∷ 0 ∷ 0 ∷ 0 ∷ 0 ∷ 5 ∷ []) (Whole 5)
    × For MsgPack 0 (0xd0 ∷ 5 ∷ []) (Whole 5) × For MsgPack 0 (0xd1 ∷ 0xff ∷ 0xff ∷ []) (Below 0)
    × For MsgPack 0 (0xd9 ∷ 1 ∷ 97 ∷ []) (Text (chars "a"))
unfolding stands pack_scalar_at pack_text_at text_at text bytes head_at head_of form_of forms number signed_head half continues step lead
pack-longer = (refl, refl, refl, refl, refl)

-- ---- what JSON has not: float, bin, ext; and hex C1, and bytes that are no UTF-8
pub pack-none : All (ForNone MsgPack 0)
    ((0xca ∷ 0 ∷ 0 ∷ 0 ∷ 0 ∷ []) ∷ (0xcb ∷ 0 ∷ 0 ∷ 0 ∷ 0 ∷ 0 ∷ 0 ∷ 0 ∷ 0 ∷ []) ∷ (0xc4 ∷ 1 ∷ 97 ∷ []) ∷ (0xd4 ∷ 0 ∷ 97 ∷ []) ∷ (0xc7 ∷ 1 ∷ 0 ∷ 97 ∷ [])
    ∷ (0xc1 ∷ []) ∷ (0xa1 ∷ 0xff ∷ []) ∷ [])
unfolding stands pack_scalar_at pack_text_at text_at text bytes head_at head_of form_of forms number signed_head half continues step lead
pack-none = (refl, (refl, (refl, (refl, (refl, (refl, (refl, tt)))))))

-- a key that is nil, an integer, or bin, before the value 1; and one that is a str
pub pack-keys : All (ForNone MsgPack 1) ((0x81 ∷ 0xc0 ∷ 1 ∷ []) ∷ (0x81 ∷ 1 ∷ 1 ∷ []) ∷ (0x81 ∷ 0xc4 ∷ 1 ∷ 97 ∷ 1 ∷ []) ∷ [])
    × For MsgPack 1 (0x81 ∷ 0xa1 ∷ 97 ∷ 1 ∷ []) (Members (member (chars "a") (Whole 1) ∷ []))
unfolding stands pack_layer_at pack_member_at pack_scalar_at pack_text_at text_at text bytes items head_at head_of form_of forms number continues step lead
pack-keys = ((refl, (refl, (refl, tt))), refl)

-- ---- strings in JSON
pub json-strings : BothWays Json 0 (chars "\"\\u001f\"") (Text (0x1f ∷ [])) × BothWays Json 0 (chars "\"\\u0000\\u000a\"") (Text (0 ∷ 10 ∷ []))
    × BothWays Json 0 (chars "\" \\\"\\\\/\"") (Text (32 ∷ 34 ∷ 92 ∷ 47 ∷ []))
    × BothWays Json 0 (34 ∷ 0x7f ∷ 34 ∷ []) (Text (0x7f ∷ [])) × BothWays Json 0 (34 ∷ 0xc3 ∷ 0xa9 ∷ 34 ∷ []) (Text (0xc3 ∷ 0xa9 ∷ []))
unfolding write json_scalar quoted_text spelled hex_digit stands json_scalar_at quoted_at
    hex4 is_escape escape char string quoted unescape digit unit low_at short undone_after lone_after encoding
json-strings = ((refl, refl), (refl, refl), (refl, refl), (refl, refl), (refl, refl))

-- spellings that are not written
pub json-spellings : For Json 0 (chars "\"\\u001F\"") (Text (0x1f ∷ [])) × For Json 0 (chars "\"\\/\\n\\u0041\"") (Text (47 ∷ 10 ∷ 65 ∷ []))
unfolding stands json_scalar_at quoted_at hex4 is_escape escape char string quoted unescape digit unit low_at short undone_after lone_after encoding
json-spellings = (refl, refl)

-- a pair of halves is one character, a lone half none
pub json-halves : For Json 0 (chars "\"\\ud83d\\ude00\"") (Text (0xf0 ∷ 0x9f ∷ 0x98 ∷ 0x80 ∷ []))
    × All (ForNone Json 0) (chars "\"\\ud83d\"" ∷ chars "\"\\ude00\"" ∷ chars "\"\\ud83d\\ud83d\\ude00\"" ∷ [])
    × ForNone Json 1 (chars "{\"\\ud83d\":1}")
unfolding stands json_layer_at enclosed series json_member_at json_scalar_at quoted_at
    run past hex4 is_escape escape char string quoted first
    unescape digit unit low_at undone_after lone_after encoding
json-halves = (refl, (refl, (refl, (refl, tt))), refl)

-- ---- depth: a list or a dict more than may be opened
pub json-deep : All (ForNone Json 0) (chars "[]" ∷ chars "{}" ∷ []) × BothWays Json 1 (chars "[]") (Items []) × BothWays Json 1 (chars "{}") (Members [])
    × ForNone Json 1 (chars "[[]]") × BothWays Json 2 (chars "[[]]") (Items (Items [] ∷ []))
unfolding write json_layer separated commaed stands json_layer_at enclosed series json_scalar_at run past first next
json-deep = ((refl, (refl, tt)), (refl, refl), (refl, refl), refl, (refl, refl))

pub pack-deep : All (ForNone MsgPack 0) ((0x90 ∷ []) ∷ (0x80 ∷ []) ∷ []) × BothWays MsgPack 1 (0x90 ∷ []) (Items []) × BothWays MsgPack 1 (0x80 ∷ []) (Members [])
    × ForNone MsgPack 1 (0x91 ∷ 0x90 ∷ []) × BothWays MsgPack 2 (0x91 ∷ 0x90 ∷ []) (Items (Items [] ∷ []))
unfolding write pack_layer pack_array pack_map wide stands pack_layer_at pack_scalar_at pack_text_at items head_at head_of form_of number
pack-deep = ((refl, (refl, tt)), (refl, refl), (refl, refl), refl, (refl, refl))

-- ---- lengths in MsgPack
pub pack-texts : BothWays MsgPack 0 (0xbf ∷ replicate 31 97) (Text (replicate 31 97))
    × BothWays MsgPack 0 (0xd9 ∷ 32 ∷ replicate 32 97) (Text (replicate 32 97))
    × BothWays MsgPack 0 (0xd9 ∷ 255 ∷ replicate 255 97) (Text (replicate 255 97))
    × BothWays MsgPack 0 (0xda ∷ 1 ∷ 0 ∷ replicate 256 97) (Text (replicate 256 97))
unfolding write pack_scalar pack_text pack_str wide stands pack_scalar_at pack_text_at text_at
    head_at head_of form_of forms number text bytes continues step lead
pack-texts = ((refl, refl), (refl, refl), (refl, refl), (refl, refl))

pub pack-arrays : BothWays MsgPack 1 (0x9f ∷ replicate 15 0xc0) (Items (replicate 15 Null))
    × BothWays MsgPack 1 (0xdc ∷ 0 ∷ 16 ∷ replicate 16 0xc0) (Items (replicate 16 Null))
unfolding write pack_layer pack_array pack_scalar wide stands pack_layer_at pack_scalar_at items head_at head_of form_of forms number
pack-arrays = ((refl, refl), (refl, refl))

-- n members with keys of one byte, and their bytes
abbrev numbered : ℕ → List (Member Scalar)
numbered zero = []
numbered (suc n) = member (n ∷ []) Null ∷ numbered n

abbrev numbered_bytes : ℕ → List ℕ
numbered_bytes zero = []
numbered_bytes (suc n) = 0xa1 ∷ n ∷ 0xc0 ∷ numbered_bytes n

pub pack-maps : BothWays MsgPack 1 (0x8f ∷ numbered_bytes 15) (Members (numbered 15))
    × BothWays MsgPack 1 (0xde ∷ 0 ∷ 16 ∷ numbered_bytes 16) (Members (numbered 16))
unfolding write pack_layer pack_member pack_scalar pack_text pack_str pack_map wide stands
    pack_layer_at pack_member_at pack_scalar_at pack_text_at text_at items
    head_at head_of form_of forms number text bytes continues step lead
pack-maps = ((refl, refl), (refl, refl))

-- heads of what is longer
pub pack-heads : (pack_str 65535 ≡ 0xda ∷ 0xff ∷ 0xff ∷ []) × (pack_str 65536 ≡ 0xdb ∷ 0 ∷ 1 ∷ 0 ∷ 0 ∷ [])
    × (pack_array 65535 ≡ 0xdc ∷ 0xff ∷ 0xff ∷ []) × (pack_array 65536 ≡ 0xdd ∷ 0 ∷ 1 ∷ 0 ∷ 0 ∷ [])
    × (pack_map 65535 ≡ 0xde ∷ 0xff ∷ 0xff ∷ []) × (pack_map 65536 ≡ 0xdf ∷ 0 ∷ 1 ∷ 0 ∷ 0 ∷ [])
unfolding pack_str pack_array pack_map wide
pack-heads = (refl, refl, refl, refl, refl, refl)
