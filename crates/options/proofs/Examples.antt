-- Values of the options read by computation in either format, both sides of each edge, and what the options leave of some sessions. Assumes
-- nothing.
use Prim.Native.Nat.{ℕ}
use mathlib.Core.Bool.{Bool, true, false}
use mathlib.Core.List.{List, [], ◌∷◌}
use mathlib.Core.Path.{◌≡◌, refl}
use Rattle.seq.specs.declared.Format.{Format}
use Rattle.seq.specs.declared.Format.TheVariants.{Json, MsgPack}
use Rattle.seq.specs.Lists.{All, every}
use Rattle.seq.specs.Bytes.{chars, same, among}
use Rattle.utf8.specs.Utf8.{lead, step, continues}
use Rattle.lex.specs.Lex.{run, past, some_digits, integer, fraction, minus, signed, exponent, number, char, string, quoted, first, next, colon}
use Rattle.json_text.specs.Json.{literal, series, enclosed, members, braced, by_first, value}
use Rattle.msgpack.specs.Head.{forms, form_of, number as number-packed, half, signed_head, head_of, head_at}
use Rattle.msgpack.specs.MsgPack.{bytes, text, times, with_key, again, pairs, by_head, value as value-packed}
use Rattle.elements.specs.Kinds.{decimal, id_from, id_of}
use Rattle.elements.specs.Elements.{items, elements, outer}
use Rattle.arrays.specs.Arrays.{spans, outer as outer-packed, id_of as id-packed}
use Rattle.options.specs.Audience.{OptionValue, Absent, Wrong, Given, Audience, flag_of, listed, ids_of, lists, leaves, any_wrong}

-- ---- `exclude_me`
record Flag : Type 0 where
  format : Format
  bytes : List ℕ
  is : OptionValue Bool

abbrev FlagIs : Flag → Type 0
FlagIs c = flag_of c.format c.bytes ≡ c.is

abbrev json-flag : List ℕ → OptionValue Bool → Flag
json-flag bytes is = record { format = Json; bytes = bytes; is = is }

abbrev pack-flag : List ℕ → OptionValue Bool → Flag
pack-flag bytes is = record { format = MsgPack; bytes = bytes; is = is }

abbrev flags-cases : List Flag
flags-cases =
    json-flag (chars "true") (Given true)
    ∷ json-flag (chars "false") (Given false)
    ∷ json-flag (chars "null") Wrong
    ∷ json-flag (chars "1") Wrong
    ∷ json-flag (chars "\"true\"") Wrong
    ∷ json-flag (chars "[true]") Wrong
    ∷ json-flag (chars "true ") Wrong
    ∷ json-flag (chars "True") Wrong
    ∷ json-flag [] Absent
    -- true, false, nil, 1, a str, an array, and both at once
    ∷ pack-flag (0xc3 ∷ []) (Given true)
    ∷ pack-flag (0xc2 ∷ []) (Given false)
    ∷ pack-flag (0xc0 ∷ []) Wrong
    ∷ pack-flag (0x01 ∷ []) Wrong
    ∷ pack-flag (0xa4 ∷ 0x74 ∷ 0x72 ∷ 0x75 ∷ 0x65 ∷ []) Wrong
    ∷ pack-flag (0x91 ∷ 0xc3 ∷ []) Wrong
    ∷ pack-flag (0xc3 ∷ 0xc2 ∷ []) Wrong
    ∷ pack-flag [] Absent
    ∷ []

pub flags : All FlagIs flags-cases
unfolding same flag_of
flags = (refl, (refl, (refl, (refl, (refl, (refl, (refl, (refl, (refl, (refl, (refl, (refl, (refl, (refl, (refl, (refl, (refl, tt)))))))))))))))))

-- ---- `exclude` and `eligible`
record Ids : Type 0 where
  format : Format
  bytes : List ℕ
  is : OptionValue (List ℕ)

abbrev IdsAre : Ids → Type 0
IdsAre c = ids_of c.format c.bytes ≡ c.is

abbrev json : List ℕ → OptionValue (List ℕ) → Ids
json bytes is = record { format = Json; bytes = bytes; is = is }

abbrev packed : List ℕ → OptionValue (List ℕ) → Ids
packed bytes is = record { format = MsgPack; bytes = bytes; is = is }

abbrev json-lists-cases : List Ids
json-lists-cases =
    -- none, one and eight; a ninth; equal entries
    json [] Absent
    ∷ json (chars "[]") (Given [])
    ∷ json (chars "[1]") (Given (1 ∷ []))
    ∷ json (chars "[1,2,3,4,5,6,7,8]") (Given (1 ∷ 2 ∷ 3 ∷ 4 ∷ 5 ∷ 6 ∷ 7 ∷ 8 ∷ []))
    ∷ json (chars "[1,2,3,4,5,6,7,8,9]") Wrong
    ∷ json (chars "[7,7,7]") (Given (7 ∷ 7 ∷ 7 ∷ []))
    ∷ json (chars "[7,7,7,7,7,7,7,7,7]") Wrong
    -- 1 to 2^53, in digits only
    ∷ json (chars "[9007199254740992]") (Given (9007199254740992 ∷ []))
    ∷ json (chars "[9007199254740993]") Wrong
    ∷ json (chars "[0]") Wrong
    ∷ json (chars "[1,0]") Wrong
    ∷ json (chars "[01]") Wrong
    ∷ json (chars "[1.0]") Wrong
    ∷ json (chars "[1e0]") Wrong
    ∷ json (chars "[-1]") Wrong
    -- other elements
    ∷ json (chars "[\"1\"]") Wrong
    ∷ json (chars "[null]") Wrong
    ∷ json (chars "[true]") Wrong
    ∷ json (chars "[[1]]") Wrong
    ∷ json (chars "[{}]") Wrong
    ∷ json (chars "[[],1]") Wrong
    -- white space; a comma too many, and too few
    ∷ json (chars "[ 1 ,  2 ]") (Given (1 ∷ 2 ∷ []))
    ∷ json (chars " [1] ") (Given (1 ∷ []))
    ∷ json (chars "[1,]") Wrong
    ∷ json (chars "[,1]") Wrong
    ∷ json (chars "[1 2]") Wrong
    -- other values, and bytes after a list
    ∷ json (chars "null") Wrong
    ∷ json (chars "1") Wrong
    ∷ json (chars "\"[1]\"") Wrong
    ∷ json (chars "{}") Wrong
    ∷ json (chars "[1]x") Wrong
    ∷ json (chars "[1][2]") Wrong
    ∷ json (chars "[1") Wrong
    ∷ json (chars " ") Wrong
    ∷ []

pub json-lists : All IdsAre json-lists-cases
unfolding same among every run past some_digits integer fraction minus signed exponent number char string quoted first next colon literal series
    enclosed members braced by_first value decimal id_from id_of items elements outer listed ids_of
json-lists = (refl, (refl, (refl, (refl, (refl, (refl, (refl, (refl, (refl, (refl, (refl, (refl, (refl, (refl, (refl, (refl, (refl, (refl, (refl, (refl, (refl, (refl, (refl, (refl, (refl, (refl, (refl, (refl, (refl, (refl, (refl, (refl, (refl, (refl, tt))))))))))))))))))))))))))))))))))

abbrev packed-lists-cases : List Ids
packed-lists-cases =
    -- none, one and eight; a ninth; equal entries
    packed [] Absent
    ∷ packed (0x90 ∷ []) (Given [])
    ∷ packed (0x91 ∷ 0x01 ∷ []) (Given (1 ∷ []))
    ∷ packed (0x98 ∷ 0x01 ∷ 0x02 ∷ 0x03 ∷ 0x04 ∷ 0x05 ∷ 0x06 ∷ 0x07 ∷ 0x08 ∷ []) (Given (1 ∷ 2 ∷ 3 ∷ 4 ∷ 5 ∷ 6 ∷ 7 ∷ 8 ∷ []))
    ∷ packed (0x99 ∷ 0x01 ∷ 0x02 ∷ 0x03 ∷ 0x04 ∷ 0x05 ∷ 0x06 ∷ 0x07 ∷ 0x08 ∷ 0x09 ∷ []) Wrong
    ∷ packed (0x93 ∷ 0x07 ∷ 0x07 ∷ 0x07 ∷ []) (Given (7 ∷ 7 ∷ 7 ∷ []))
    -- array 16 and array 32, of 0, 2, 8 and 9
    ∷ packed (0xdc ∷ 0x00 ∷ 0x02 ∷ 0x01 ∷ 0x02 ∷ []) (Given (1 ∷ 2 ∷ []))
    ∷ packed (0xdd ∷ 0x00 ∷ 0x00 ∷ 0x00 ∷ 0x02 ∷ 0x01 ∷ 0x02 ∷ []) (Given (1 ∷ 2 ∷ []))
    ∷ packed (0xdc ∷ 0x00 ∷ 0x00 ∷ []) (Given [])
    ∷ packed (0xdd ∷ 0x00 ∷ 0x00 ∷ 0x00 ∷ 0x00 ∷ []) (Given [])
    ∷ packed (0xdc ∷ 0x00 ∷ 0x08 ∷ 0x01 ∷ 0x02 ∷ 0x03 ∷ 0x04 ∷ 0x05 ∷ 0x06 ∷ 0x07 ∷ 0x08 ∷ []) (Given (1 ∷ 2 ∷ 3 ∷ 4 ∷ 5 ∷ 6 ∷ 7 ∷ 8 ∷ []))
    ∷ packed (0xdc ∷ 0x00 ∷ 0x09 ∷ 0x01 ∷ 0x02 ∷ 0x03 ∷ 0x04 ∷ 0x05 ∷ 0x06 ∷ 0x07 ∷ 0x08 ∷ 0x09 ∷ []) Wrong
    ∷ packed (0xdd ∷ 0x00 ∷ 0x00 ∷ 0x00 ∷ 0x09 ∷ 0x01 ∷ 0x02 ∷ 0x03 ∷ 0x04 ∷ 0x05 ∷ 0x06 ∷ 0x07 ∷ 0x08 ∷ 0x09 ∷ []) Wrong
    -- an integer of any form: positive fixint, uint 8 to 64, int 8 to 64
    ∷ packed (0x91 ∷ 0xcc ∷ 0x05 ∷ []) (Given (5 ∷ []))
    ∷ packed (0x91 ∷ 0xcd ∷ 0x00 ∷ 0x05 ∷ []) (Given (5 ∷ []))
    ∷ packed (0x91 ∷ 0xce ∷ 0x00 ∷ 0x00 ∷ 0x00 ∷ 0x05 ∷ []) (Given (5 ∷ []))
    ∷ packed (0x91 ∷ 0xcf ∷ 0x00 ∷ 0x00 ∷ 0x00 ∷ 0x00 ∷ 0x00 ∷ 0x00 ∷ 0x00 ∷ 0x05 ∷ []) (Given (5 ∷ []))
    ∷ packed (0x91 ∷ 0xd0 ∷ 0x05 ∷ []) (Given (5 ∷ []))
    ∷ packed (0x91 ∷ 0xd1 ∷ 0x00 ∷ 0x05 ∷ []) (Given (5 ∷ []))
    ∷ packed (0x91 ∷ 0xd2 ∷ 0x00 ∷ 0x00 ∷ 0x00 ∷ 0x05 ∷ []) (Given (5 ∷ []))
    ∷ packed (0x91 ∷ 0xd3 ∷ 0x00 ∷ 0x00 ∷ 0x00 ∷ 0x00 ∷ 0x00 ∷ 0x00 ∷ 0x00 ∷ 0x05 ∷ []) (Given (5 ∷ []))
    ∷ packed (0x92 ∷ 0x7f ∷ 0xcc ∷ 0x80 ∷ []) (Given (127 ∷ 128 ∷ []))
    -- 1 to 2^53
    ∷ packed (0x91 ∷ 0xcf ∷ 0x00 ∷ 0x20 ∷ 0x00 ∷ 0x00 ∷ 0x00 ∷ 0x00 ∷ 0x00 ∷ 0x00 ∷ []) (Given (9007199254740992 ∷ []))
    ∷ packed (0x91 ∷ 0xd3 ∷ 0x00 ∷ 0x20 ∷ 0x00 ∷ 0x00 ∷ 0x00 ∷ 0x00 ∷ 0x00 ∷ 0x00 ∷ []) (Given (9007199254740992 ∷ []))
    ∷ packed (0x91 ∷ 0xcf ∷ 0x00 ∷ 0x20 ∷ 0x00 ∷ 0x00 ∷ 0x00 ∷ 0x00 ∷ 0x00 ∷ 0x01 ∷ []) Wrong
    ∷ packed (0x91 ∷ 0xd3 ∷ 0x00 ∷ 0x20 ∷ 0x00 ∷ 0x00 ∷ 0x00 ∷ 0x00 ∷ 0x00 ∷ 0x01 ∷ []) Wrong
    ∷ packed (0x91 ∷ 0x00 ∷ []) Wrong
    ∷ packed (0x92 ∷ 0x01 ∷ 0xcc ∷ 0x00 ∷ []) Wrong
    -- negative: -1, and -6 in each width
    ∷ packed (0x91 ∷ 0xff ∷ []) Wrong
    ∷ packed (0x91 ∷ 0xd0 ∷ 0xfa ∷ []) Wrong
    ∷ packed (0x91 ∷ 0xd1 ∷ 0xff ∷ 0xfa ∷ []) Wrong
    ∷ packed (0x91 ∷ 0xd2 ∷ 0xff ∷ 0xff ∷ 0xff ∷ 0xfa ∷ []) Wrong
    ∷ packed (0x91 ∷ 0xd3 ∷ 0xff ∷ 0xff ∷ 0xff ∷ 0xff ∷ 0xff ∷ 0xff ∷ 0xff ∷ 0xfa ∷ []) Wrong
    -- 1.0 in both floats, str, nil, true, array, map, bin
    ∷ packed (0x91 ∷ 0xca ∷ 0x3f ∷ 0x80 ∷ 0x00 ∷ 0x00 ∷ []) Wrong
    ∷ packed (0x91 ∷ 0xcb ∷ 0x3f ∷ 0xf0 ∷ 0x00 ∷ 0x00 ∷ 0x00 ∷ 0x00 ∷ 0x00 ∷ 0x00 ∷ []) Wrong
    ∷ packed (0x91 ∷ 0xa1 ∷ 0x31 ∷ []) Wrong
    ∷ packed (0x91 ∷ 0xc0 ∷ []) Wrong
    ∷ packed (0x91 ∷ 0xc3 ∷ []) Wrong
    ∷ packed (0x91 ∷ 0x91 ∷ 0x01 ∷ []) Wrong
    ∷ packed (0x91 ∷ 0x80 ∷ []) Wrong
    ∷ packed (0x91 ∷ 0xc4 ∷ 0x01 ∷ 0x01 ∷ []) Wrong
    -- other values, a count that is not met, and bytes after an array
    ∷ packed (0xc0 ∷ []) Wrong
    ∷ packed (0x01 ∷ []) Wrong
    ∷ packed (0xa1 ∷ 0x31 ∷ []) Wrong
    ∷ packed (0x80 ∷ []) Wrong
    ∷ packed (0x92 ∷ 0x01 ∷ []) Wrong
    ∷ packed (0x91 ∷ 0x01 ∷ 0x02 ∷ []) Wrong
    ∷ packed (0x91 ∷ []) Wrong
    ∷ packed (0xdc ∷ 0x00 ∷ []) Wrong
    ∷ []

pub packed-lists : All IdsAre packed-lists-cases
unfolding same among every lead step continues forms form_of number-packed half signed_head head_of head_at bytes text times with_key again pairs
    by_head value-packed spans outer-packed id-packed listed ids_of
packed-lists = (refl, (refl, (refl, (refl, (refl, (refl, (refl, (refl, (refl, (refl, (refl, (refl, (refl, (refl, (refl, (refl, (refl, (refl, (refl, (refl, (refl, (refl, (refl, (refl, (refl, (refl, (refl, (refl, (refl, (refl, (refl, (refl, (refl, (refl, (refl, (refl, (refl, (refl, (refl, (refl, (refl, (refl, (refl, (refl, (refl, (refl, (refl, (refl, (refl, tt)))))))))))))))))))))))))))))))))))))))))))))))))

-- ---- which sessions the options leave
record Session : Type 0 where
  options : Audience
  own : Bool
  id : ℕ
  is : Bool

abbrev LeavesIs : Session → Type 0
LeavesIs c = leaves c.options c.own c.id ≡ c.is

abbrev given : OptionValue Bool → OptionValue (List ℕ) → OptionValue (List ℕ) → Audience
given exclude_me exclude eligible = record { exclude_me = exclude_me; exclude = exclude; eligible = eligible }

-- the publisher's own session, and another
abbrev own : Audience → ℕ → Bool → Session
own options id is = record { options = options; own = true; id = id; is = is }

abbrev other : Audience → ℕ → Bool → Session
other options id is = record { options = options; own = false; id = id; is = is }

abbrev left-cases : List Session
left-cases =
    -- nothing given
    other (given Absent Absent Absent) 7 true
    ∷ own (given Absent Absent Absent) 7 false
    -- `exclude_me`
    ∷ own (given (Given true) Absent Absent) 7 false
    ∷ own (given (Given false) Absent Absent) 7 true
    ∷ own (given Wrong Absent Absent) 7 false
    ∷ other (given (Given true) Absent Absent) 7 true
    ∷ other (given (Given false) Absent Absent) 7 true
    -- `exclude`
    ∷ other (given Absent (Given (5 ∷ 7 ∷ [])) Absent) 7 false
    ∷ other (given Absent (Given (5 ∷ 7 ∷ [])) Absent) 5 false
    ∷ other (given Absent (Given (5 ∷ 7 ∷ [])) Absent) 6 true
    ∷ other (given Absent (Given []) Absent) 7 true
    ∷ other (given Absent Wrong Absent) 7 true
    -- `eligible`
    ∷ other (given Absent Absent (Given (5 ∷ 7 ∷ []))) 7 true
    ∷ other (given Absent Absent (Given (5 ∷ 7 ∷ []))) 5 true
    ∷ other (given Absent Absent (Given (5 ∷ 7 ∷ []))) 6 false
    ∷ other (given Absent Absent (Given [])) 7 false
    ∷ other (given Absent Absent Wrong) 7 true
    -- `exclude` and `exclude_me`; `eligible` and `exclude_me`; `exclude` and `eligible`
    ∷ own (given (Given false) (Given (5 ∷ 7 ∷ [])) Absent) 7 false
    ∷ own (given (Given false) (Given (5 ∷ 7 ∷ [])) Absent) 6 true
    ∷ own (given Absent Absent (Given (5 ∷ 7 ∷ []))) 7 false
    ∷ own (given (Given false) Absent (Given (5 ∷ 7 ∷ []))) 7 true
    ∷ own (given (Given false) Absent (Given (5 ∷ 7 ∷ []))) 6 false
    ∷ other (given Absent (Given (7 ∷ [])) (Given (5 ∷ 7 ∷ []))) 7 false
    ∷ other (given Absent (Given (7 ∷ [])) (Given (5 ∷ 7 ∷ []))) 5 true
    -- all three
    ∷ own (given (Given false) (Given (5 ∷ [])) (Given (5 ∷ 7 ∷ []))) 7 true
    ∷ own (given (Given true) (Given (5 ∷ [])) (Given (5 ∷ 7 ∷ []))) 7 false
    ∷ own (given (Given false) (Given (5 ∷ [])) (Given (5 ∷ 7 ∷ []))) 5 false
    ∷ own (given (Given false) (Given (5 ∷ [])) (Given (5 ∷ 7 ∷ []))) 8 false
    ∷ other (given (Given true) (Given (5 ∷ [])) (Given (5 ∷ 7 ∷ []))) 7 true
    ∷ other (given (Given true) (Given (5 ∷ [])) (Given (5 ∷ 7 ∷ []))) 5 false
    ∷ []

pub left : All LeavesIs left-cases
unfolding lists leaves
left = (refl, (refl, (refl, (refl, (refl, (refl, (refl, (refl, (refl, (refl, (refl, (refl, (refl, (refl, (refl, (refl, (refl, (refl, (refl, (refl, (refl, (refl, (refl, (refl, (refl, (refl, (refl, (refl, (refl, (refl, tt))))))))))))))))))))))))))))))

-- ---- one of them is wrong
record Check : Type 0 where
  options : Audience
  is : Bool

abbrev WrongIs : Check → Type 0
WrongIs c = any_wrong c.options ≡ c.is

abbrev wrong : Audience → Bool → Check
wrong options is = record { options = options; is = is }

abbrev wrongs-cases : List Check
wrongs-cases =
    wrong (given Absent Absent Absent) false
    ∷ wrong (given (Given false) (Given []) (Given (5 ∷ []))) false
    ∷ wrong (given Wrong Absent Absent) true
    ∷ wrong (given Absent Wrong Absent) true
    ∷ wrong (given Absent Absent Wrong) true
    ∷ wrong (given (Given true) (Given []) Wrong) true
    ∷ []

pub wrongs : All WrongIs wrongs-cases
unfolding any_wrong
wrongs = (refl, (refl, (refl, (refl, (refl, (refl, tt))))))
