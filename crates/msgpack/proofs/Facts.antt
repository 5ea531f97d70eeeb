-- Small cases of specs/Head.antt and specs/MsgPack.antt, computed. This file is checked first, so the log of an edit of a definition begins
-- with a case that it makes false. Assumes nothing.
use Rattle.std.specs.Prelude.{Some, None, Option}
use mathlib.Core.Path.{◌≡◌, refl}
use mathlib.Core.List.{List, [], ◌∷◌}
use Prim.Native.Nat.{ℕ}
use Rattle.seq.specs.Bytes.{same, among}
use Rattle.seq.specs.Lists.{All}
use Rattle.utf8.specs.Utf8.{lead, step, continues}
use Rattle.msgpack.specs.declared.Head.{Head}
use Rattle.msgpack.specs.Head.{nil, no, yes, whole, below, str, opaque, array, map, none, forms, form_of, number, half, head}
use Rattle.msgpack.specs.Head.{signed_head, head_of, head_at}
use Rattle.msgpack.specs.MsgPack.{bytes, text, times, with_key, again, pairs, by_head, value, value_at}

-- ---- heads
record HeadCase : Type 0 where
  of : List ℕ
  is : Head

abbrev HeadIs : HeadCase → Type 0
HeadIs c = head_at c.of 0 ≡ c.is

abbrev reads : List ℕ → ℕ → ℕ → ℕ → HeadCase
reads s kind n end = record { of = s; is = head kind n end }

abbrev first-bytes : List HeadCase
first-bytes =
    -- the number in the first byte
    reads (0x00 ∷ []) whole 0 1
    ∷ reads (0x7f ∷ []) whole 127 1
    ∷ reads (0x80 ∷ []) map 0 1
    ∷ reads (0x8f ∷ []) map 15 1
    ∷ reads (0x90 ∷ []) array 0 1
    ∷ reads (0x9f ∷ []) array 15 1
    ∷ reads (0xa0 ∷ []) str 0 1
    ∷ reads (0xbf ∷ []) str 31 1
    ∷ reads (0xe0 ∷ []) below 31 1
    ∷ reads (0xff ∷ []) below 0 1
    -- nil, a byte that starts no value, false, true
    ∷ reads (0xc0 ∷ []) nil 0 1
    ∷ reads (0xc1 ∷ []) none 0 1
    ∷ reads (0xc2 ∷ []) no 0 1
    ∷ reads (0xc3 ∷ []) yes 0 1
    -- bin, ext with the byte of its type, float, fixext
    ∷ reads (0xc4 ∷ 0x02 ∷ []) opaque 2 2
    ∷ reads (0xc5 ∷ 0x01 ∷ 0x02 ∷ []) opaque 258 3
    ∷ reads (0xc6 ∷ 0x01 ∷ 0x00 ∷ 0x00 ∷ 0x02 ∷ []) opaque 16777218 5
    ∷ reads (0xc7 ∷ 0x02 ∷ []) opaque 3 2
    ∷ reads (0xc8 ∷ 0x01 ∷ 0x02 ∷ []) opaque 259 3
    ∷ reads (0xc9 ∷ 0x01 ∷ 0x00 ∷ 0x00 ∷ 0x02 ∷ []) opaque 16777219 5
    ∷ reads (0xca ∷ []) opaque 4 1
    ∷ reads (0xcb ∷ []) opaque 8 1
    ∷ reads (0xd4 ∷ []) opaque 2 1
    ∷ reads (0xd5 ∷ []) opaque 3 1
    ∷ reads (0xd6 ∷ []) opaque 5 1
    ∷ reads (0xd7 ∷ []) opaque 9 1
    ∷ reads (0xd8 ∷ []) opaque 17 1
    -- uint: the same integer in each width, and the largest ones
    ∷ reads (0xcc ∷ 0x05 ∷ []) whole 5 2
    ∷ reads (0xcd ∷ 0x00 ∷ 0x05 ∷ []) whole 5 3
    ∷ reads (0xce ∷ 0x00 ∷ 0x00 ∷ 0x00 ∷ 0x05 ∷ []) whole 5 5
    ∷ reads (0xcf ∷ 0x00 ∷ 0x00 ∷ 0x00 ∷ 0x00 ∷ 0x00 ∷ 0x00 ∷ 0x00 ∷ 0x05 ∷ []) whole 5 9
    ∷ reads (0xcc ∷ 0xff ∷ []) whole 255 2
    ∷ reads (0xcd ∷ 0xff ∷ 0xff ∷ []) whole 65535 3
    ∷ reads (0xce ∷ 0xff ∷ 0xff ∷ 0xff ∷ 0xff ∷ []) whole 4294967295 5
    ∷ reads (0xcf ∷ 0xff ∷ 0xff ∷ 0xff ∷ 0xff ∷ 0xff ∷ 0xff ∷ 0xff ∷ 0xff ∷ []) whole 18446744073709551615 9
    -- int: 5 in each width, -1 in each width, and the ends
    ∷ reads (0xd0 ∷ 0x05 ∷ []) whole 5 2
    ∷ reads (0xd1 ∷ 0x00 ∷ 0x05 ∷ []) whole 5 3
    ∷ reads (0xd2 ∷ 0x00 ∷ 0x00 ∷ 0x00 ∷ 0x05 ∷ []) whole 5 5
    ∷ reads (0xd3 ∷ 0x00 ∷ 0x00 ∷ 0x00 ∷ 0x00 ∷ 0x00 ∷ 0x00 ∷ 0x00 ∷ 0x05 ∷ []) whole 5 9
    ∷ reads (0xd0 ∷ 0xff ∷ []) below 0 2
    ∷ reads (0xd1 ∷ 0xff ∷ 0xff ∷ []) below 0 3
    ∷ reads (0xd2 ∷ 0xff ∷ 0xff ∷ 0xff ∷ 0xff ∷ []) below 0 5
    ∷ reads (0xd3 ∷ 0xff ∷ 0xff ∷ 0xff ∷ 0xff ∷ 0xff ∷ 0xff ∷ 0xff ∷ 0xff ∷ []) below 0 9
    ∷ reads (0xd0 ∷ 0x7f ∷ []) whole 127 2
    ∷ reads (0xd0 ∷ 0x80 ∷ []) below 127 2
    ∷ reads (0xd1 ∷ 0x80 ∷ 0x00 ∷ []) below 32767 3
    ∷ reads (0xd2 ∷ 0x80 ∷ 0x00 ∷ 0x00 ∷ 0x00 ∷ []) below 2147483647 5
    ∷ reads (0xd3 ∷ 0x80 ∷ 0x00 ∷ 0x00 ∷ 0x00 ∷ 0x00 ∷ 0x00 ∷ 0x00 ∷ 0x00 ∷ []) below 9223372036854775807 9
    -- str, array, map
    ∷ reads (0xd9 ∷ 0x02 ∷ []) str 2 2
    ∷ reads (0xda ∷ 0x01 ∷ 0x02 ∷ []) str 258 3
    ∷ reads (0xdb ∷ 0x01 ∷ 0x00 ∷ 0x00 ∷ 0x02 ∷ []) str 16777218 5
    ∷ reads (0xdc ∷ 0x01 ∷ 0x02 ∷ []) array 258 3
    ∷ reads (0xdd ∷ 0x01 ∷ 0x00 ∷ 0x00 ∷ 0x02 ∷ []) array 16777218 5
    ∷ reads (0xde ∷ 0x01 ∷ 0x02 ∷ []) map 258 3
    ∷ reads (0xdf ∷ 0x01 ∷ 0x00 ∷ 0x00 ∷ 0x02 ∷ []) map 16777218 5
    -- a head that is cut
    ∷ reads ([]) none 0 0
    ∷ reads (0xcc ∷ []) none 0 0
    ∷ reads (0xcf ∷ 0x00 ∷ 0x00 ∷ 0x00 ∷ 0x00 ∷ 0x00 ∷ 0x00 ∷ 0x00 ∷ []) none 0 0
    ∷ reads (0xde ∷ 0x01 ∷ []) none 0 0
    ∷ []

pub heads : All HeadIs first-bytes
unfolding forms form_of number half signed_head head_of head_at
heads = (refl, (refl, (refl, (refl, (refl, (refl, (refl, (refl, (refl, (refl, (refl, (refl, (refl, (refl, (refl, (refl, (refl, (refl, (refl, (refl, (refl, (refl, (refl, (refl, (refl, (refl, (refl, (refl, (refl, (refl, (refl, (refl, (refl, (refl, (refl, (refl, (refl, (refl, (refl, (refl, (refl, (refl, (refl, (refl, (refl, (refl, (refl, (refl, (refl, (refl, (refl, (refl, (refl, (refl, (refl, (refl, (refl, (refl, (refl, tt)))))))))))))))))))))))))))))))))))))))))))))))))))))))))))

-- ---- values
record ValueCase : Type 0 where
  depth : ℕ
  of : List ℕ
  is : Option ℕ

abbrev ValueIs : ValueCase → Type 0
ValueIs c = value_at c.depth c.of 0 ≡ c.is

abbrev ends : ℕ → List ℕ → ℕ → ValueCase
ends depth s e = record { depth = depth; of = s; is = Some e }

abbrev refused : ℕ → List ℕ → ValueCase
refused depth s = record { depth = depth; of = s; is = None }

-- what follows a head
abbrev scalars-cases : List ValueCase
scalars-cases =
    ends 0 (0xc0 ∷ []) 1
    -- no value starts so
    ∷ refused 0 (0xc1 ∷ [])
    ∷ ends 0 (0x05 ∷ []) 1
    ∷ ends 0 (0xa1 ∷ 0x61 ∷ []) 2
    ∷ ends 0 (0xa2 ∷ 0xc3 ∷ 0xa9 ∷ []) 3
    -- a str is well-formed UTF-8
    ∷ refused 0 (0xa1 ∷ 0xff ∷ [])
    ∷ refused 0 (0xa1 ∷ 0xc3 ∷ [])
    -- a bin has any bytes
    ∷ ends 0 (0xc4 ∷ 0x01 ∷ 0xff ∷ []) 3
    -- an ext has a byte for its type
    ∷ ends 0 (0xc7 ∷ 0x01 ∷ 0x05 ∷ 0x61 ∷ []) 4
    ∷ refused 0 (0xc7 ∷ 0x01 ∷ 0x05 ∷ [])
    ∷ ends 0 (0xd4 ∷ 0x05 ∷ 0x61 ∷ []) 3
    ∷ refused 0 (0xd4 ∷ 0x05 ∷ [])
    -- what is cut is no value
    ∷ refused 0 (0xa2 ∷ 0x61 ∷ [])
    ∷ refused 0 (0xc4 ∷ 0x02 ∷ 0x61 ∷ [])
    ∷ refused 0 (0xca ∷ 0x00 ∷ 0x00 ∷ 0x00 ∷ [])
    ∷ ends 0 (0xca ∷ 0x00 ∷ 0x00 ∷ 0x00 ∷ 0x00 ∷ []) 5
    ∷ refused 0 (0xd0 ∷ [])
    ∷ []

pub scalars : All ValueIs scalars-cases
unfolding same among lead step continues forms form_of number half signed_head head_of head_at bytes text times with_key again pairs by_head value value_at
scalars = (refl, (refl, (refl, (refl, (refl, (refl, (refl, (refl, (refl, (refl, (refl, (refl, (refl, (refl, (refl, (refl, (refl, tt)))))))))))))))))

-- arrays and maps, and how deep they nest
abbrev containers-cases : List ValueCase
containers-cases =
    refused 0 (0x90 ∷ [])
    ∷ ends 1 (0x90 ∷ []) 1
    ∷ refused 1 (0x91 ∷ 0x90 ∷ [])
    ∷ ends 2 (0x91 ∷ 0x90 ∷ []) 2
    ∷ ends 8 (0x91 ∷ 0x91 ∷ 0x91 ∷ 0x91 ∷ 0x91 ∷ 0x91 ∷ 0x91 ∷ 0x90 ∷ []) 8
    ∷ refused 8 (0x91 ∷ 0x91 ∷ 0x91 ∷ 0x91 ∷ 0x91 ∷ 0x91 ∷ 0x91 ∷ 0x91 ∷ 0x90 ∷ [])
    ∷ refused 0 (0x80 ∷ [])
    ∷ ends 1 (0x80 ∷ []) 1
    -- a map as a pair's value and as its key
    ∷ refused 1 (0x81 ∷ 0xc0 ∷ 0x80 ∷ [])
    ∷ ends 2 (0x81 ∷ 0xc0 ∷ 0x80 ∷ []) 3
    ∷ refused 1 (0x81 ∷ 0x80 ∷ 0xc0 ∷ [])
    ∷ ends 2 (0x81 ∷ 0x80 ∷ 0xc0 ∷ []) 3
    ∷ ends 1 (0xdc ∷ 0x00 ∷ 0x02 ∷ 0x01 ∷ 0x02 ∷ []) 5
    -- an element is missing; all of them; a key; a value
    ∷ refused 1 (0xdc ∷ 0x00 ∷ 0x02 ∷ 0x01 ∷ [])
    ∷ refused 1 (0xdd ∷ 0xff ∷ 0xff ∷ 0xff ∷ 0xff ∷ [])
    ∷ refused 1 (0x81 ∷ [])
    ∷ refused 1 (0x81 ∷ 0xa1 ∷ 0x61 ∷ [])
    ∷ []

pub containers : All ValueIs containers-cases
unfolding same among lead step continues forms form_of number half signed_head head_of head_at bytes text times with_key again pairs by_head value value_at
containers = (refl, (refl, (refl, (refl, (refl, (refl, (refl, (refl, (refl, (refl, (refl, (refl, (refl, (refl, (refl, (refl, (refl, tt)))))))))))))))))

-- no two strs of the same bytes are keys of one map
abbrev keys-cases : List ValueCase
keys-cases =
    ends 1 (0x82 ∷ 0xa1 ∷ 0x61 ∷ 0xc0 ∷ 0xa1 ∷ 0x62 ∷ 0xc0 ∷ []) 7
    ∷ refused 1 (0x82 ∷ 0xa1 ∷ 0x61 ∷ 0xc0 ∷ 0xa1 ∷ 0x61 ∷ 0xc0 ∷ [])
    -- in two forms
    ∷ refused 1 (0x82 ∷ 0xa1 ∷ 0x61 ∷ 0xc0 ∷ 0xd9 ∷ 0x01 ∷ 0x61 ∷ 0xc0 ∷ [])
    ∷ refused 1 (0x83 ∷ 0xa1 ∷ 0x61 ∷ 0xc0 ∷ 0xa1 ∷ 0x62 ∷ 0xc0 ∷ 0xa1 ∷ 0x61 ∷ 0xc0 ∷ [])
    -- a str and a bin; two bins; two integers
    ∷ ends 1 (0x82 ∷ 0xa1 ∷ 0x61 ∷ 0xc0 ∷ 0xc4 ∷ 0x01 ∷ 0x61 ∷ 0xc0 ∷ []) 8
    ∷ ends 1 (0x82 ∷ 0xc4 ∷ 0x01 ∷ 0x61 ∷ 0xc0 ∷ 0xc4 ∷ 0x01 ∷ 0x61 ∷ 0xc0 ∷ []) 9
    ∷ ends 1 (0x82 ∷ 0x01 ∷ 0xc0 ∷ 0x01 ∷ 0xc0 ∷ []) 5
    -- keys of two maps, one within the other; and of one, with another between them
    ∷ ends 2 (0x82 ∷ 0xa1 ∷ 0x61 ∷ 0x81 ∷ 0xa1 ∷ 0x61 ∷ 0xc0 ∷ 0xa1 ∷ 0x62 ∷ 0xc0 ∷ []) 10
    ∷ refused 2 (0x82 ∷ 0xa1 ∷ 0x61 ∷ 0x81 ∷ 0xa1 ∷ 0x62 ∷ 0xc0 ∷ 0xa1 ∷ 0x61 ∷ 0xc0 ∷ [])
    -- a key that is a map has keys of its own
    ∷ ends 2 (0x82 ∷ 0x81 ∷ 0xa1 ∷ 0x61 ∷ 0xc0 ∷ 0xc0 ∷ 0xa1 ∷ 0x61 ∷ 0xc0 ∷ []) 9
    ∷ ends 2 (0x82 ∷ 0x81 ∷ 0xa1 ∷ 0x61 ∷ 0xc0 ∷ 0xc0 ∷ 0x81 ∷ 0xa1 ∷ 0x61 ∷ 0xc0 ∷ 0xc0 ∷ []) 11
    ∷ []

pub keys : All ValueIs keys-cases
unfolding same among lead step continues forms form_of number half signed_head head_of head_at bytes text times with_key again pairs by_head value value_at
keys = (refl, (refl, (refl, (refl, (refl, (refl, (refl, (refl, (refl, (refl, (refl, tt)))))))))))
