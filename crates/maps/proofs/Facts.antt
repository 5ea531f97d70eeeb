-- Small cases of specs/Maps.antt, computed. Assumes nothing.
use mathlib.Core.Path.{◌≡◌, refl}
use mathlib.Core.List.{List, [], ◌∷◌, ◌++◌}
use Prim.Native.Nat.{ℕ}
use lib.ListN.{replicate}
use Rattle.seq.specs.declared.Span.{Span}
use Rattle.seq.specs.Bytes.{chars, same, among}
use Rattle.seq.specs.Lists.{All}
use Rattle.utf8.specs.Utf8.{lead, step, continues}
use Rattle.msgpack.specs.Head.{forms, form_of, number, half, signed_head, head_of, head_at}
use Rattle.msgpack.specs.MsgPack.{bytes, text, times, with_key, again, by_head, value}
use Rattle.msgpack.specs.MsgPack.{pairs as pairs_of}
use Rattle.members.specs.Members.{blank}
use Rattle.maps.specs.Maps.{pairs, members_at, is_key, value_of, value_in}

-- the key asked for, the text, the place of the map's head, and where its value stands
record Case : Type 0 where
  key : List ℕ
  of : List ℕ
  at : ℕ
  is : Span

abbrev Is : Case → Type 0
Is c = value_of c.of c.key (members_at c.of c.at) ≡ c.is

abbrev found : List ℕ → List ℕ → ℕ → ℕ → ℕ → Case
found key s at from to = record { key = key; of = s; at = at; is = record { from = from; to = to } }

abbrev absent : List ℕ → List ℕ → ℕ → Case
absent key s at = record { key = key; of = s; at = at; is = blank }

abbrev a : List ℕ
a = chars "a"

abbrev b : List ℕ
b = chars "b"

-- a key in each form of str
abbrev keys-cases : List Case
keys-cases =
    found a (0x81 ∷ 0xa1 ∷ 0x61 ∷ 0x05 ∷ []) 0 3 4
    ∷ found a (0x81 ∷ 0xd9 ∷ 0x01 ∷ 0x61 ∷ 0x05 ∷ []) 0 4 5
    ∷ found a (0x81 ∷ 0xda ∷ 0x00 ∷ 0x01 ∷ 0x61 ∷ 0x05 ∷ []) 0 5 6
    ∷ found a (0x81 ∷ 0xdb ∷ 0x00 ∷ 0x00 ∷ 0x00 ∷ 0x01 ∷ 0x61 ∷ 0x05 ∷ []) 0 7 8
    ∷ found [] (0x81 ∷ 0xa0 ∷ 0x05 ∷ []) 0 2 3
    ∷ found (chars "ab") (0x81 ∷ 0xa2 ∷ 0x61 ∷ 0x62 ∷ 0xa1 ∷ 0x61 ∷ []) 0 4 6
    -- another key, a longer one, a shorter one; no key
    ∷ absent b (0x81 ∷ 0xa1 ∷ 0x61 ∷ 0x05 ∷ []) 0
    ∷ absent a (0x81 ∷ 0xa2 ∷ 0x61 ∷ 0x62 ∷ 0x05 ∷ []) 0
    ∷ absent (chars "ab") (0x81 ∷ 0xa1 ∷ 0x61 ∷ 0x05 ∷ []) 0
    ∷ absent [] (0x81 ∷ 0xa1 ∷ 0x61 ∷ 0x05 ∷ []) 0
    ∷ absent a (0x80 ∷ []) 0
    ∷ []

pub keys : All Is keys-cases
unfolding same among lead step continues forms form_of number half signed_head head_of head_at bytes text times with_key again pairs_of by_head value pairs members_at is_key value_of
keys = (refl, (refl, (refl, (refl, (refl, (refl, (refl, (refl, (refl, (refl, (refl, tt)))))))))))

-- keys of other kinds are passed over: a bin of the same bytes, an integer, nil, an array, a map
abbrev others-cases : List Case
others-cases =
    absent a (0x81 ∷ 0xc4 ∷ 0x01 ∷ 0x61 ∷ 0x05 ∷ []) 0
    ∷ found a (0x82 ∷ 0xc4 ∷ 0x01 ∷ 0x61 ∷ 0x05 ∷ 0xa1 ∷ 0x61 ∷ 0x06 ∷ []) 0 7 8
    ∷ absent a (0x81 ∷ 0x61 ∷ 0x05 ∷ []) 0
    ∷ absent [] (0x81 ∷ 0xc0 ∷ 0x05 ∷ []) 0
    ∷ found a (0x82 ∷ 0x91 ∷ 0xa1 ∷ 0x61 ∷ 0x05 ∷ 0xa1 ∷ 0x61 ∷ 0x06 ∷ []) 0 7 8
    ∷ found a (0x82 ∷ 0x81 ∷ 0xa1 ∷ 0x61 ∷ 0x05 ∷ 0xc0 ∷ 0xa1 ∷ 0x61 ∷ 0x06 ∷ []) 0 8 9
    ∷ []

pub others : All Is others-cases
unfolding same among lead step continues forms form_of number half signed_head head_of head_at bytes text times with_key again pairs_of by_head value pairs members_at is_key value_of
others = (refl, (refl, (refl, (refl, (refl, (refl, tt))))))

-- the first of several keys, and a later one. A value is no key, whatever it holds
abbrev several-cases : List Case
several-cases =
    found a (0x82 ∷ 0xa1 ∷ 0x61 ∷ 0x05 ∷ 0xa1 ∷ 0x62 ∷ 0x06 ∷ []) 0 3 4
    ∷ found b (0x82 ∷ 0xa1 ∷ 0x61 ∷ 0x05 ∷ 0xa1 ∷ 0x62 ∷ 0x06 ∷ []) 0 6 7
    ∷ absent (chars "c") (0x82 ∷ 0xa1 ∷ 0x61 ∷ 0x05 ∷ 0xa1 ∷ 0x62 ∷ 0x06 ∷ []) 0
    ∷ found a (0x82 ∷ 0xa1 ∷ 0x61 ∷ 0x05 ∷ 0xa1 ∷ 0x61 ∷ 0x06 ∷ []) 0 3 4
    ∷ found b (0x82 ∷ 0xa1 ∷ 0x61 ∷ 0xa1 ∷ 0x62 ∷ 0xa1 ∷ 0x62 ∷ 0x06 ∷ []) 0 7 8
    ∷ absent b (0x81 ∷ 0xa1 ∷ 0x61 ∷ 0xa1 ∷ 0x62 ∷ []) 0
    ∷ absent b (0x81 ∷ 0xa1 ∷ 0x61 ∷ 0x81 ∷ 0xa1 ∷ 0x62 ∷ 0x06 ∷ []) 0
    -- what stands behind the map is none of it
    ∷ absent b (0x81 ∷ 0xa1 ∷ 0x61 ∷ 0x05 ∷ 0xa1 ∷ 0x62 ∷ 0x06 ∷ []) 0
    -- a value is missing, and a key
    ∷ found a (0x82 ∷ 0xa1 ∷ 0x61 ∷ 0x05 ∷ 0xa1 ∷ 0x62 ∷ []) 0 3 4
    ∷ absent b (0x82 ∷ 0xa1 ∷ 0x61 ∷ 0x05 ∷ 0xa1 ∷ 0x62 ∷ []) 0
    ∷ absent b (0x82 ∷ 0xa1 ∷ 0x61 ∷ 0x05 ∷ []) 0
    ∷ []

pub several : All Is several-cases
unfolding same among lead step continues forms form_of number half signed_head head_of head_at bytes text times with_key again pairs_of by_head value pairs members_at is_key value_of
several = (refl, (refl, (refl, (refl, (refl, (refl, (refl, (refl, (refl, (refl, (refl, tt)))))))))))

-- the map's forms, its place, and what is no map
abbrev maps-cases : List Case
maps-cases =
    found a (0xde ∷ 0x00 ∷ 0x01 ∷ 0xa1 ∷ 0x61 ∷ 0x05 ∷ []) 0 5 6
    ∷ found a (0xdf ∷ 0x00 ∷ 0x00 ∷ 0x00 ∷ 0x01 ∷ 0xa1 ∷ 0x61 ∷ 0x05 ∷ []) 0 7 8
    ∷ found a (0x93 ∷ 0x10 ∷ 0x05 ∷ 0x81 ∷ 0xa1 ∷ 0x61 ∷ 0x07 ∷ []) 3 6 7
    ∷ absent a (0x93 ∷ 0x10 ∷ 0x05 ∷ 0x81 ∷ 0xa1 ∷ 0x61 ∷ 0x07 ∷ []) 0
    ∷ absent a (0x92 ∷ 0xa1 ∷ 0x61 ∷ 0x05 ∷ []) 0
    ∷ absent a (0x81 ∷ 0xa1 ∷ 0x61 ∷ 0x05 ∷ []) 9
    ∷ absent a [] 0
    ∷ []

pub maps-of : All Is maps-cases
unfolding same among lead step continues forms form_of number half signed_head head_of head_at bytes text times with_key again pairs_of by_head value pairs members_at is_key value_of
maps-of = (refl, (refl, (refl, (refl, (refl, (refl, (refl, tt)))))))

-- depth 8 in all, the map being depth 2; a text of 2,048 bytes, and of 2,049
abbrev limits-cases : List Case
limits-cases =
    found a (0x81 ∷ 0xa1 ∷ 0x61 ∷ 0x91 ∷ 0x91 ∷ 0x91 ∷ 0x91 ∷ 0x91 ∷ 0x90 ∷ []) 0 3 9
    ∷ absent a (0x81 ∷ 0xa1 ∷ 0x61 ∷ 0x91 ∷ 0x91 ∷ 0x91 ∷ 0x91 ∷ 0x91 ∷ 0x91 ∷ 0x90 ∷ []) 0
    ∷ found a ((0x81 ∷ 0xa1 ∷ 0x61 ∷ 0xc5 ∷ 0x07 ∷ 0xfa ∷ []) ++ replicate 2042 0x00) 0 3 2048
    ∷ absent a ((0x81 ∷ 0xa1 ∷ 0x61 ∷ 0xc5 ∷ 0x07 ∷ 0xfb ∷ []) ++ replicate 2043 0x00) 0
    ∷ []

pub limits : All Is limits-cases
unfolding same among lead step continues forms form_of number half signed_head head_of head_at bytes text times with_key again pairs_of by_head value pairs members_at is_key value_of
limits = (refl, (refl, (refl, (refl, tt))))

-- the value as bytes
pub texts : (value_in a (0x81 ∷ 0xa1 ∷ 0x61 ∷ 0xcc ∷ 0x05 ∷ []) ≡ 0xcc ∷ 0x05 ∷ []) × (value_in b (0x81 ∷ 0xa1 ∷ 0x61 ∷ 0xcc ∷ 0x05 ∷ []) ≡ [])
unfolding same among lead step continues forms form_of number half signed_head head_of head_at bytes text times with_key again pairs_of by_head value pairs members_at is_key value_of value_in
texts = (refl, refl)
