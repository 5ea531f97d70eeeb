-- Small cases of specs/Arrays.antt, computed: both sides of each edge. Assumes nothing.
use mathlib.Core.Path.{◌≡◌, refl}
use mathlib.Core.List.{List, [], ◌∷◌, ◌++◌}
use Prim.Native.Nat.{ℕ}
use lib.ListN.{replicate}
use Rattle.seq.specs.declared.Span.{Span}
use Rattle.seq.specs.Bytes.{same, among}
use Rattle.seq.specs.Lists.{All}
use Rattle.utf8.specs.Utf8.{lead, step, continues}
use Rattle.msgpack.specs.Head.{forms, form_of, number, half, signed_head, head_of, head_at}
use Rattle.msgpack.specs.MsgPack.{bytes, text, times, with_key, again, pairs, by_head, value}
use Rattle.elements.specs.Elements.{span}
use Rattle.arrays.specs.Arrays.{spans, outer, listed, id_of, kind, kinds_from, kinds_of}

-- ---- IDs
record Number : Type 0 where
  of : List ℕ
  is : ℕ

abbrev reads : List ℕ → ℕ → Number
reads s n = record { of = s; is = n }

abbrev IdIs : Number → Type 0
IdIs c = id_of c.of ≡ c.is

abbrev ids-cases : List Number
ids-cases =
    -- 5 in each form
    reads (0x05 ∷ []) 5
    ∷ reads (0xcc ∷ 0x05 ∷ []) 5
    ∷ reads (0xcd ∷ 0x00 ∷ 0x05 ∷ []) 5
    ∷ reads (0xce ∷ 0x00 ∷ 0x00 ∷ 0x00 ∷ 0x05 ∷ []) 5
    ∷ reads (0xcf ∷ 0x00 ∷ 0x00 ∷ 0x00 ∷ 0x00 ∷ 0x00 ∷ 0x00 ∷ 0x00 ∷ 0x05 ∷ []) 5
    ∷ reads (0xd0 ∷ 0x05 ∷ []) 5
    ∷ reads (0xd1 ∷ 0x00 ∷ 0x05 ∷ []) 5
    ∷ reads (0xd2 ∷ 0x00 ∷ 0x00 ∷ 0x00 ∷ 0x05 ∷ []) 5
    ∷ reads (0xd3 ∷ 0x00 ∷ 0x00 ∷ 0x00 ∷ 0x00 ∷ 0x00 ∷ 0x00 ∷ 0x00 ∷ 0x05 ∷ []) 5
    -- 1 is the first, 2^53 the last
    ∷ reads (0x00 ∷ []) 0
    ∷ reads (0xcc ∷ 0x00 ∷ []) 0
    ∷ reads (0x01 ∷ []) 1
    ∷ reads (0xcf ∷ 0x00 ∷ 0x20 ∷ 0x00 ∷ 0x00 ∷ 0x00 ∷ 0x00 ∷ 0x00 ∷ 0x00 ∷ []) 9007199254740992
    ∷ reads (0xd3 ∷ 0x00 ∷ 0x20 ∷ 0x00 ∷ 0x00 ∷ 0x00 ∷ 0x00 ∷ 0x00 ∷ 0x00 ∷ []) 9007199254740992
    ∷ reads (0xcf ∷ 0x00 ∷ 0x20 ∷ 0x00 ∷ 0x00 ∷ 0x00 ∷ 0x00 ∷ 0x00 ∷ 0x01 ∷ []) 0
    ∷ reads (0xd3 ∷ 0x00 ∷ 0x20 ∷ 0x00 ∷ 0x00 ∷ 0x00 ∷ 0x00 ∷ 0x00 ∷ 0x01 ∷ []) 0
    ∷ reads (0xcf ∷ 0xff ∷ 0xff ∷ 0xff ∷ 0xff ∷ 0xff ∷ 0xff ∷ 0xff ∷ 0xff ∷ []) 0
    -- negative: -1, -32, -6 in each width
    ∷ reads (0xff ∷ []) 0
    ∷ reads (0xe0 ∷ []) 0
    ∷ reads (0xd0 ∷ 0xfa ∷ []) 0
    ∷ reads (0xd1 ∷ 0xff ∷ 0xfa ∷ []) 0
    ∷ reads (0xd2 ∷ 0xff ∷ 0xff ∷ 0xff ∷ 0xfa ∷ []) 0
    ∷ reads (0xd3 ∷ 0xff ∷ 0xff ∷ 0xff ∷ 0xff ∷ 0xff ∷ 0xff ∷ 0xff ∷ 0xfa ∷ []) 0
    -- nil, false, true; 5.0 in both floats; bin, ext, str, array, map
    ∷ reads (0xc0 ∷ []) 0
    ∷ reads (0xc2 ∷ []) 0
    ∷ reads (0xc3 ∷ []) 0
    ∷ reads (0xca ∷ 0x40 ∷ 0xa0 ∷ 0x00 ∷ 0x00 ∷ []) 0
    ∷ reads (0xcb ∷ 0x40 ∷ 0x14 ∷ 0x00 ∷ 0x00 ∷ 0x00 ∷ 0x00 ∷ 0x00 ∷ 0x00 ∷ []) 0
    ∷ reads (0xc4 ∷ 0x01 ∷ 0x05 ∷ []) 0
    ∷ reads (0xd4 ∷ 0x05 ∷ 0x05 ∷ []) 0
    ∷ reads (0xa1 ∷ 0x35 ∷ []) 0
    ∷ reads (0x91 ∷ 0x05 ∷ []) 0
    ∷ reads (0x81 ∷ 0x05 ∷ 0x05 ∷ []) 0
    -- cut, and no text
    ∷ reads (0xcd ∷ 0x05 ∷ []) 0
    ∷ reads [] 0
    ∷ []

pub ids : All IdIs ids-cases
unfolding forms form_of number half signed_head head_of head_at id_of
ids = (refl, (refl, (refl, (refl, (refl, (refl, (refl, (refl, (refl, (refl, (refl, (refl, (refl, (refl, (refl, (refl, (refl, (refl, (refl, (refl, (refl, (refl, (refl, (refl, (refl, (refl, (refl, (refl, (refl, (refl, (refl, (refl, (refl, (refl, (refl, tt)))))))))))))))))))))))))))))))))))

-- ---- kinds
abbrev KindIs : Number → Type 0
KindIs c = kind c.of ≡ c.is

abbrev kinds-cases : List Number
kinds-cases =
    reads (0x01 ∷ []) 1
    ∷ reads (0xd0 ∷ 0x05 ∷ []) 1
    ∷ reads (0xcf ∷ 0x00 ∷ 0x20 ∷ 0x00 ∷ 0x00 ∷ 0x00 ∷ 0x00 ∷ 0x00 ∷ 0x00 ∷ []) 1
    ∷ reads (0xa0 ∷ []) 2
    ∷ reads (0xd9 ∷ 0x01 ∷ 0x61 ∷ []) 2
    ∷ reads (0xda ∷ 0x00 ∷ 0x01 ∷ 0x61 ∷ []) 2
    ∷ reads (0xdb ∷ 0x00 ∷ 0x00 ∷ 0x00 ∷ 0x01 ∷ 0x61 ∷ []) 2
    ∷ reads (0x90 ∷ []) 3
    ∷ reads (0xdc ∷ 0x00 ∷ 0x00 ∷ []) 3
    ∷ reads (0xdd ∷ 0x00 ∷ 0x00 ∷ 0x00 ∷ 0x00 ∷ []) 3
    ∷ reads (0x80 ∷ []) 4
    ∷ reads (0xde ∷ 0x00 ∷ 0x00 ∷ []) 4
    ∷ reads (0xdf ∷ 0x00 ∷ 0x00 ∷ 0x00 ∷ 0x00 ∷ []) 4
    -- integers that are no IDs
    ∷ reads (0x00 ∷ []) 5
    ∷ reads (0xff ∷ []) 5
    ∷ reads (0xd0 ∷ 0xfa ∷ []) 5
    ∷ reads (0xcf ∷ 0x00 ∷ 0x20 ∷ 0x00 ∷ 0x00 ∷ 0x00 ∷ 0x00 ∷ 0x00 ∷ 0x01 ∷ []) 5
    -- nil, false, true, a float, bin, ext; no value
    ∷ reads (0xc0 ∷ []) 5
    ∷ reads (0xc2 ∷ []) 5
    ∷ reads (0xc3 ∷ []) 5
    ∷ reads (0xca ∷ 0x40 ∷ 0xa0 ∷ 0x00 ∷ 0x00 ∷ []) 5
    ∷ reads (0xc4 ∷ 0x01 ∷ 0x05 ∷ []) 5
    ∷ reads (0xd4 ∷ 0x05 ∷ 0x05 ∷ []) 5
    ∷ reads (0xc1 ∷ []) 5
    ∷ reads [] 5
    ∷ []

pub kinds : All KindIs kinds-cases
unfolding forms form_of number half signed_head head_of head_at id_of kind
kinds = (refl, (refl, (refl, (refl, (refl, (refl, (refl, (refl, (refl, (refl, (refl, (refl, (refl, (refl, (refl, (refl, (refl, (refl, (refl, (refl, (refl, (refl, (refl, (refl, (refl, tt)))))))))))))))))))))))))

-- ---- the outer array
record Listing : Type 0 where
  of : List ℕ
  are : List Span

abbrev lists : List ℕ → List Span → Listing
lists s ps = record { of = s; are = ps }

abbrev none : List ℕ → Listing
none s = lists s []

abbrev ListedAre : Listing → Type 0
ListedAre c = listed c.of ≡ c.are

-- 7 elements at most
abbrev counts-cases : List Listing
counts-cases =
    none (0x90 ∷ [])
    ∷ lists (0x91 ∷ 0x05 ∷ []) (span 1 2 ∷ [])
    ∷ lists (0x97 ∷ 0x01 ∷ 0x02 ∷ 0x03 ∷ 0x04 ∷ 0x05 ∷ 0x06 ∷ 0x07 ∷ [])
    (span 1 2 ∷ span 2 3 ∷ span 3 4 ∷ span 4 5 ∷ span 5 6 ∷ span 6 7 ∷ span 7 8 ∷ [])
    ∷ none (0x98 ∷ 0x01 ∷ 0x02 ∷ 0x03 ∷ 0x04 ∷ 0x05 ∷ 0x06 ∷ 0x07 ∷ 0x08 ∷ [])
    ∷ none (0xdc ∷ 0x00 ∷ 0x08 ∷ 0x01 ∷ 0x02 ∷ 0x03 ∷ 0x04 ∷ 0x05 ∷ 0x06 ∷ 0x07 ∷ 0x08 ∷ [])
    ∷ []

pub counts : All ListedAre counts-cases
unfolding same among lead step continues forms form_of number half signed_head head_of head_at bytes text times with_key again pairs by_head value spans outer listed
counts = (refl, (refl, (refl, (refl, (refl, tt)))))

-- the whole text, and no byte more
abbrev wholes-cases : List Listing
wholes-cases =
    -- left over
    none (0x91 ∷ 0x05 ∷ 0x06 ∷ [])
    ∷ none (0x91 ∷ 0x05 ∷ 0xc1 ∷ [])
    ∷ none (0x90 ∷ 0x90 ∷ [])
    -- cut: between elements, in one, in the head
    ∷ none (0x92 ∷ 0x05 ∷ [])
    ∷ none (0x91 ∷ 0xa2 ∷ 0x61 ∷ [])
    ∷ none (0x91 ∷ [])
    ∷ none (0xdc ∷ 0x00 ∷ [])
    ∷ none []
    -- no array
    ∷ none (0x05 ∷ [])
    ∷ none (0x81 ∷ 0x05 ∷ 0x05 ∷ [])
    ∷ none (0xa1 ∷ 0x61 ∷ [])
    ∷ none (0xc4 ∷ 0x01 ∷ 0x05 ∷ [])
    ∷ []

pub wholes : All ListedAre wholes-cases
unfolding same among lead step continues forms form_of number half signed_head head_of head_at bytes text times with_key again pairs by_head value spans outer listed
wholes = (refl, (refl, (refl, (refl, (refl, (refl, (refl, (refl, (refl, (refl, (refl, (refl, tt))))))))))))

-- the same elements in each form
abbrev forms-cases : List Listing
forms-cases =
    lists (0x92 ∷ 0x05 ∷ 0xa1 ∷ 0x61 ∷ []) (span 1 2 ∷ span 2 4 ∷ [])
    ∷ lists (0xdc ∷ 0x00 ∷ 0x02 ∷ 0x05 ∷ 0xa1 ∷ 0x61 ∷ []) (span 3 4 ∷ span 4 6 ∷ [])
    ∷ lists (0xdd ∷ 0x00 ∷ 0x00 ∷ 0x00 ∷ 0x02 ∷ 0x05 ∷ 0xa1 ∷ 0x61 ∷ []) (span 5 6 ∷ span 6 8 ∷ [])
    ∷ []

pub forms-of : All ListedAre forms-cases
unfolding same among lead step continues forms form_of number half signed_head head_of head_at bytes text times with_key again pairs by_head value spans outer listed
forms-of = (refl, (refl, (refl, tt)))

-- each element is a value: well-formed texts, no two equal keys, depth 8 in all
abbrev insides-cases : List Listing
insides-cases =
    none (0x91 ∷ 0xa1 ∷ 0xff ∷ [])
    ∷ none (0x91 ∷ 0xc1 ∷ [])
    ∷ lists (0x91 ∷ 0x82 ∷ 0xa1 ∷ 0x61 ∷ 0xc0 ∷ 0xa1 ∷ 0x62 ∷ 0xc0 ∷ []) (span 1 8 ∷ [])
    ∷ none (0x91 ∷ 0x82 ∷ 0xa1 ∷ 0x61 ∷ 0xc0 ∷ 0xa1 ∷ 0x61 ∷ 0xc0 ∷ [])
    ∷ lists (0x91 ∷ 0x91 ∷ 0x91 ∷ 0x91 ∷ 0x91 ∷ 0x91 ∷ 0x91 ∷ 0x90 ∷ []) (span 1 8 ∷ [])
    ∷ none (0x91 ∷ 0x91 ∷ 0x91 ∷ 0x91 ∷ 0x91 ∷ 0x91 ∷ 0x91 ∷ 0x91 ∷ 0x90 ∷ [])
    ∷ []

pub insides : All ListedAre insides-cases
unfolding same among lead step continues forms form_of number half signed_head head_of head_at bytes text times with_key again pairs by_head value spans outer listed
insides = (refl, (refl, (refl, (refl, (refl, (refl, tt))))))

-- a bin in a text of 2,048 bytes, and of 2,049
abbrev limits-cases : List Listing
limits-cases =
    lists ((0x91 ∷ 0xc5 ∷ 0x07 ∷ 0xfc ∷ []) ++ replicate 2044 0x00) (span 1 2048 ∷ [])
    ∷ none ((0x91 ∷ 0xc5 ∷ 0x07 ∷ 0xfd ∷ []) ++ replicate 2045 0x00)
    ∷ []

pub limits : All ListedAre limits-cases
unfolding same among lead step continues forms form_of number half signed_head head_of head_at bytes text times with_key again pairs by_head value spans outer listed
limits = (refl, (refl, tt))

-- ---- the kinds of the elements, a digit each
abbrev ShapeIs : Number → Type 0
ShapeIs c = kinds_of c.of (listed c.of) ≡ c.is

abbrev shapes-cases : List Number
shapes-cases =
    -- SUBSCRIBE: [32, 5, {}, "a"]
    reads (0x94 ∷ 0x20 ∷ 0x05 ∷ 0x80 ∷ 0xa1 ∷ 0x61 ∷ []) 1142
    -- ERROR: [8, 68, 5, {}, "a", [], {}]
    ∷ reads (0x97 ∷ 0x08 ∷ 0x44 ∷ 0x05 ∷ 0x80 ∷ 0xa1 ∷ 0x61 ∷ 0x90 ∷ 0x80 ∷ []) 1114234
    ∷ reads (0x93 ∷ 0x00 ∷ 0xc4 ∷ 0x00 ∷ 0xc0 ∷ []) 555
    ∷ reads (0x90 ∷ []) 0
    ∷ []

pub shapes : All ShapeIs shapes-cases
unfolding same among lead step continues forms form_of number half signed_head head_of head_at bytes text times with_key again pairs by_head value spans outer listed kind id_of kinds_from
shapes = (refl, (refl, (refl, (refl, tt))))
