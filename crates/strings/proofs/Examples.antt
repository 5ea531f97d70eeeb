-- Strings undone by computation: each escape, both cases of the digits, the first and the last character of each row of UTF-8's table, either
-- side of the halves, pairs, and halves in no pair. Assumes nothing.
use Prim.Native.Nat.{ℕ}
use mathlib.Core.Bool.{Bool, true, false}
use mathlib.Core.List.{List, [], ◌∷◌}
use mathlib.Core.Path.{◌≡◌, refl}
use Rattle.seq.specs.Lists.{All}
use Rattle.seq.specs.Bytes.{chars}
use Rattle.utf8.specs.Table.{encoding}
use Rattle.strings.specs.Strings.{digit, unit, low_at, short, escape, undone_after, undone, lone_after, has_lone, escaped}

-- what stands between the quotes, the text, and whether a half in no pair stands in it
record Example : Type 0 where
  pub spelling : List ℕ
  pub text : List ℕ
  pub lone : Bool

abbrev Undoes : Example → Type 0
Undoes e = (undone e.spelling ≡ e.text) × (has_lone e.spelling ≡ e.lone)

abbrev whole : List ℕ → List ℕ → Example
whole spelling text = record { spelling = spelling; text = text; lone = false }

abbrev broken : List ℕ → List ℕ → Example
broken spelling text = record { spelling = spelling; text = text; lone = true }

-- texts as they are, and with an escape in them
abbrev texts : List Example
texts =
    whole [] []
    ∷ whole (chars "hub.donor.defer") (chars "hub.donor.defer")
    ∷ whole (0xc3 ∷ 0xa9 ∷ []) (0xc3 ∷ 0xa9 ∷ [])
    ∷ whole (chars "hub.donor.\\u0064efer") (chars "hub.donor.defer")
    ∷ whole (chars "a\\u002eb\\u0023") (chars "a.b#")
    ∷ []

pub texts-undone : All Undoes texts
unfolding digit unit low_at short escape undone_after lone_after encoding
texts-undone = ((refl, refl), ((refl, refl), ((refl, refl), ((refl, refl), ((refl, refl), tt)))))

-- the escapes of two bytes
abbrev twos : List Example
twos =
    whole (chars "\\\"") (0x22 ∷ [])
    ∷ whole (chars "\\\\") (0x5c ∷ [])
    ∷ whole (chars "\\/") (0x2f ∷ [])
    ∷ whole (chars "\\b") (0x08 ∷ [])
    ∷ whole (chars "\\f") (0x0c ∷ [])
    ∷ whole (chars "\\n") (0x0a ∷ [])
    ∷ whole (chars "\\r") (0x0d ∷ [])
    ∷ whole (chars "\\t") (0x09 ∷ [])
    -- an escaped backslash before a u
    ∷ whole (chars "\\\\u0041") (chars "\\u0041")
    ∷ []

pub twos-undone : All Undoes twos
unfolding digit unit low_at short escape undone_after lone_after encoding
twos-undone = ((refl, refl), ((refl, refl), ((refl, refl), ((refl, refl), ((refl, refl), ((refl, refl), ((refl, refl), ((refl, refl), ((refl, refl), tt)))))))))

-- digits of both cases
abbrev digits : List Example
digits =
    whole (chars "\\u00e9") (0xc3 ∷ 0xa9 ∷ [])
    ∷ whole (chars "\\u00E9") (0xc3 ∷ 0xa9 ∷ [])
    ∷ whole (chars "\\uabcd\\uABCD") (0xea ∷ 0xaf ∷ 0x8d ∷ 0xea ∷ 0xaf ∷ 0x8d ∷ [])
    ∷ whole (chars "\\u1f0f\\u6789") (0xe1 ∷ 0xbc ∷ 0x8f ∷ 0xe6 ∷ 0x9e ∷ 0x89 ∷ [])
    ∷ []

pub digits-undone : All Undoes digits
unfolding digit unit low_at short escape undone_after lone_after encoding
digits-undone = ((refl, refl), ((refl, refl), ((refl, refl), ((refl, refl), tt))))

-- the rows of the table
abbrev rows : List Example
rows =
    whole (chars "\\u0000") (0 ∷ [])
    ∷ whole (chars "\\u007f") (0x7f ∷ [])
    ∷ whole (chars "\\u0080") (0xc2 ∷ 0x80 ∷ [])
    ∷ whole (chars "\\u07ff") (0xdf ∷ 0xbf ∷ [])
    ∷ whole (chars "\\u0800") (0xe0 ∷ 0xa0 ∷ 0x80 ∷ [])
    ∷ whole (chars "\\ud7ff") (0xed ∷ 0x9f ∷ 0xbf ∷ [])
    ∷ whole (chars "\\ue000") (0xee ∷ 0x80 ∷ 0x80 ∷ [])
    ∷ whole (chars "\\uffff") (0xef ∷ 0xbf ∷ 0xbf ∷ [])
    ∷ []

pub rows-undone : All Undoes rows
unfolding digit unit low_at short escape undone_after lone_after encoding
rows-undone = ((refl, refl), ((refl, refl), ((refl, refl), ((refl, refl), ((refl, refl), ((refl, refl), ((refl, refl), ((refl, refl), tt))))))))

-- pairs
abbrev pairs : List Example
pairs =
    whole (chars "\\ud800\\udc00") (0xf0 ∷ 0x90 ∷ 0x80 ∷ 0x80 ∷ [])
    ∷ whole (chars "\\ud83d\\ude00") (0xf0 ∷ 0x9f ∷ 0x98 ∷ 0x80 ∷ [])
    ∷ whole (chars "\\uD83D\\uDE00") (0xf0 ∷ 0x9f ∷ 0x98 ∷ 0x80 ∷ [])
    ∷ whole (chars "\\udbff\\udfff") (0xf4 ∷ 0x8f ∷ 0xbf ∷ 0xbf ∷ [])
    ∷ []

pub pairs-undone : All Undoes pairs
unfolding digit unit low_at short escape undone_after lone_after encoding
pairs-undone = ((refl, refl), ((refl, refl), ((refl, refl), ((refl, refl), tt))))

-- halves in no pair
abbrev halves : List Example
halves =
    broken (chars "\\ud800") (0xed ∷ 0xa0 ∷ 0x80 ∷ [])
    ∷ broken (chars "\\udbff") (0xed ∷ 0xaf ∷ 0xbf ∷ [])
    ∷ broken (chars "\\udc00") (0xed ∷ 0xb0 ∷ 0x80 ∷ [])
    ∷ broken (chars "\\udfff") (0xed ∷ 0xbf ∷ 0xbf ∷ [])
    ∷ broken (chars "\\udc00\\ud800") (0xed ∷ 0xb0 ∷ 0x80 ∷ 0xed ∷ 0xa0 ∷ 0x80 ∷ [])
    ∷ broken (chars "\\ud800\\ud800\\udc00") (0xed ∷ 0xa0 ∷ 0x80 ∷ 0xf0 ∷ 0x90 ∷ 0x80 ∷ 0x80 ∷ [])
    ∷ broken (chars "\\udc00\\udc00") (0xed ∷ 0xb0 ∷ 0x80 ∷ 0xed ∷ 0xb0 ∷ 0x80 ∷ [])
    ∷ broken (chars "\\ud800x\\udc00") (0xed ∷ 0xa0 ∷ 0x80 ∷ 0x78 ∷ 0xed ∷ 0xb0 ∷ 0x80 ∷ [])
    ∷ broken (chars "\\ud800\\n") (0xed ∷ 0xa0 ∷ 0x80 ∷ 0x0a ∷ [])
    ∷ broken (chars "\\ud800\\udbff") (0xed ∷ 0xa0 ∷ 0x80 ∷ 0xed ∷ 0xaf ∷ 0xbf ∷ [])
    ∷ broken (chars "\\ud800\\ue000") (0xed ∷ 0xa0 ∷ 0x80 ∷ 0xee ∷ 0x80 ∷ 0x80 ∷ [])
    ∷ []

pub halves-undone : All Undoes halves
unfolding digit unit low_at short escape undone_after lone_after encoding
halves-undone = ((refl, refl), ((refl, refl), ((refl, refl), ((refl, refl), ((refl, refl), ((refl, refl), ((refl, refl), ((refl, refl), ((refl, refl), ((refl, refl), ((refl, refl), tt)))))))))))

-- written: a quote and a backslash get one before them, and nothing else does
pub written : escaped (chars "a\"b\\c/d") ≡ chars "a\\\"b\\\\c/d"
unfolding escaped
written = refl
