-- Files with a contents page (PROTOCOL, "Contents pages"): version 1, number of sections 1, then for each section kind 1, place 4 (from the
-- file's start) and length 4; then the sections' bodies. Numbers are big-endian.
use Rattle.std.specs.Prelude.{ℕ, zero, suc, ◌+◌, ◌*◌, ◌<◌, Bool, not, ◌&&◌, ◌||◌, List, [], ◌∷◌, ◌++◌, map, eqb, leb, ltb, length, take, drop, get_or}
use Rattle.seq.specs.Lists.{every, pairwise, first, on_found, tally, joined}
use Rattle.seq.specs.Bytes.{byte_at}
use Rattle.seq.specs.BigEndian.{number, digits, cut}
use Rattle.contents.specs.declared.Section.{Section}

-- ---- the page
abbrev pub entry_size : ℕ
entry_size = 9

-- the version, and the number of sections
abbrev pub version : List ℕ → ℕ
version s = byte_at s 0

abbrev pub count : List ℕ → ℕ
count s = byte_at s 1

-- where the page of n sections ends
abbrev pub page_end : ℕ → ℕ
page_end n = 2 + n * entry_size

-- the section of an entry's 9 bytes
unfoldable pub section_of : List ℕ → Section
section_of b = record { kind = byte_at b 0; place = number 4 (drop 1 b); len = number 4 (drop 5 b) }

unfoldable pub sections : List ℕ → List Section
sections s = map section_of (cut entry_size (count s) (drop 2 s))

-- the place behind a section's last byte
abbrev pub end_of : Section → ℕ
end_of x = x.place + x.len

-- place and length are below 2^32, as 4 bytes tell them, so that their sum fits
abbrev pub Narrow : Section → Type 0
Narrow x = (x.place < 4294967296) × (x.len < 4294967296)

-- ---- what a page may get wrong
-- the section reaches no further than the file, an empty one too
unfoldable pub inside : List ℕ → Section → Bool
inside s x = leb (end_of x) (length s)

-- the page or a section reaches past the file's end
unfoldable pub cut_short : List ℕ → Bool
cut_short s = ltb (length s) (page_end (count s)) || not (every (inside s) (sections s))

-- a byte of the one is a byte of the other; an empty section has none
unfoldable pub shares : Section → Section → Bool
shares x y = ltb x.place (end_of x) && (ltb y.place (end_of y) && (ltb x.place (end_of y) && ltb y.place (end_of x)))

unfoldable pub apart : Section → Section → Bool
apart x y = not (shares x y)

-- the page, as if it were a section
unfoldable pub page : List ℕ → Section
page s = record { kind = 0; place = 0; len = page_end (count s) }

-- the page and the sections
unfoldable pub parts : List ℕ → List Section
parts s = page s ∷ sections s

-- a section's byte is in another section or in the page
unfoldable pub overlaps : List ℕ → Bool
overlaps s = not (pairwise apart (parts s))

-- the section is of a kind
unfoldable pub of_kind : ℕ → Section → Bool
of_kind k x = eqb x.kind k

-- the numbers below n
unfoldable pub below : ℕ → List ℕ
below zero = []
below (suc n) = below n ++ (n ∷ [])

-- of the kinds below n each has one section, and there is no section of another kind
unfoldable pub kinds_good : ℕ → List ℕ → Bool
kinds_good n s =
    every (λ x. ltb x.kind n) (sections s) && every (λ k. eqb (tally (of_kind k) (sections s)) 1) (below n)

-- ---- bodies
-- the bytes of a section
unfoldable pub body_at : List ℕ → Section → List ℕ
body_at s x = take x.len (drop x.place s)

-- no section
abbrev pub no_section : Section
no_section = record { kind = 0; place = 0; len = 0 }

-- the body of the first section of a kind; none where there is no such section
unfoldable pub body_of : ℕ → List ℕ → List ℕ
body_of k s = on_found (first (of_kind k) (sections s)) (λ i. body_at s (get_or (sections s) i no_section)) []

-- ---- written: sections by kind, from 0 up, each right behind the last
unfoldable pub entry : ℕ → ℕ → List ℕ → List ℕ
entry kind place body = kind ∷ (digits 4 place ++ digits 4 (length body))

-- the entries of bodies, from a kind and a place on
unfoldable pub entries : ℕ → ℕ → List (List ℕ) → List ℕ
entries kind place [] = []
entries kind place (b ∷ bs) = entry kind place b ++ entries (suc kind) (place + length b) bs

abbrev pub whole : List (List ℕ) → List ℕ
whole bs = joined (λ (b : List ℕ). b) bs

unfoldable pub packed : ℕ → List (List ℕ) → List ℕ
packed v bs = v ∷ length bs ∷ (entries 0 (page_end (length bs)) bs ++ whole bs)
