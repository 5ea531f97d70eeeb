-- Small files with a contents page, computed: beside those that a test takes stand their neighbours that it refuses. Assumes nothing.
use Prim.Native.Nat.{ℕ}
use mathlib.Core.Bool.{true, false}
use mathlib.Core.List.{List, [], ◌∷◌, ◌++◌}
use mathlib.Core.Path.{◌≡◌, refl}
use lib.ListN.{length, replicate}
use Rattle.seq.specs.Lists.{every, pairwise, first_from, tally, joined, All}
use Rattle.seq.specs.BigEndian.{number, digits, cut}
use Rattle.contents.specs.declared.Section.{Section}
use Rattle.contents.specs.Contents.{section_of, sections, inside, cut_short, shares, apart, page, parts, overlaps, of_kind, below, kinds_good, body_at, body_of, entry, entries, packed}

-- a section of a kind, from a place on
abbrev at : ℕ → ℕ → ℕ → Section
at kind place len = record { kind = kind; place = place; len = len }

-- the page of some sections, and n bytes behind it. One section's page has 11 bytes, two sections' 20
abbrev file : List Section → ℕ → List ℕ
file xs n = 1 ∷ length xs ∷ (joined (λ (x : Section). x.kind ∷ (digits 4 x.place ++ digits 4 x.len)) xs ++ replicate n 0)

-- ---- reaching past the file's end
-- no byte; no number of sections; an entry whose last byte is missing; a section one byte past the end; an empty one there
pub cut-files : All (λ s. cut_short s ≡ true) ([] ∷ (1 ∷ []) ∷ (1 ∷ 1 ∷ replicate 8 0) ∷ file (at 0 11 6 ∷ []) 5 ∷ file (at 0 17 0 ∷ []) 5 ∷ [])
unfolding every number digits cut section_of sections inside cut_short
cut-files = (refl, (refl, (refl, (refl, (refl, tt)))))

-- no section; an entry whose bytes are all there, and 0; sections that end with the file
pub uncut-files : All (λ s. cut_short s ≡ false) ((1 ∷ 0 ∷ []) ∷ (1 ∷ 1 ∷ replicate 9 0) ∷ file (at 0 11 5 ∷ []) 5 ∷ file (at 0 16 0 ∷ []) 5 ∷ [])
unfolding every number digits cut section_of sections inside cut_short
uncut-files = (refl, (refl, (refl, (refl, tt))))

-- ---- a byte of two parts
-- a section that begins in the page's last byte; two sections that share a byte, in either order; one within the other
pub overlapping-files : All (λ s. overlaps s ≡ true) (
    file (at 0 10 2 ∷ []) 5
    ∷ file (at 0 20 2 ∷ at 1 21 2 ∷ []) 3
    ∷ file (at 0 21 2 ∷ at 1 20 2 ∷ []) 3
    ∷ file (at 0 20 3 ∷ at 1 21 1 ∷ []) 3
    ∷ [])
unfolding every pairwise number digits cut section_of sections shares apart page parts overlaps
overlapping-files = (refl, (refl, (refl, (refl, tt))))

-- sections that touch, in either order, and empty ones in the page and in a section
pub apart-files : All (λ s. overlaps s ≡ false) (
    file (at 0 11 2 ∷ []) 2
    ∷ file (at 0 20 2 ∷ at 1 22 1 ∷ []) 3
    ∷ file (at 0 22 1 ∷ at 1 20 2 ∷ []) 3
    ∷ file (at 0 5 0 ∷ []) 0
    ∷ file (at 0 20 3 ∷ at 1 21 0 ∷ []) 3
    ∷ file (at 0 21 0 ∷ at 1 20 3 ∷ []) 3
    ∷ [])
unfolding every pairwise number digits cut section_of sections shares apart page parts overlaps
apart-files = (refl, (refl, (refl, (refl, (refl, (refl, tt))))))

-- ---- kinds 0 and 1, each once
pub good-files : All (λ s. kinds_good 2 s ≡ true) (file (at 0 20 0 ∷ at 1 20 0 ∷ []) 0 ∷ file (at 1 20 0 ∷ at 0 20 0 ∷ []) 0 ∷ [])
unfolding every tally number digits cut section_of sections of_kind below kinds_good
good-files = (refl, (refl, tt))

-- one missing; one twice; another kind beside them
pub bad-files : All (λ s. kinds_good 2 s ≡ false) (
    file (at 0 11 0 ∷ []) 0
    ∷ file (at 0 29 0 ∷ at 1 29 0 ∷ at 1 29 0 ∷ []) 0
    ∷ file (at 0 29 0 ∷ at 1 29 0 ∷ at 2 29 0 ∷ []) 0
    ∷ [])
unfolding every tally number digits cut section_of sections of_kind below kinds_good
bad-files = (refl, (refl, (refl, tt)))

-- ---- a file as it is written, and its bodies as they are read
abbrev written : List ℕ
written = packed 7 ((3 ∷ []) ∷ [] ∷ (4 ∷ 5 ∷ []) ∷ [])

pub bytes_of :
    written
    ≡ 7 ∷ 3 ∷ 0 ∷ 0 ∷ 0 ∷ 0 ∷ 29 ∷ 0 ∷ 0 ∷ 0 ∷ 1 ∷ 1 ∷ 0 ∷ 0 ∷ 0 ∷ 30 ∷ 0 ∷ 0 ∷ 0 ∷ 0 ∷ 2 ∷ 0 ∷ 0 ∷ 0 ∷ 30 ∷ 0 ∷ 0 ∷ 0 ∷ 2 ∷ 3 ∷ 4 ∷ 5 ∷ []
unfolding digits entry entries packed
bytes_of = refl

pub sections-of : sections written ≡ at 0 29 1 ∷ at 1 30 0 ∷ at 2 30 2 ∷ []
unfolding number digits cut section_of sections entry entries packed
sections-of = refl

pub bodies_of : (body_of 0 written ≡ 3 ∷ []) × (body_of 1 written ≡ []) × (body_of 2 written ≡ 4 ∷ 5 ∷ []) × (body_of 3 written ≡ [])
unfolding first_from number digits cut section_of sections of_kind body_at body_of entry entries packed
bodies_of = (refl, refl, refl, refl)
