-- What is claimed of a contents page: each test again as a proposition, and what is read of a file that was written.
use Rattle.std.specs.Prelude.{ℕ, ◌+◌, ◌≤◌, ◌<◌, true, false, List, [], ◌⊎◌, ◌↔◌, ◌≡◌, length, get_or}
use Rattle.seq.specs.Lists.{All, In}
use Rattle.contents.specs.declared.Section.{Section}
use Rattle.contents.specs.Contents.{version, count, page_end, sections, end_of, cut_short, shares, no_section, parts, overlaps, kinds_good, body_of, whole, packed}

-- a place is one of a section's bytes
abbrev pub Within : Section → ℕ → Type 0
Within x i = (x.place ≤ i) × (i < end_of x)

-- of the kinds below n each has one section, and there is no section of another kind
pub record Kinds (n : ℕ) (s : List ℕ) : Type 0 where
  pub known : (x : Section) → In x (sections s) → x.kind < n
  pub there : (k : ℕ) → k < n → (i : ℕ) × (i < length (sections s)) × ((get_or (sections s) i no_section).kind ≡ k)
  pub once : (i j : ℕ) → i < length (sections s) → j < length (sections s)
      → (get_or (sections s) i no_section).kind ≡ (get_or (sections s) j no_section).kind → i ≡ j

-- written: a file of these bodies
pub record Back (v : ℕ) (bs : List (List ℕ)) : Type 0 where
  pub version : version (packed v bs) ≡ v
  pub count : count (packed v bs) ≡ length bs
  -- "each right behind the last": the first behind the page, the last one's end is the file's
  pub first : (0 < length bs) → (get_or (sections (packed v bs)) 0 no_section).place ≡ page_end (length bs)
  pub next : (i : ℕ) → i + 1 < length bs
      → (get_or (sections (packed v bs)) (i + 1) no_section).place ≡ end_of (get_or (sections (packed v bs)) i no_section)
  pub last : (i : ℕ) → i + 1 ≡ length bs → end_of (get_or (sections (packed v bs)) i no_section) ≡ length (packed v bs)
  -- "by kind"
  pub kinds : (i : ℕ) → i < length bs → (get_or (sections (packed v bs)) i no_section).kind ≡ i
  -- so none of the tests finds anything, and each body is read as it was
  pub wholly : cut_short (packed v bs) ≡ false
  pub apart : overlaps (packed v bs) ≡ false
  pub right : kinds_good (length bs) (packed v bs) ≡ true
  pub bodies : (k : ℕ) → k < length bs → body_of k (packed v bs) ≡ get_or bs k []

pub record Claims : Type 0 where
  -- two sections share a byte exactly where a place is in both; so an empty one shares none
  pub shared : (x y : Section) → (shares x y ≡ true) ↔ ((i : ℕ) × Within x i × Within y i)
  -- some byte is in two of the parts, the page being the first of them
  pub overlap : (s : List ℕ) → (overlaps s ≡ true)
      ↔ ((i : ℕ) × (j : ℕ) × (b : ℕ) × (i < j) × (j < length (parts s)) × Within (get_or (parts s) i no_section) b × Within (get_or (parts s) j no_section) b)
  pub cut : (s : List ℕ) → (cut_short s ≡ true)
      ↔ ((length s < page_end (count s)) ⊎ ((x : Section) × In x (sections s) × (length s < end_of x)))
  pub kinds : (n : ℕ) (s : List ℕ) → (kinds_good n s ≡ true) ↔ Kinds n s
  -- with places that 4 bytes can tell
  pub back : (v : ℕ) (bs : List (List ℕ)) → page_end (length bs) + length (whole bs) < 4294967296 → Back v bs
  -- a version of one byte, and fewer than 256 bodies: each number of the file is a byte
  pub bytes : (v : ℕ) (bs : List (List ℕ)) → v < 256 → length bs < 256 → All (All (λ b. b < 256)) bs → All (λ b. b < 256) (packed v bs)
