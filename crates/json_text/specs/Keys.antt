-- The keys of the dicts that are open, as the code keeps them in one table for all depths: of each key where it stands in the text, from
-- its first quote to just past its last one, and the mark of its text.
use Rattle.std.specs.Prelude.{ℕ, zero, suc, ◌+◌, ◌≤◌, ◌<◌, List, [], ◌∷◌, ◌≡◌, length, get_or, set}
use Rattle.strings.specs.Places.{mark_of}
use Rattle.json_text.specs.Json.{key_from}

pub record Table : Type 0 where
  pub starts : List ℕ
  pub ends : List ℕ
  pub marks : List ℕ

abbrev pub table : List ℕ → List ℕ → List ℕ → Table
table starts ends marks = record { starts = starts; ends = ends; marks = marks }

-- the places in the three arrays
abbrev pub Sized : Table → Type 0
Sized t = (length t.starts ≡ 512) × (length t.ends ≡ 512) × (length t.marks ≡ 512)

-- the text of the key at a place of the table
abbrev pub key_at : List ℕ → Table → ℕ → List ℕ
key_at s t i = key_from s (get_or t.starts i 0) (get_or t.ends i 0)

-- the texts of n keys from a place of the table on, the last of them first
unfoldable pub texts : List ℕ → Table → ℕ → ℕ → List (List ℕ)
texts s t from zero = []
texts s t from (suc n) = key_at s t (from + n) ∷ texts s t from n

-- a key that stands from k to q, and its mark, put at place z
abbrev pub with_key : Table → ℕ → ℕ → ℕ → ℕ → Table
with_key t z k q mark = table (set t.starts z k) (set t.ends z q) (set t.marks z mark)

-- each key from a place of the table up to another has its mark there
abbrev pub Entered : List ℕ → Table → ℕ → ℕ → Type 0
Entered s t from to = (i : ℕ) → from ≤ i → i < to → get_or t.marks i 0 ≡ mark_of (key_at s t i)

-- the first n keys stand as they stood
pub record Kept (n : ℕ) (old new : Table) : Type 0 where
  pub starts : (i : ℕ) → i < n → get_or new.starts i 0 ≡ get_or old.starts i 0
  pub ends : (i : ℕ) → i < n → get_or new.ends i 0 ≡ get_or old.ends i 0
  pub marks : (i : ℕ) → i < n → get_or new.marks i 0 ≡ get_or old.marks i 0
  pub sized : Sized old → Sized new
