-- The str keys of the maps that are open, as the code keeps them in one table for all depths: of each key where its text stands, and the
-- mark of that text.
use Rattle.std.specs.Prelude.{ℕ, zero, suc, ◌+◌, ◌-◌, ◌≤◌, ◌<◌, List, [], ◌∷◌, true, false, ◌≡◌, length, get_or, Some, None, Option}
use Rattle.seq.specs.Bytes.{part}
use Rattle.strings.specs.Places.{mark_of}
use Rattle.json_text.specs.Keys.{Table}
use Rattle.msgpack.specs.declared.Head.{Head}
use Rattle.msgpack.specs.MsgPack.{with_key, again}

-- the places in the three arrays
abbrev pub Sized : Table → Type 0
Sized t = (length t.starts ≡ 1024) × (length t.ends ≡ 1024) × (length t.marks ≡ 1024)

-- the text of the key at a place of the table
abbrev pub key_at : List ℕ → Table → ℕ → List ℕ
key_at s t i = part (get_or t.starts i 0) (get_or t.ends i 0) s

-- the texts of n keys from a place of the table on, the last of them first
unfoldable pub texts : List ℕ → Table → ℕ → ℕ → List (List ℕ)
texts s t from zero = []
texts s t from (suc n) = key_at s t (from + n) ∷ texts s t from n

-- each key from a place of the table up to another has its mark there
abbrev pub Entered : List ℕ → Table → ℕ → ℕ → Type 0
Entered s t from to = (i : ℕ) → from ≤ i → i < to → get_or t.marks i 0 ≡ mark_of (key_at s t i)

-- the first n keys stand as they stood
pub record Kept (n : ℕ) (old new : Table) : Type 0 where
  pub starts : (i : ℕ) → i < n → get_or new.starts i 0 ≡ get_or old.starts i 0
  pub ends : (i : ℕ) → i < n → get_or new.ends i 0 ≡ get_or old.ends i 0
  pub marks : (i : ℕ) → i < n → get_or new.marks i 0 ≡ get_or old.marks i 0
  pub sized : Sized old → Sized new

-- ---- a key of a map whose keys so far stand from place n up to z: it stands behind the head h up to e, and the map's keys go up to k then
pub record Noted (s : List ℕ) (h : Head) (e n z : ℕ) (old new : Table) (k : ℕ) : Type 0 where
  pub fresh : again s h e (texts s old n (z - n)) ≡ false
  pub keys : texts s new n (k - n) ≡ with_key s h e (texts s old n (z - n))
  pub entered : Entered s new n k
  pub least : z ≤ k
  pub most : k ≤ z + 1

abbrev pub Outcome : List ℕ → Head → ℕ → ℕ → ℕ → Table → Table → Option ℕ → Type 0
Outcome s h e n z old new (Some k) = Noted s h e n z old new k
Outcome s h e n z old new None = again s h e (texts s old n (z - n)) ≡ true

-- the key was noted, or was one of the map's keys already
pub record Noting (s : List ℕ) (h : Head) (e n z : ℕ) (old new : Table) (r : Option ℕ) : Type 0 where
  pub so : Outcome s h e n z old new r
