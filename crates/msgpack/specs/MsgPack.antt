-- MessagePack values as places in a text: a value that starts at a place ends at the place that `value` gives.
-- `depth` is how many arrays and maps may still be opened, one within the other.
use Rattle.std.specs.Prelude.{ℕ, zero, suc, ◌+◌, List, [], ◌∷◌, Bool, cond, ◌&&◌, length, eqb, leb, ltb, Some, None, Option}
use Rattle.seq.specs.Bytes.{part, among}
use Rattle.lex.specs.Lex.{and_then}
use Rattle.json_text.specs.Json.{max_bytes}
use Rattle.utf8.specs.Utf8.{well_formed}
use Rattle.msgpack.specs.declared.Head.{Head}
use Rattle.msgpack.specs.Head.{head_at, str, opaque, array, map}

-- n bytes from a place on
unfoldable pub bytes : List ℕ → ℕ → ℕ → Option ℕ
bytes s at n = cond (leb (at + n) (length s)) (Some (at + n)) None

-- n bytes of well-formed UTF-8 from a place on
unfoldable pub text : List ℕ → ℕ → ℕ → Option ℕ
text s at n = cond (well_formed (part at (at + n) s)) (bytes s at n) None

-- n values, one after the other
unfoldable pub times : (ℕ → Option ℕ) → ℕ → ℕ → Option ℕ
times item zero at = Some at
times item (suc n) at = and_then (item at) (times item n)

-- the keys seen, and the one from a head up to e, if it is a str
unfoldable pub with_key : List ℕ → Head → ℕ → List (List ℕ) → List (List ℕ)
with_key s h e seen = cond (eqb h.kind str) (part h.end e s ∷ seen) seen

-- a str from its head up to e that is one of the keys seen
unfoldable pub again : List ℕ → Head → ℕ → List (List ℕ) → Bool
again s h e seen = eqb h.kind str && among (part h.end e s) seen

-- n pairs of values; no two keys that are strs are equal
unfoldable pub pairs : (ℕ → Option ℕ) → List ℕ → List (List ℕ) → ℕ → ℕ → Option ℕ
pairs item s seen zero at = Some at
pairs item s seen (suc n) at =
    and_then (item at) λ e.
    cond (again s (head_at s at) e seen) None
    (and_then (item e) (pairs item s (with_key s (head_at s at) e seen) n))

-- the head decides
unfoldable pub by_head : (ℕ → ℕ → Option ℕ) → (ℕ → ℕ → Option ℕ) → List ℕ → Head → Option ℕ
by_head arrays maps s h =
    cond (ltb h.kind str) (Some h.end)
    (cond (eqb h.kind str) (text s h.end h.n)
    (cond (eqb h.kind opaque) (bytes s h.end h.n)
    (cond (eqb h.kind array) (arrays h.n h.end)
    (cond (eqb h.kind map) (maps h.n h.end)
    None))))

-- a value that starts at a place
unfoldable pub value : ℕ → List ℕ → ℕ → Option ℕ
value zero s at = by_head (λ n e. None) (λ n e. None) s (head_at s at)
value (suc depth) s at = by_head (times (value depth s)) (pairs (value depth s) s []) s (head_at s at)

-- an array's values and a map's pairs, from behind the head on
unfoldable pub array_at : ℕ → List ℕ → ℕ → ℕ → Option ℕ
array_at zero s n at = None
array_at (suc depth) s n at = times (value depth s) n at

unfoldable pub map_at : ℕ → List ℕ → ℕ → ℕ → Option ℕ
map_at zero s n at = None
map_at (suc depth) s n at = pairs (value depth s) s [] n at

-- a value that starts at a place; a text over the limit has none
unfoldable pub value_at : ℕ → List ℕ → ℕ → Option ℕ
value_at depth s at = cond (leb (length s) max_bytes) (value depth s at) None
