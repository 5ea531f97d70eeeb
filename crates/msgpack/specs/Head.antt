-- The heads of MessagePack values: a first byte, and a number of 0, 1, 2, 4 or 8 bytes behind it.
use Rattle.std.specs.Prelude.{ℕ, zero, suc, ◌+◌, ◌*◌, ◌-◌, ◌≤◌, ◌<◌, ◌≡◌, List, [], ◌∷◌, cond, length, get_or, eqb, leb, ltb}
use Rattle.seq.specs.Bytes.{byte_at}
use Rattle.msgpack.specs.declared.Form.{Form}
use Rattle.msgpack.specs.declared.Head.{Head}

-- ---- kinds of values: what a head's number n means
abbrev pub nil : ℕ
nil = 0

abbrev pub no : ℕ
no = 1

abbrev pub yes : ℕ
yes = 2

-- the integer n
abbrev pub whole : ℕ
whole = 3

-- the integer -1 - n
abbrev pub below : ℕ
below = 4

-- n bytes of text follow
abbrev pub str : ℕ
str = 5

-- n bytes follow that are not looked at: bin, float and ext
abbrev pub opaque : ℕ
opaque = 6

-- n values follow
abbrev pub array : ℕ
array = 7

-- n pairs of values follow
abbrev pub map : ℕ
map = 8

-- no value starts so
abbrev pub none : ℕ
none = 9

-- a signed number follows
abbrev pub signed : ℕ
signed = 10

-- ---- what a first byte announces: a kind, how many bytes the number behind it has, and what to add to that number
abbrev pub form : ℕ → ℕ → ℕ → Form
form kind width base = record { kind = kind; width = width; base = base }

-- hex C0 to DF, in their order. An ext has a byte for its type before its data.
unfoldable pub forms : List Form
forms =
    form nil 0 0 ∷ form none 0 0 ∷ form no 0 0 ∷ form yes 0 0
    ∷ form opaque 1 0 ∷ form opaque 2 0 ∷ form opaque 4 0
    ∷ form opaque 1 1 ∷ form opaque 2 1 ∷ form opaque 4 1
    ∷ form opaque 0 4 ∷ form opaque 0 8
    ∷ form whole 1 0 ∷ form whole 2 0 ∷ form whole 4 0 ∷ form whole 8 0
    ∷ form signed 1 0 ∷ form signed 2 0 ∷ form signed 4 0 ∷ form signed 8 0
    ∷ form opaque 0 2 ∷ form opaque 0 3 ∷ form opaque 0 5 ∷ form opaque 0 9 ∷ form opaque 0 17
    ∷ form str 1 0 ∷ form str 2 0 ∷ form str 4 0
    ∷ form array 2 0 ∷ form array 4 0
    ∷ form map 2 0 ∷ form map 4 0 ∷ []

unfoldable pub form_of : ℕ → Form
form_of b =
    cond (ltb b 0x80) (form whole 0 b)
    (cond (ltb b 0x90) (form map 0 (b - 0x80))
    (cond (ltb b 0xa0) (form array 0 (b - 0x90))
    (cond (ltb b 0xc0) (form str 0 (b - 0xa0))
    (cond (ltb b 0xe0) (get_or forms (b - 0xc0) (form none 0 0))
    (form below 0 (0xff - b))))))

-- ---- numbers
-- the number in w bytes from a place on, big-endian
unfoldable pub number : List ℕ → ℕ → ℕ → ℕ
number s at zero = 0
number s at (suc w) = number s at w * 256 + byte_at s (at + w)

-- half of what w bytes can tell apart: the signed numbers from 0 up
unfoldable pub half : ℕ → ℕ
half w = cond (eqb w 1) 0x80 (cond (eqb w 2) 0x8000 (cond (eqb w 4) 0x80000000 0x8000000000000000))

-- ---- heads
abbrev pub head : ℕ → ℕ → ℕ → Head
head kind n end = record { kind = kind; n = n; end = end }

-- a signed number of w bytes, that reads as u unsigned
unfoldable pub signed_head : ℕ → ℕ → ℕ → Head
signed_head w u end = cond (ltb u (half w)) (head whole u end) (head below (2 * half w - 1 - u) end)

-- a first byte's form, and the number behind it
unfoldable pub head_of : Form → List ℕ → ℕ → Head
head_of f s at =
    cond (leb (at + 1 + f.width) (length s))
    (cond (eqb f.kind signed) (signed_head f.width (number s (at + 1) f.width) (at + 1 + f.width))
    (head f.kind (f.base + number s (at + 1) f.width) (at + 1 + f.width)))
    (head none 0 0)

-- the head at a place
unfoldable pub head_at : List ℕ → ℕ → Head
head_at s at = head_of (form_of (byte_at s at)) s at

-- ---- bounds, which callers of the code need
-- a head ends within a text of n bytes, and behind its place; an integer below 0 is from -2^63 up
pub record Placed (at n : ℕ) (h : Head) : Type 0 where
  pub inside : h.end ≤ n
  pub behind : (h.kind ≡ none → ⊥) → at < h.end
  pub low : h.kind ≡ below → h.n < 0x8000000000000000
