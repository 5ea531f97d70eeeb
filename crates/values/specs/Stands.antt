-- What the bytes at a place stand for, in both formats, where they convert; defined apart from what writes them. A number with a fraction or an
-- exponent, an integer out of range, a string with a lone half, bin, float, ext and a key that is no string stand for nothing here.
use Rattle.std.specs.Prelude.{ℕ, zero, suc, ◌+◌, ◌-◌, List, [], ◌∷◌, true, false, cond, ◌||◌, length, eqb, leb, ltb}
use Rattle.seq.specs.declared.Format.{Format}
use Rattle.seq.specs.declared.Format.TheVariants.{Json, MsgPack}
use Rattle.seq.specs.Bytes.{is, is_digit, chars, byte_at, part}
use Rattle.lex.specs.declared.Mark.{Mark}
use Rattle.lex.specs.declared.Mark.TheVariants.{Item, End, Neither}
use Rattle.lex.specs.Lex.{integer, quoted, close_list, close_dict, first, next, colon}
use Rattle.strings.specs.Strings.{undone, has_lone}
use Rattle.json_text.specs.Json.{literal}
use Rattle.elements.specs.Kinds.{decimal as natural}
use Rattle.msgpack.specs.declared.Head.{Head}
use Rattle.msgpack.specs.Head.{head_at, nil, no, yes, whole, below, str, array, map}
use Rattle.msgpack.specs.MsgPack.{text}
use Rattle.values.specs.Value.{Scalar, Layer, Member, Value}
use Rattle.values.specs.Value.Scalar.{Null, Flag, Whole, Below, Text}
use Rattle.values.specs.Value.Layer.{Plain, Items, Members}
use Rattle.values.specs.Read.{Read, then, made, past}
use Rattle.values.specs.Read.Read.{Gives, Not}

abbrev pub member : {A : Type 0} → List ℕ → A → Member A
member k v = record { key = k; value = v }

-- ---- MsgPack
-- n bytes of text from a place on
unfoldable pub text_at : List ℕ → ℕ → ℕ → Read (List ℕ)
text_at s at n = past (text s at n) λ e. Gives (part at e s) e

-- the text of a str whose head this is
unfoldable pub pack_text_at : List ℕ → Head → Read (List ℕ)
pack_text_at s h = cond (eqb h.kind str) (text_at s h.end h.n) Not

unfoldable pub pack_scalar_at : List ℕ → Head → Read Scalar
pack_scalar_at s h =
    cond (eqb h.kind nil) (Gives Null h.end)
    (cond (eqb h.kind no) (Gives (Flag false) h.end)
    (cond (eqb h.kind yes) (Gives (Flag true) h.end)
    (cond (eqb h.kind whole) (Gives (Whole h.n) h.end)
    (cond (eqb h.kind below) (Gives (Below h.n) h.end)
    (made Text (pack_text_at s h))))))

-- n values, one after the other
unfoldable pub items : {A : Type 0} → (ℕ → Read A) → ℕ → ℕ → Read (List A)
items item zero at = Gives [] at
items item (suc n) at = then (item at) λ v e. made (λ vs. v ∷ vs) (items item n e)

-- a key that is a str, and a value
unfoldable pub pack_member_at : {A : Type 0} → (ℕ → Read A) → List ℕ → ℕ → Read (Member A)
pack_member_at item s at = then (pack_text_at s (head_at s at)) λ k e. made (member k) (item e)

unfoldable pub pack_layer_at : {A : Type 0} → (ℕ → Read A) → List ℕ → Head → Read (Layer A)
pack_layer_at item s h =
    cond (eqb h.kind array) (made Items (items item h.n h.end))
    (cond (eqb h.kind map) (made Members (items (pack_member_at item s) h.n h.end))
    (made Plain (pack_scalar_at s h)))

-- ---- JSON
-- section 7: a string with both its quotes stands for its text undone; a half that stands alone is no character
unfoldable pub quoted_at : List ℕ → ℕ → Read (List ℕ)
quoted_at s at =
    past (quoted s at) λ e. cond (has_lone (part (at + 1) (e - 1) s)) Not (Gives (undone (part (at + 1) (e - 1) s)) e)

-- an int of RFC 8259 section 6, behind which neither frac nor exp stands
unfoldable pub whole_at : List ℕ → ℕ → Read ℕ
whole_at s at =
    past (integer s at) λ e.
    cond (is "." (byte_at s e) || (is "e" (byte_at s e) || is "E" (byte_at s e))) Not (Gives (natural 0 (part at e s)) e)

-- an integer in range, -0 being 0
unfoldable pub json_whole_at : List ℕ → ℕ → Read Scalar
json_whole_at s at = then (whole_at s at) λ n e. cond (ltb n 0x10000000000000000) (Gives (Whole n) e) Not

unfoldable pub json_below_at : List ℕ → ℕ → Read Scalar
json_below_at s at =
    then (whole_at s at) λ n e. cond (eqb n 0) (Gives (Whole 0) e) (cond (leb n 0x8000000000000000) (Gives (Below (n - 1)) e) Not)

-- a word's value, if the word stands there
abbrev pub word : List ℕ → Scalar → List ℕ → ℕ → Read Scalar
word w v s at = past (literal w s at) λ e. Gives v e

unfoldable pub json_scalar_at : List ℕ → ℕ → Read Scalar
json_scalar_at s at =
    cond (is "\"" (byte_at s at)) (made Text (quoted_at s at))
    (cond (is "-" (byte_at s at)) (json_below_at s (at + 1))
    (cond (is_digit (byte_at s at)) (json_whole_at s at)
    (cond (is "t" (byte_at s at)) (word (chars "true") (Flag true) s at)
    (cond (is "f" (byte_at s at)) (word (chars "false") (Flag false) s at)
    (cond (is "n" (byte_at s at)) (word (chars "null") Null s at)
    Not)))))

-- go on at an item, and stop at the closing byte
abbrev pub onward : {A : Type 0} → Mark → (ℕ → Read (List A)) → Read (List A)
onward (Item a) more = more a
onward (End e) more = Gives [] e
onward Neither more = Not

-- items with a comma between two of them, up to the closing byte; `fuel` is at least the bytes that are left
unfoldable pub series : {A : Type 0} → (ℕ → Read A) → ℕ → ℕ → List ℕ → ℕ → Read (List A)
series item close zero s at = Not
series item close (suc fuel) s at =
    then (item at) λ v e. made (λ vs. v ∷ vs) (onward (next close s e) (series item close fuel s))

unfoldable pub enclosed : {A : Type 0} → (ℕ → Read A) → ℕ → List ℕ → ℕ → Read (List A)
enclosed item close s at = onward (first close s at) (series item close (length s) s)

unfoldable pub json_member_at : {A : Type 0} → (ℕ → Read A) → List ℕ → ℕ → Read (Member A)
json_member_at item s at = then (quoted_at s at) λ k e. past (colon s e) λ a. made (member k) (item a)

unfoldable pub json_layer_at : {A : Type 0} → (ℕ → Read A) → List ℕ → ℕ → Read (Layer A)
json_layer_at item s at =
    cond (is "[" (byte_at s at)) (made Items (enclosed item close_list s (at + 1)))
    (cond (is "{" (byte_at s at)) (made Members (enclosed (json_member_at item s) close_dict s (at + 1)))
    (made Plain (json_scalar_at s at)))

-- ---- both
abbrev pub scalar_at : Format → List ℕ → ℕ → Read Scalar
scalar_at Json s at = json_scalar_at s at
scalar_at MsgPack s at = pack_scalar_at s (head_at s at)

abbrev pub layer_at : Format → {A : Type 0} → (ℕ → Read A) → List ℕ → ℕ → Read (Layer A)
layer_at Json item s at = json_layer_at item s at
layer_at MsgPack item s at = pack_layer_at item s (head_at s at)

-- the value at a place
unfoldable pub stands : Format → (depth : ℕ) → List ℕ → ℕ → Read (Value depth)
stands f zero s at = scalar_at f s at
stands f (suc depth) s at = layer_at f (stands f depth s) s at
