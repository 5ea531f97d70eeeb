-- The bytes of a value, in both formats (PROTOCOL, "Values").
use Rattle.std.specs.Prelude.{ℕ, zero, suc, ◌+◌, ◌-◌, ◌/◌, ◌%◌, List, [], ◌∷◌, ◌++◌, true, false, cond, length, ltb}
use Prim.Native.Char.{code}
use Rattle.seq.specs.declared.Format.{Format}
use Rattle.seq.specs.declared.Format.TheVariants.{Json, MsgPack}
use Rattle.seq.specs.Bytes.{chars}
use Rattle.seq.specs.Lists.{joined}
use Rattle.seq.specs.Decimal.{decimal}
use Rattle.strings.specs.Strings.{is_marked}
use Rattle.values.specs.Value.{Scalar, Layer, Member, Value}
use Rattle.values.specs.Value.Scalar.{Null, Flag, Whole, Below, Text}
use Rattle.values.specs.Value.Layer.{Plain, Items, Members}

-- ---- JSON (RFC 8259), without white space
-- a hexadecimal digit, in lower case
unfoldable pub hex_digit : ℕ → ℕ
hex_digit n = cond (ltb n 10) (code "0" + n) (code "a" + (n - 10))

-- a byte of a string: a backslash before each quote and each backslash, `\u00xx` below hex 20, and all else as it is
unfoldable pub spelled : ℕ → List ℕ
spelled b =
    cond (is_marked b) (code "\\" ∷ b ∷ [])
    (cond (ltb b 0x20) (chars "\\u00" ++ (hex_digit (b / 16) ∷ hex_digit (b % 16) ∷ []))
    (b ∷ []))

unfoldable pub quoted_text : List ℕ → List ℕ
quoted_text t = code "\"" ∷ joined spelled t ++ (code "\"" ∷ [])

unfoldable pub json_scalar : Scalar → List ℕ
json_scalar Null = chars "null"
json_scalar (Flag true) = chars "true"
json_scalar (Flag false) = chars "false"
json_scalar (Whole n) = decimal n
json_scalar (Below n) = 45 ∷ decimal (n + 1)
json_scalar (Text t) = quoted_text t

-- what f gives for each element, each behind a comma
unfoldable pub commaed : {A : Type 0} → (A → List ℕ) → List A → List ℕ
commaed f [] = []
commaed f (x ∷ xs) = 44 ∷ f x ++ commaed f xs

-- the same with commas between two alone
unfoldable pub separated : {A : Type 0} → (A → List ℕ) → List A → List ℕ
separated f [] = []
separated f (x ∷ xs) = f x ++ commaed f xs

unfoldable pub json_member : {A : Type 0} → (A → List ℕ) → Member A → List ℕ
json_member f m = quoted_text m.key ++ 58 ∷ f m.value

abbrev pub json_list : {A : Type 0} → (A → List ℕ) → List A → List ℕ
json_list f vs = 91 ∷ separated f vs ++ (93 ∷ [])

abbrev pub json_dict : {A : Type 0} → (A → List ℕ) → List (Member A) → List ℕ
json_dict f ms = 123 ∷ separated (json_member f) ms ++ (125 ∷ [])

unfoldable pub json_layer : {A : Type 0} → (A → List ℕ) → Layer A → List ℕ
json_layer f (Plain v) = json_scalar v
json_layer f (Items vs) = json_list f vs
json_layer f (Members ms) = json_dict f ms

-- ---- MsgPack, in the shortest forms
-- a number in w bytes, big-endian
unfoldable pub wide : ℕ → ℕ → List ℕ
wide zero n = []
wide (suc w) n = wide w (n / 256) ++ (n % 256 ∷ [])

unfoldable pub pack_whole : ℕ → List ℕ
pack_whole n =
    cond (ltb n 0x80) (n ∷ [])
    (cond (ltb n 0x100) (0xcc ∷ wide 1 n)
    (cond (ltb n 0x10000) (0xcd ∷ wide 2 n)
    (cond (ltb n 0x100000000) (0xce ∷ wide 4 n)
    (0xcf ∷ wide 8 n))))

-- the integer -1 - n
unfoldable pub pack_below : ℕ → List ℕ
pack_below n =
    cond (ltb n 0x20) ((0xff - n) ∷ [])
    (cond (ltb n 0x80) (0xd0 ∷ wide 1 (0xff - n))
    (cond (ltb n 0x8000) (0xd1 ∷ wide 2 (0xffff - n))
    (cond (ltb n 0x80000000) (0xd2 ∷ wide 4 (0xffffffff - n))
    (0xd3 ∷ wide 8 (0xffffffffffffffff - n)))))

-- the heads of a str of n bytes, of an array of n values and of a map of n pairs
unfoldable pub pack_str : ℕ → List ℕ
pack_str n =
    cond (ltb n 0x20) ((0xa0 + n) ∷ [])
    (cond (ltb n 0x100) (0xd9 ∷ wide 1 n)
    (cond (ltb n 0x10000) (0xda ∷ wide 2 n)
    (0xdb ∷ wide 4 n)))

unfoldable pub pack_array : ℕ → List ℕ
pack_array n =
    cond (ltb n 0x10) ((0x90 + n) ∷ [])
    (cond (ltb n 0x10000) (0xdc ∷ wide 2 n)
    (0xdd ∷ wide 4 n))

unfoldable pub pack_map : ℕ → List ℕ
pack_map n =
    cond (ltb n 0x10) ((0x80 + n) ∷ [])
    (cond (ltb n 0x10000) (0xde ∷ wide 2 n)
    (0xdf ∷ wide 4 n))

unfoldable pub pack_text : List ℕ → List ℕ
pack_text t = pack_str (length t) ++ t

unfoldable pub pack_scalar : Scalar → List ℕ
pack_scalar Null = 0xc0 ∷ []
pack_scalar (Flag true) = 0xc3 ∷ []
pack_scalar (Flag false) = 0xc2 ∷ []
pack_scalar (Whole n) = pack_whole n
pack_scalar (Below n) = pack_below n
pack_scalar (Text t) = pack_text t

unfoldable pub pack_member : {A : Type 0} → (A → List ℕ) → Member A → List ℕ
pack_member f m = pack_text m.key ++ f m.value

unfoldable pub pack_layer : {A : Type 0} → (A → List ℕ) → Layer A → List ℕ
pack_layer f (Plain v) = pack_scalar v
pack_layer f (Items vs) = pack_array (length vs) ++ joined f vs
pack_layer f (Members ms) = pack_map (length ms) ++ joined (pack_member f) ms

-- ---- both
abbrev pub write_scalar : Format → Scalar → List ℕ
write_scalar Json v = json_scalar v
write_scalar MsgPack v = pack_scalar v

abbrev pub write_layer : Format → {A : Type 0} → (A → List ℕ) → Layer A → List ℕ
write_layer Json f v = json_layer f v
write_layer MsgPack f v = pack_layer f v

-- a value's bytes
unfoldable pub write : Format → (depth : ℕ) → Value depth → List ℕ
write f zero v = write_scalar f v
write f (suc depth) v = write_layer f (write f depth) v
