-- JSON texts and what they mean, by computation: both sides of each edge. Assumes nothing.
use Prim.Native.Nat.{ℕ}
use mathlib.Core.List.{List, [], ◌∷◌}
use mathlib.Core.Logic.{inr}
use mathlib.Core.Path.{◌≡◌, refl}
use native.Mathlib.Omega.{arith}
use Rattle.seq.specs.declared.Format.TheVariants.{Json}
use Rattle.seq.specs.Bytes.{chars, same}
use Rattle.seq.specs.Lists.{All}
use Rattle.seq.proofs.Rules.{all_map}
use Rattle.utf8.specs.Table.{encoding}
use Rattle.lex.specs.Lex.{run, past, some_digits, integer, hex4, is_escape, escape, char, string, quoted, first, next, colon}
use Rattle.strings.specs.Strings.{digit, unit, low_at, short, escape as unescape, undone_after, lone_after}
use Rattle.json_text.specs.Json.{literal}
use Rattle.elements.specs.Kinds.{decimal as natural}
use Rattle.values.specs.Value.{Value}
use Rattle.values.specs.Value.Scalar.{Null, Whole, Below, Text}
use Rattle.values.specs.Value.Layer.{Items, Members}
use Rattle.values.specs.Read.Read.{Not}
use Rattle.values.specs.Stands.{member, quoted_at, whole_at, json_whole_at, json_below_at, json_scalar_at, series, enclosed, json_member_at, json_layer_at, stands}
use Rattle.values.proofs.Facts.{json-zero, json-ends, json-parts, json-strings, json-spellings, json-halves, json-deep}
use Rattle.meanings.specs.Json.{Means}
use Rattle.meanings.proofs.Json.{json-means, means-none, means-whole}

abbrev Nothing : ℕ → List ℕ → Type 0
Nothing depth t = (v : Value depth) → ¬ (Means depth v t)

none-all : (depth : ℕ) (ts : List (List ℕ)) → All (λ t. stands Json depth t 0 ≡ Not) ts → All (Nothing depth) ts
none-all depth ts h = all_map (λ t. stands Json depth t 0 ≡ Not) (Nothing depth) (means-none depth) ts h

-- ---- integers
-- -0 is 0
pub zeros : Means 0 (Whole 0) (chars "0") × Means 0 (Whole 0) (chars "-0")
zeros = ((json-means 0 (chars "0") (Whole 0)).0 json-zero.0.1, inr (refl, (chars "-", chars "0", refl, refl, refl)))

-- 2^64 - 1 and 2^64, -2^63 and -2^63 - 1
pub ends : Means 0 (Whole 0xffffffffffffffff) (chars "18446744073709551615") × Nothing 0 (chars "18446744073709551616")
    × Means 0 (Below 0x7fffffffffffffff) (chars "-9223372036854775808") × Nothing 0 (chars "-9223372036854775809")
ends = (
  (json-means 0 (chars "18446744073709551615") (Whole 0xffffffffffffffff)).0 json-ends.0.1,
  means-none 0 (chars "18446744073709551616") json-ends.1,
  (json-means 0 (chars "-9223372036854775808") (Below 0x7fffffffffffffff)).0 json-ends.2.1,
  means-none 0 (chars "-9223372036854775809") json-ends.3,
)

-- a fraction, or an exponent
abbrev with_parts : List (List ℕ)
with_parts = chars "1.0" ∷ chars "1e2" ∷ chars "1E2" ∷ chars "0.5" ∷ chars "-0.0" ∷ chars "-1e0" ∷ []

pub parts : All (Nothing 0) with_parts
parts = none-all 0 with_parts json-parts

-- no digit, another sign, and white space before
abbrev no_numbers : List (List ℕ)
no_numbers = chars "" ∷ chars "-" ∷ chars "+1" ∷ chars "--1" ∷ chars " 1" ∷ []

pub no-numbers : All (Nothing 0) no_numbers
unfolding stands json_scalar_at json_whole_at json_below_at whole_at natural run past some_digits integer
no-numbers = none-all 0 no_numbers (refl, (refl, (refl, (refl, (refl, tt)))))

-- an int, and more behind it: a digit behind a zero, white space, a letter
pub more : Nothing 0 (chars "01") × Nothing 0 (chars "-01") × Nothing 0 (chars "1 ") × Nothing 0 (chars "1a")
unfolding stands json_scalar_at json_whole_at json_below_at whole_at natural run past some_digits integer
more = (
  means-whole 0 (chars "01") (Whole 0) 1 refl (λ e. omega arith),
  means-whole 0 (chars "-01") (Whole 0) 2 refl (λ e. omega arith),
  means-whole 0 (chars "1 ") (Whole 1) 1 refl (λ e. omega arith),
  means-whole 0 (chars "1a") (Whole 1) 1 refl (λ e. omega arith),
)

-- ---- strings: two spellings of one text; a pair of halves, and halves alone
abbrev with_lone : List (List ℕ)
with_lone = chars "\"\\ud83d\"" ∷ chars "\"\\ude00\"" ∷ chars "\"\\ud83d\\ud83d\\ude00\"" ∷ []

pub strings : Means 0 (Text (0x1f ∷ [])) (chars "\"\\u001f\"") × Means 0 (Text (0x1f ∷ [])) (chars "\"\\u001F\"")
    × Means 0 (Text (0xf0 ∷ 0x9f ∷ 0x98 ∷ 0x80 ∷ [])) (chars "\"\\ud83d\\ude00\"")
    × All (Nothing 0) with_lone × Nothing 1 (chars "{\"\\ud83d\":1}")
strings = (
  (json-means 0 (chars "\"\\u001f\"") (Text (0x1f ∷ []))).0 json-strings.0.1,
  (json-means 0 (chars "\"\\u001F\"") (Text (0x1f ∷ []))).0 json-spellings.0,
  (json-means 0 (chars "\"\\ud83d\\ude00\"") (Text (0xf0 ∷ 0x9f ∷ 0x98 ∷ 0x80 ∷ []))).0 json-halves.0,
  none-all 0 with_lone json-halves.1,
  means-none 1 (chars "{\"\\ud83d\":1}") json-halves.2,
)

-- ---- lists and dicts
-- one more than may be opened
pub deep : All (Nothing 0) (chars "[]" ∷ chars "{}" ∷ []) × Means 1 (Items []) (chars "[]") × Means 1 (Members []) (chars "{}")
    × Nothing 1 (chars "[[]]") × Means 2 (Items (Items [] ∷ [])) (chars "[[]]")
deep = (
  none-all 0 (chars "[]" ∷ chars "{}" ∷ []) json-deep.0,
  (json-means 1 (chars "[]") (Items [])).0 json-deep.1.1,
  (json-means 1 (chars "{}") (Members [])).0 json-deep.2.1,
  means-none 1 (chars "[[]]") json-deep.3,
  (json-means 2 (chars "[[]]") (Items (Items [] ∷ []))).0 json-deep.4.1,
)

-- white space; a key twice, whose values both stand; commas, keys and ends that are wrong
abbrev wrong : List (List ℕ)
wrong = chars "[1,]" ∷ chars "[,1]" ∷ chars "[1 2]" ∷ chars "{1:1}" ∷ chars "{\"a\"}" ∷ chars "{\"a\":1" ∷ []

pub several : Means 2 (Members (member (chars "a") (Items (Whole 1 ∷ Below 1 ∷ Null ∷ [])) ∷ [])) (chars "{ \"a\" : [ 1 , -2,null ] }")
    × Means 1 (Members (member (chars "a") (Whole 1) ∷ member (chars "a") (Whole 2) ∷ [])) (chars "{\"a\":1,\"\\u0061\":2}")
    × All (Nothing 1) wrong
unfolding stands json_layer_at enclosed series json_member_at json_scalar_at json_whole_at json_below_at whole_at natural quoted_at
    run past some_digits integer hex4 is_escape escape char string quoted first next colon literal same
    unescape digit unit low_at short undone_after lone_after encoding
several = (
  (json-means 2 (chars "{ \"a\" : [ 1 , -2,null ] }") (Members (member (chars "a") (Items (Whole 1 ∷ Below 1 ∷ Null ∷ [])) ∷ []))).0 refl,
  (json-means 1 (chars "{\"a\":1,\"\\u0061\":2}") (Members (member (chars "a") (Whole 1) ∷ member (chars "a") (Whole 2) ∷ []))).0 refl,
  none-all 1 wrong (refl, (refl, (refl, (refl, (refl, (refl, tt)))))),
)
