-- The URI rule (PROTOCOL, "URI texts"), and a text's components.
use Rattle.std.specs.Prelude.{ℕ, ◌+◌, Bool, true, false, not, cond, ◌&&◌, ◌||◌, List, eqb, leb, length, drop}
use Rattle.seq.specs.Lists.{every, is_empty, but_last, first_part, parts}
use Rattle.seq.specs.Bytes.{chars, same}
use Rattle.uri.specs.declared.Policy.{Policy}
use Rattle.uri.specs.declared.Policy.TheVariants.{Exact, Prefix, Wildcard}

-- ---- policies ("exact, prefix or wildcard")
-- the number of a policy in the lent state
abbrev pub policy_no : Policy → ℕ
policy_no Exact = 0
policy_no Prefix = 1
policy_no Wildcard = 2

-- the same policy
unfoldable pub same_policy : Policy → Policy → Bool
same_policy p q = eqb (policy_no p) (policy_no q)

-- ---- byte classes
-- "bytes hex 00 to 20, and `#`"
abbrev pub refused : ℕ → Bool
refused b = leb b 32 || eqb b 35

-- the byte between components
abbrev pub dot : ℕ
dot = 46

abbrev pub is_dot : ℕ → Bool
is_dot b = eqb b dot

-- the rule of "A table of 256 byte classes": 0 refused, 1 taken
abbrev pub class_of : ℕ → ℕ
class_of b = cond (refused b) 0 1

-- ---- components
-- "Components between dots"
abbrev pub components : List ℕ → List (List ℕ)
components s = parts is_dot s

-- where the component that starts at a place ends: its dot, or the text's end; past the end the place itself
unfoldable pub part_end : List ℕ → ℕ → ℕ
part_end s at = at + length (first_part is_dot (drop at s))

-- ---- the URI rule
-- "a URI text 1 to 128 bytes"
abbrev pub longest : ℕ
longest = 128

-- a byte that is not refused
abbrev pub is_clean : ℕ → Bool
is_clean b = not (refused b)

-- none is, since they are "Refused in every text"
abbrev pub clean : List ℕ → Bool
clean s = every is_clean s

-- no component is empty; or none but the last
unfoldable pub filled : Bool → List ℕ → Bool
filled last_open s = every (λ c. not (is_empty c)) (cond last_open (but_last (components s)) (components s))

-- "non-empty in an exact text .. In a prefix text only the last may be empty. In a wildcard text any may be empty."
unfoldable pub components_filled : Policy → List ℕ → Bool
components_filled Exact s = filled false s
components_filled Prefix s = filled true s
components_filled Wildcard s = true

-- what every text obeys, by its policy
unfoldable pub valid_text : List ℕ → Policy → Bool
valid_text s policy = not (eqb (length s) 0) && leb (length s) longest && clean s && components_filled policy s

-- "the first component `wamp`"
unfoldable pub reserved_first : List ℕ → Bool
reserved_first s = same (first_part is_dot s) (chars "wamp")

-- ---- the rule of a text by its use. A rule that is asked of one use alone is said in that one's definition, and nowhere else
-- what is asked of a row's text, by its policy
abbrev pub TextRule : Type 0
TextRule = List ℕ → Policy → Bool

-- the topic of a SUBSCRIBE, and of a subscription's row
unfoldable pub valid_topic : TextRule
valid_topic s policy = valid_text s policy

-- the procedure of a REGISTER, and of a registration's row: "REGISTER and PUBLISH also refuse the first component `wamp`"
unfoldable pub valid_procedure : TextRule
valid_procedure s policy = valid_text s policy && not (reserved_first s)

-- the topic of a PUBLISH
unfoldable pub valid_published : List ℕ → Bool
valid_published s = valid_text s Exact && not (reserved_first s)

-- the procedure of a CALL
unfoldable pub valid_called : List ℕ → Bool
valid_called s = valid_text s Exact

-- the URI of an ERROR
unfoldable pub valid_error : List ℕ → Bool
valid_error s = valid_text s Exact
