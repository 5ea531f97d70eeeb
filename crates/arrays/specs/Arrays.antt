-- The elements of a message's array (PROTOCOL, "MessagePack"), in order, as crate elements has those of a JSON list: spans of the text.
use Rattle.std.specs.Prelude.{ℕ, zero, suc, ◌+◌, ◌*◌, ◌-◌, List, [], ◌∷◌, ◌++◌, cond, ◌&&◌, length, replicate, eqb, leb, Option}
use Rattle.seq.specs.declared.Span.{Span}
use Rattle.seq.specs.Bytes.{text_of}
use Rattle.seq.specs.Numbers.{last_id}
use Rattle.json_text.specs.Json.{max_bytes}
use Rattle.msgpack.specs.Head.{head_at, whole, str, array, map}
use Rattle.msgpack.specs.MsgPack.{value}
use Rattle.elements.specs.Kinds.{an_id, a_string, a_list, a_dict, another}
use Rattle.elements.specs.declared.Elements.{Elements}
use Rattle.elements.specs.Elements.{Items, Are, Not, after, span, on_to, inner_depth, max_elements, few, blank, with_kind}

-- n values, one after the other
unfoldable pub spans : (ℕ → Option ℕ) → ℕ → ℕ → Items
spans item zero at = Are [] at
spans item (suc n) at = on_to (item at) λ e. after (span at e ∷ []) (spans item n e)

-- nothing follows the array
abbrev pub ended : List ℕ → Items → Items
ended s (Are ps e) = cond (eqb e (length s)) (Are ps e) Not
ended s Not = Not

-- the elements of the array that a text of so many bytes at most is
abbrev pub outer_in : ℕ → List ℕ → Items
outer_in limit s =
    cond (leb (length s) limit && eqb (head_at s 0).kind array)
    (ended s (spans (value inner_depth s) (head_at s 0).n (head_at s 0).end)) Not

-- of a message taken in: 2,048 bytes at most
unfoldable pub outer : List ℕ → Items
outer s = outer_in max_bytes s

-- the elements, if they are not too many for a message
abbrev pub listed_in : ℕ → List ℕ → List Span
listed_in limit s = few (outer_in limit s)

unfoldable pub listed : List ℕ → List Span
listed s = few (outer s)

-- an ID: an integer of any form, 1 to 2^53; 0 if the text is none
unfoldable pub id_of : List ℕ → ℕ
id_of t = cond (eqb (head_at t 0).kind whole && leb (head_at t 0).n last_id) (head_at t 0).n 0

-- the kind of a value, by its head
unfoldable pub kind : List ℕ → ℕ
kind t =
    cond (eqb (head_at t 0).kind str) a_string
    (cond (eqb (head_at t 0).kind array) a_list
    (cond (eqb (head_at t 0).kind map) a_dict
    (cond (eqb (id_of t) 0) another an_id)))

-- the kinds of elements as decimal digits, after digits v
unfoldable pub kinds_from : List ℕ → ℕ → List Span → ℕ
kinds_from s v [] = v
kinds_from s v (p ∷ ps) = kinds_from s (v * 10 + kind (text_of s p)) ps

abbrev pub kinds_of : List ℕ → List Span → ℕ
kinds_of s ps = kinds_from s 0 ps

-- ---- the same as the code holds them
-- the elements and their kinds, in an array of 7
abbrev pub held : List ℕ → List Span → Elements
held s ps = record { kinds = kinds_of s ps; n = length ps; spans = ps ++ replicate (max_elements - length ps) blank }

-- with one element more
abbrev pub pushed : List ℕ → Elements → Span → Elements
pushed s r p = with_kind r p (kind (text_of s p))
