-- The elements of a list, in order, and those of a message's outer list. Elements are spans of the text.
use Rattle.std.specs.Prelude.{ℕ, zero, suc, ◌+◌, ◌*◌, ◌-◌, List, [], ◌∷◌, ◌++◌, cond, ◌&&◌, length, get_or, set, replicate, eqb, leb, Some, None, Option}
use Rattle.seq.specs.declared.Span.{Span}
use Rattle.seq.specs.Bytes.{is, byte_at, text_of}
use Rattle.lex.specs.declared.Mark.{Mark}
use Rattle.lex.specs.declared.Mark.TheVariants.{Item, End, Neither}
use Rattle.lex.specs.Lex.{space, close_list, first, next}
use Rattle.json_text.specs.Json.{max_bytes, value}
use Rattle.elements.specs.declared.Elements.{Elements}
use Rattle.elements.specs.Kinds.{kind}

-- the spans of a list's elements, in order, and the place just past its bracket; or no list
pub data Items : Type 0 where
  Are : List Span → ℕ → Items
  Not : Items

-- with spans in front
abbrev pub after : List Span → Items → Items
after ps (Are qs e) = Are (ps ++ qs) e
after ps Not = Not

abbrev pub span : ℕ → ℕ → Span
span a e = record { from = a; to = e }

-- go on past an element
abbrev pub on_to : Option ℕ → (ℕ → Items) → Items
on_to (Some e) f = f e
on_to None f = Not

-- go on at an element, and stop at the closing bracket
abbrev pub on_mark : Mark → (ℕ → Items) → Items
on_mark (Item a) f = f a
on_mark (End e) f = Are [] e
on_mark Neither f = Not

-- RFC 8259, section 5: the elements from a place on, with a comma between two of them; `fuel` is at least the bytes that are left
unfoldable pub items : (ℕ → Option ℕ) → ℕ → List ℕ → ℕ → Items
items item zero s at = Not
items item (suc fuel) s at = on_to (item at) λ e. after (span at e ∷ []) (on_mark (next close_list s e) (items item fuel s))

-- a list from just past its bracket on, in whose elements `depth` lists and dicts may be opened
unfoldable pub elements : ℕ → List ℕ → ℕ → Items
elements depth s at = on_mark (first close_list s at) (items (value depth s) (length s) s)

-- only white space follows the list
abbrev pub whole : List ℕ → Items → Items
whole s (Are ps e) = cond (eqb (space s e) (length s)) (Are ps e) Not
whole s Not = Not

-- PROTOCOL, "Sizes": depth 8 in all, the outer list being depth 1
abbrev pub inner_depth : ℕ
inner_depth = 7

-- the elements of the list that a text of so many bytes at most is
abbrev pub outer_in : ℕ → List ℕ → Items
outer_in limit s =
    cond (leb (length s) limit && is "[" (byte_at s (space s 0)))
    (whole s (elements inner_depth s (space s 0 + 1))) Not

-- of a message taken in: 2,048 bytes at most
unfoldable pub outer : List ℕ → Items
outer s = outer_in max_bytes s

-- the most elements that a message has: an ERROR with a list and a dict
abbrev pub max_elements : ℕ
max_elements = 7

-- the elements, if they are not too many for a message
abbrev pub few : Items → List Span
few (Are ps e) = cond (leb (length ps) max_elements) ps []
few Not = []

abbrev pub listed_in : ℕ → List ℕ → List Span
listed_in limit s = few (outer_in limit s)

unfoldable pub listed : List ℕ → List Span
listed s = few (outer s)

-- the kinds of elements as decimal digits, after digits v
unfoldable pub kinds_from : List ℕ → ℕ → List Span → ℕ
kinds_from s v [] = v
kinds_from s v (p ∷ ps) = kinds_from s (v * 10 + kind (text_of s p)) ps

abbrev pub kinds_of : List ℕ → List Span → ℕ
kinds_of s ps = kinds_from s 0 ps

-- ---- the same as the code holds them
abbrev pub blank : Span
blank = record { from = 0; to = 0 }

-- element k, and an empty span past the last
abbrev pub at : ℕ → List Span → Span
at k ps = get_or ps k blank

-- the elements and their kinds, in an array of 7
abbrev pub held : List ℕ → List Span → Elements
held s ps = record { kinds = kinds_of s ps; n = length ps; spans = ps ++ replicate (max_elements - length ps) blank }

abbrev pub nothing : Elements
nothing = record { kinds = 0; n = 0; spans = replicate max_elements blank }

-- with one element more, of kind k
abbrev pub with_kind : Elements → Span → ℕ → Elements
with_kind r p k = record { kinds = r.kinds * 10 + k; n = r.n + 1; spans = set r.spans r.n p }

-- with one element more
abbrev pub pushed : List ℕ → Elements → Span → Elements
pushed s r p = with_kind r p (kind (text_of s p))
