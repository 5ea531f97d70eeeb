-- The members of a dict, in order, and the value of a key. Keys and values are spans of the text; a key's has both quotes.
use Rattle.std.specs.Prelude.{ℕ, zero, suc, ◌+◌, ◌-◌, ◌≤◌, ◌<◌, List, [], ◌∷◌, Bool, not, cond, ◌&&◌, length, leb, Some, None, Option}
use Rattle.seq.specs.declared.Span.{Span}
use Rattle.seq.specs.Lists.{every}
use Rattle.seq.specs.Bytes.{is, byte_at, part, text_of, same}
use Rattle.strings.specs.Strings.{undone, has_lone}
use Rattle.lex.specs.declared.Mark.{Mark}
use Rattle.lex.specs.declared.Mark.TheVariants.{Item, End, Neither}
use Rattle.lex.specs.Lex.{quoted, colon, close_dict, first, next}
use Rattle.json_text.specs.Json.{max_bytes, value}
use Rattle.members.specs.declared.Member.{Member}

pub record Pair : Type 0 where
  pub key : Span
  pub value : Span

-- a key from k to q and a value from a to e
abbrev pub pair : ℕ → ℕ → ℕ → ℕ → Pair
pair k q a e = record { key = record { from = k; to = q }; value = record { from = a; to = e } }

-- a member: its key ends just before q, and its value stands from a to e
abbrev pub member_of : ℕ → ℕ → ℕ → Option Member
member_of q a e = Some (record { key_end = q; value = record { from = a; to = e } })

-- go on past what was read
abbrev pub on_to : Option ℕ → (ℕ → Option Member) → Option Member
on_to (Some e) f = f e
on_to None f = None

-- RFC 8259, section 4: the member whose key starts at k is a key, a colon and a value
unfoldable pub member_at : (ℕ → Option ℕ) → List ℕ → ℕ → Option Member
member_at v t k = on_to (quoted t k) λ q. on_to (colon t q) λ a. on_to (v a) λ e. member_of q a e

-- go on at a member, and stop at the closing brace
abbrev pub on_item : Mark → (ℕ → List Pair) → List Pair
on_item (Item k) f = f k
on_item (End e) f = []
on_item Neither f = []

abbrev pub on_member : Option Member → (ℕ → ℕ → ℕ → List Pair) → List Pair
on_member (Some m) f = f m.key_end m.value.from m.value.to
on_member None f = []

-- section 4: the members from a mark on, with a comma between two of them; `fuel` is at least the bytes that are left
unfoldable pub pairs : (ℕ → Option ℕ) → ℕ → List ℕ → Mark → List Pair
pairs v zero t m = []
pairs v (suc fuel) t m = on_item m λ k. on_member (member_at v t k) λ q a e. pair k q a e ∷ pairs v fuel t (next close_dict t e)

-- PROTOCOL, "Sizes": depth 8 in all; the outer list is depth 1, a dict in it depth 2
abbrev pub member_depth : ℕ
member_depth = 6

-- the members of the dict whose brace stands at a place; none if no brace stands there, or the text is over the limit
abbrev pub members_in : ℕ → List ℕ → ℕ → List Pair
members_in limit t at =
    cond (leb (length t) limit && is "{" (byte_at t at))
    (pairs (value member_depth t) (length t) t (first close_dict t (at + 1))) []

unfoldable pub members_at : List ℕ → ℕ → List Pair
members_at t at = members_in max_bytes t at

abbrev pub blank : Span
blank = record { from = 0; to = 0 }

-- what stands between a key's quotes
abbrev pub key_in : List ℕ → Pair → List ℕ
key_in t p = part (p.key.from + 1) (p.key.to - 1) t

-- the value of a key, compared undone; an empty span if there is none
unfoldable pub value_of : List ℕ → List ℕ → List Pair → Span
value_of t key [] = blank
value_of t key (p ∷ ps) = cond (same (undone (key_in t p)) key) p.value (value_of t key ps)

-- no half of a surrogate pair stands alone in a key
abbrev pub sound_keys : List ℕ → List Pair → Bool
sound_keys t ps = every (λ p. not (has_lone (key_in t p))) ps

-- the dict that a text of so many bytes at most is: the value of a key, [] where it is absent
unfoldable pub member_in : ℕ → List ℕ → List ℕ → List ℕ
member_in limit key t = text_of t (value_of t key (members_in limit t 0))

-- the dict that is an element of a message taken in; no half stands alone in a key
unfoldable pub value_in : List ℕ → List ℕ → List ℕ
value_in key t = text_of t (value_of t key (members_at t 0))

unfoldable pub sound_in : List ℕ → Bool
sound_in t = sound_keys t (members_at t 0)

-- a member whose key starts at k ends behind that place and within a text of n bytes
abbrev pub Beyond : ℕ → ℕ → Option Member → Type 0
Beyond k n (Some m) = (k < m.value.to) × (m.value.to ≤ n)
Beyond k n None = Unit {0}
