-- The members of a map that is an element of a message (PROTOCOL, "MessagePack"), in order, and the value of a str key, as crate members has
-- those of a JSON dict.
use Rattle.std.specs.Prelude.{ℕ, zero, suc, List, [], ◌∷◌, Bool, cond, ◌&&◌, length, eqb, leb, Some, None, Option}
use Rattle.seq.specs.declared.Span.{Span}
use Rattle.seq.specs.Bytes.{part, text_of, same}
use Rattle.json_text.specs.Json.{max_bytes}
use Rattle.msgpack.specs.Head.{head_at, str, map}
use Rattle.msgpack.specs.MsgPack.{value}
use Rattle.members.specs.Members.{Pair, pair, blank, member_depth}

-- go on past what was read
abbrev pub on_to : Option ℕ → (ℕ → List Pair) → List Pair
on_to (Some e) f = f e
on_to None f = []

-- n pairs of values
unfoldable pub pairs : (ℕ → Option ℕ) → ℕ → ℕ → List Pair
pairs item zero at = []
pairs item (suc n) at = on_to (item at) λ e. on_to (item e) λ z. pair at e e z ∷ pairs item n z

-- the members of the map whose head stands at a place; none if no map stands there, or the text is over the limit
abbrev pub members_in : ℕ → List ℕ → ℕ → List Pair
members_in limit t at =
    cond (leb (length t) limit && eqb (head_at t at).kind map)
    (pairs (value member_depth t) (head_at t at).n (head_at t at).end) []

unfoldable pub members_at : List ℕ → ℕ → List Pair
members_at t at = members_in max_bytes t at

-- the member's key is a str of this text. Keys of other kinds are unknown keys
unfoldable pub is_key : List ℕ → List ℕ → Pair → Bool
is_key t key p =
    eqb (head_at t p.key.from).kind str && same (part (head_at t p.key.from).end p.key.to t) key

-- the value of a key; an empty span if there is none
unfoldable pub value_of : List ℕ → List ℕ → List Pair → Span
value_of t key [] = blank
value_of t key (p ∷ ps) = cond (is_key t key p) p.value (value_of t key ps)

-- the map that a text of so many bytes at most is: the value of a key, [] where it is absent
unfoldable pub member_in : ℕ → List ℕ → List ℕ → List ℕ
member_in limit key t = text_of t (value_of t key (members_in limit t 0))

-- the map that is an element of a message taken in
unfoldable pub value_in : List ℕ → List ℕ → List ℕ
value_in key t = text_of t (value_of t key (members_at t 0))
