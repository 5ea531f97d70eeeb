-- What kind of JSON value a text is, and the ID in it (PROTOCOL, "Reading a message").
use Rattle.std.specs.Prelude.{ℕ, ◌+◌, ◌*◌, ◌-◌, List, [], ◌∷◌, cond, ◌&&◌, eqb, leb}
use Prim.Native.Char.{code}
use Rattle.seq.specs.Bytes.{is, is_digit, byte_at}
use Rattle.seq.specs.Lists.{every}
use Rattle.seq.specs.Numbers.{last_id}

-- the number that digits stand for, after digits that stand for v
unfoldable pub decimal : ℕ → List ℕ → ℕ
decimal v [] = v
decimal v (b ∷ bs) = decimal (v * 10 + (b - code "0")) bs

-- digits only, and at most 2^53, after digits that stand for v; else 0
unfoldable pub id_from : ℕ → List ℕ → ℕ
id_from v t = cond (every is_digit t && leb (decimal v t) last_id) (decimal v t) 0

-- an ID: digits only, no leading zero, 1 to 2^53; 0 if the text is none
unfoldable pub id_of : List ℕ → ℕ
id_of t = cond (is "0" (byte_at t 0)) 0 (id_from 0 t)

-- the kinds
abbrev pub an_id : ℕ
an_id = 1

abbrev pub a_string : ℕ
a_string = 2

abbrev pub a_list : ℕ
a_list = 3

abbrev pub a_dict : ℕ
a_dict = 4

abbrev pub another : ℕ
another = 5

-- the kind of a JSON value (RFC 8259, section 3: the first byte decides)
unfoldable pub kind : List ℕ → ℕ
kind t =
    cond (is "\"" (byte_at t 0)) a_string
    (cond (is "[" (byte_at t 0)) a_list
    (cond (is "{" (byte_at t 0)) a_dict
    (cond (eqb (id_of t) 0) another an_id)))
