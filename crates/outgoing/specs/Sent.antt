-- The messages sent a second time (PROTOCOL, "Sent"): each by the elements of its list, as the messages taken in are (incoming/specs).
-- `render` (specs/Outgoing.antt) has their bytes; proofs/Sent.antt proves that they are those of a list of these elements, in both formats.
use Rattle.std.specs.Prelude.{ℕ, ◌≤◌, ◌<◌, cond, List, [], ◌∷◌, ◌++◌, ◌≡◌, length}
use Rattle.seq.specs.declared.Format.{Format}
use Rattle.seq.specs.declared.Format.TheVariants.{Json, MsgPack}
use Rattle.seq.specs.{Bytes.chars, Bytes.is, Bytes.Payload, Decimal.decimal, Lists.All}
use Rattle.lex.specs.Grammar.{Language, Is, ◌·◌, ◌∪◌}
use Rattle.msgpack.specs.Grammar.{Code, Number, Fix, StrHead, ArrayHead, MapHead}
use Rattle.outgoing.specs.Outgoing.{Outgoing, Welcome, Abort, Goodbye, Error, Reply, Published, Subscribed, Event, Registered, Unsubscribed, Unregistered, Invocation, Result, Failure, Request, Publish, Subscribe, Unsubscribe, Register, Unregister, Details, Plain, Names}

-- ==== JSON
-- ---- a list without white space
abbrev pub rest : List (List ℕ) → List ℕ
rest [] = chars "]"
rest (e ∷ es) = chars "," ++ (e ++ rest es)

abbrev pub list : List (List ℕ) → List ℕ
list [] = chars "[]"
list (e ∷ es) = chars "[" ++ (e ++ rest es)

-- ---- elements
-- what stands between a string's quotes: a quote behind a backslash, two backslashes for one, and every other byte itself
unfoldable pub spelled_out : List ℕ → List ℕ
spelled_out [] = []
spelled_out (b ∷ t) =
    cond (is "\"" b) (chars "\\\"" ++ spelled_out t)
    (cond (is "\\" b) (chars "\\\\" ++ spelled_out t)
    (b ∷ spelled_out t))

abbrev pub text : List ℕ → List ℕ
text t = chars "\"" ++ (spelled_out t ++ chars "\"")

-- "Type is the message number of the request that the ERROR answers"
abbrev pub number : Request → List ℕ
number Publish = chars "16"
number Subscribe = chars "32"
number Unsubscribe = chars "34"
number Register = chars "64"
number Unregister = chars "66"

-- "`{}` for an exact row", else the URI under this key
abbrev pub dict : List ℕ → Details → List ℕ
dict key Plain = chars "{}"
dict key (Names uri) = chars "{" ++ (text key ++ (chars ":" ++ (text uri ++ chars "}")))

-- ---- messages; a payload's values are the last elements
abbrev pub elements : Outgoing → List (List ℕ)
elements (Welcome session) =
    chars "2" ∷ decimal session
    ∷ chars "{\"roles\":{\"broker\":{\"features\":{\"pattern_based_subscription\":true}},\"dealer\":{\"features\":{\"pattern_based_registration\":true}}}}"
    ∷ []
elements (Abort reason) = chars "3" ∷ chars "{}" ∷ text reason ∷ []
elements (Goodbye reason) = chars "6" ∷ chars "{}" ∷ text reason ∷ []
elements (Error type request uri) = chars "8" ∷ number type ∷ decimal request ∷ chars "{}" ∷ text uri ∷ []
elements (Reply request (Failure uri payload)) = chars "8" ∷ chars "48" ∷ decimal request ∷ chars "{}" ∷ text uri ∷ payload
elements (Reply request (Result payload)) = chars "50" ∷ decimal request ∷ chars "{}" ∷ payload
elements (Published request publication) = chars "17" ∷ decimal request ∷ decimal publication ∷ []
elements (Subscribed request subscription) = chars "33" ∷ decimal request ∷ decimal subscription ∷ []
elements (Unsubscribed request) = chars "35" ∷ decimal request ∷ []
elements (Event subscription publication details payload) =
    chars "36" ∷ decimal subscription ∷ decimal publication ∷ dict (chars "topic") details ∷ payload
elements (Registered request registration) = chars "65" ∷ decimal request ∷ decimal registration ∷ []
elements (Unregistered request) = chars "67" ∷ decimal request ∷ []
elements (Invocation invocation registration details payload) =
    chars "68" ∷ decimal invocation ∷ decimal registration ∷ dict (chars "procedure") details ∷ payload

-- ==== MessagePack, by the format's own table as sets of texts (msgpack/specs/Grammar.antt)
-- ---- the shortest forms
-- a text of a set that is in bytes, and no longer than any other
pub record Shortest (A : Language) (t : List ℕ) : Type 0 where
  pub one : A t
  pub bytes : All (λ b. b < 256) t
  pub least : (u : List ℕ) → A u → All (λ b. b < 256) u → length t ≤ length u

-- the integer n, unsigned: positive fixint 00 to 7F; uint 8, 16, 32 and 64. No form has room for more than 2^64 - 1
abbrev pub Unsigned : ℕ → Language
Unsigned n = Fix 0x00 127 n ∪ Code 0xcc · Number 1 n ∪ Code 0xcd · Number 2 n ∪ Code 0xce · Number 4 n ∪ Code 0xcf · Number 8 n

abbrev pub Whole : ℕ → Language
Whole n t = n < 0x10000000000000000 → Shortest (Unsigned n) t

-- a head that tells n. None has room for more than 2^32 - 1
abbrev pub Head : (ℕ → Language) → ℕ → Language
Head Forms n t = n < 0x100000000 → Shortest (Forms n) t

abbrev pub Str : List ℕ → Language
Str u = Head StrHead (length u) · Is u

-- ---- arrays and maps
-- a text of each set, in this order
abbrev pub Each : List Language → Language
Each [] = Is []
Each (A ∷ As) = A · Each As

abbrev pub Array : List Language → Language
Array As = Head ArrayHead (length As) · Each As

-- a map's member
abbrev pub Under : List ℕ → Language → Language
Under key Value = Str key · Value

abbrev pub Map : List Language → Language
Map Members = Head MapHead (length Members) · Each Members

-- ---- elements
abbrev pub TypeOf : Request → Language
TypeOf Publish = Whole 16
TypeOf Subscribe = Whole 32
TypeOf Unsubscribe = Whole 34
TypeOf Register = Whole 64
TypeOf Unregister = Whole 66

abbrev pub Dict : List ℕ → Details → Language
Dict key Plain = Map []
Dict key (Names uri) = Map (Under key (Str uri) ∷ [])

-- a role has one feature, which is true
abbrev pub Role : List ℕ → List ℕ → Language
Role role feature = Under role (Map (Under (chars "features") (Map (Under feature (Code 0xc3) ∷ [])) ∷ []))

abbrev pub Roles : Language
Roles =
    Map (Under (chars "roles")
    (Map (Role (chars "broker") (chars "pattern_based_subscription") ∷ Role (chars "dealer") (chars "pattern_based_registration") ∷ [])) ∷ [])

-- the values' own bytes
abbrev pub Values : Payload → List Language
Values [] = []
Values (v ∷ p) = Is v ∷ Values p

-- ---- messages
abbrev pub Elements : Outgoing → List Language
Elements (Welcome session) = Whole 2 ∷ Whole session ∷ Roles ∷ []
Elements (Abort reason) = Whole 3 ∷ Map [] ∷ Str reason ∷ []
Elements (Goodbye reason) = Whole 6 ∷ Map [] ∷ Str reason ∷ []
Elements (Error type request uri) = Whole 8 ∷ TypeOf type ∷ Whole request ∷ Map [] ∷ Str uri ∷ []
Elements (Reply request (Failure uri payload)) = Whole 8 ∷ Whole 48 ∷ Whole request ∷ Map [] ∷ Str uri ∷ Values payload
Elements (Reply request (Result payload)) = Whole 50 ∷ Whole request ∷ Map [] ∷ Values payload
Elements (Published request publication) = Whole 17 ∷ Whole request ∷ Whole publication ∷ []
Elements (Subscribed request subscription) = Whole 33 ∷ Whole request ∷ Whole subscription ∷ []
Elements (Unsubscribed request) = Whole 35 ∷ Whole request ∷ []
Elements (Event subscription publication details payload) =
    Whole 36 ∷ Whole subscription ∷ Whole publication ∷ Dict (chars "topic") details ∷ Values payload
Elements (Registered request registration) = Whole 65 ∷ Whole request ∷ Whole registration ∷ []
Elements (Unregistered request) = Whole 67 ∷ Whole request ∷ []
Elements (Invocation invocation registration details payload) =
    Whole 68 ∷ Whole invocation ∷ Whole registration ∷ Dict (chars "procedure") details ∷ Values payload

-- ==== both: these bytes are the message in the format
abbrev pub Written : Format → Outgoing → List ℕ → Type 0
Written Json m t = t ≡ list (elements m)
Written MsgPack m t = Array (Elements m) t
