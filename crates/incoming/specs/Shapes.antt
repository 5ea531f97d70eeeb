-- The messages taken in, each by the texts of its list's elements (PROTOCOL, "Taken in" and "Reading a message"), in either format: as sets of
-- texts, JSON by its grammar (RFC 8259) and MessagePack by its own table. specs/Read.antt reads them; proofs/Shapes.antt proves that it reads
-- these and no others.
use Rattle.std.specs.Prelude.{ℕ, ◌≤◌, ◌<◌, length, Some, None, Option}
use mathlib.Core.{Bool.Bool, Bool.true, Bool.false, List.List, List.[], List.◌∷◌, Logic.◌⊎◌, Path.◌≡◌}
use Rattle.seq.specs.{declared.Format.Format, declared.Format.TheVariants.Json, declared.Format.TheVariants.MsgPack, Bytes.chars, Bytes.Payload}
use Rattle.seq.specs.Lists.{All, In}
use Rattle.uri.specs.{declared.Policy.Policy, declared.Policy.TheVariants.Exact, declared.Policy.TheVariants.Prefix, declared.Policy.TheVariants.Wildcard, Rule.UriText}
use Rattle.utf8.specs.Table.{Encoded}
use Rattle.strings.specs.Strings.{has_lone, inner, meant}
use Rattle.lex.specs.Grammar.{String}
use Rattle.json_text.specs.Grammar.{Array, Member, Object, Value}
use Rattle.elements.specs.Grammar.{ListOf}
use Rattle.msgpack.specs.Grammar as Packs
use Rattle.msgpack.specs.Grammar.{Str, Text, Pair}
use Rattle.arrays.specs.Grammar as Arrays
use Rattle.maps.specs.Grammar.{MapOf}
use Rattle.options.specs.Audience.{OptionValue, Absent, Given, Wrong, Audience}
pub use Rattle.options.specs.Grammar.{IdText}
use Rattle.options.specs.Grammar.{flag_text, IsFlag, IsIds}
use Rattle.incoming.specs.Incoming.{Incoming, Hello, Abort, Goodbye, Error, Publish, Subscribe, Unsubscribe, Call, Register, Unregister, Yield, Violation}

-- ---- elements, as each format has them
-- a string with both quotes, or a str with its head
abbrev pub IsString : Format → List ℕ → Type 0
IsString Json t = String t
IsString MsgPack t = Text t

-- no half of a surrogate pair stands alone in a string. Without escapes there are no halves
abbrev pub Sound : Format → List ℕ → Type 0
Sound Json t = has_lone (inner t) ≡ false
Sound MsgPack t = Unit {0}

-- a string that stands for a text
abbrev pub Says : Format → List ℕ → List ℕ → Type 0
Says Json text t = String t × Sound Json t × (meant t ≡ text)
Says MsgPack text t = Encoded text × Str text t

abbrev pub Dict : Format → List ℕ → Type 0
Dict Json t = (members : List Member) × Object (Value 6) members t
Dict MsgPack t = Packs.Map (Packs.Value 6) t

abbrev pub IsList : Format → List ℕ → Type 0
IsList Json t = (elements : List (List ℕ)) × All (Value 6) elements × Array elements t
IsList MsgPack t = Packs.Array (Packs.Value 6) t

-- 1 to 2,048 bytes, one list of these elements and nothing else. JSON is UTF-8 as a whole, of MessagePack each str is; a byte is below 256
abbrev pub Made : Format → List (List ℕ) → List ℕ → Type 0
Made Json elements s = (1 ≤ length s) × Encoded s × ListOf elements s
Made MsgPack elements s = (1 ≤ length s) × All (λ b. b < 256) s × Arrays.ListOf elements s

-- ---- options, as each format has them
-- a dict of these members, in whose keys no half stands alone
abbrev pub OptionsOf : List Member → List ℕ → Type 0
OptionsOf members t = Object (Value 6) members t × All (λ m. Sound Json m.key) members

abbrev pub Options : Format → List ℕ → Type 0
Options Json t = (members : List Member) × OptionsOf members t
Options MsgPack t = (pairs : List Pair) × MapOf pairs t

-- with a key that stands for this text, and this value. A key that is no str stands for none
abbrev pub Has : Format → List ℕ → List ℕ → List ℕ → Type 0
Has Json key value t =
    (members : List Member) × OptionsOf members t × (m : Member) × In m members × (meant m.key ≡ key) × (m.value ≡ value)
Has MsgPack key value t =
    (pairs : List Pair) × MapOf pairs t × (p : Pair) × In p pairs × Str key p.key × (p.value ≡ value)

-- the value true
abbrev pub true_text : Format → List ℕ
true_text f = flag_text f true

-- ---- the same in either format
-- none, a list, or a list and a dict
abbrev pub IsPayload : Format → Payload → Type 0
IsPayload f p =
    (p ≡ [])
    ⊎ ((list : List ℕ) × IsList f list × (p ≡ list ∷ []))
    ⊎ ((list dict : List ℕ) × IsList f list × Dict f dict × (p ≡ list ∷ dict ∷ []))

-- without such a key
abbrev pub Lacks : Format → List ℕ → List ℕ → Type 0
Lacks f key t = Options f t × ((value : List ℕ) → ¬ (Has f key value t))

-- with such a key, and a string that stands for this text
abbrev pub Names : Format → List ℕ → List ℕ → List ℕ → Type 0
Names f key text t = (value : List ℕ) × Has f key value t × Says f text value

-- "`acknowledge` is literally true"
abbrev pub Acknowledges : Format → Bool → List ℕ → Type 0
Acknowledges f true t = Has f (chars "acknowledge") (true_text f) t
Acknowledges f false t = Options f t × ¬ (Has f (chars "acknowledge") (true_text f) t)

-- an option that is absent, or has a value of its kind, or is "wrong": it is given, and its value is not of that kind
abbrev pub Chooses : {A : Type 0} → Format → (A → List ℕ → Type 0) → List ℕ → OptionValue A → List ℕ → Type 0
Chooses f Kind key Absent t = Lacks f key t
Chooses f Kind key (Given a) t = (value : List ℕ) × Has f key value t × Kind a value
Chooses {A} f Kind key Wrong t = (value : List ℕ) × Has f key value t × ((a : A) → ¬ (Kind a value))

-- the Options of PUBLISH
abbrev pub Publishes : Format → Bool → Audience → List ℕ → Type 0
Publishes f acknowledge a t =
    Acknowledges f acknowledge t × Chooses f (IsFlag f) (chars "exclude_me") a.exclude_me t
    × Chooses f (IsIds f) (chars "exclude") a.exclude t × Chooses f (IsIds f) (chars "eligible") a.eligible t

-- `match` absent means exact
abbrev pub Matches : Format → Option Policy → List ℕ → Type 0
Matches f (Some Exact) t = Lacks f (chars "match") t ⊎ Names f (chars "match") (chars "exact") t
Matches f (Some Prefix) t = Names f (chars "match") (chars "prefix") t
Matches f (Some Wildcard) t = Names f (chars "match") (chars "wildcard") t
Matches f None t =
    (value : List ℕ) × Has f (chars "match") value t × (IsString f value → Sound f value)
    × ¬ (Says f (chars "exact") value) × ¬ (Says f (chars "prefix") value) × ¬ (Says f (chars "wildcard") value)

-- ---- messages
-- [Number,Request,Options,Text,P]
abbrev pub Request : Format → ℕ → ℕ → (List ℕ → Type 0) → List ℕ → Payload → List ℕ → Type 0
Request f number n IsOptions text p s =
    (first request options string : List ℕ) × IdText f number first × IdText f n request × IsOptions options × Says f text string
    × Made f (first ∷ request ∷ options ∷ string ∷ p) s

-- [3,Details,Reason] and [6,Details,Reason]
abbrev pub Ending : Format → ℕ → List ℕ → Type 0
Ending f number s =
    (first details reason : List ℕ) × IdText f number first × Dict f details × IsString f reason × Made f (first ∷ details ∷ reason ∷ []) s

-- [34,Request,Subscription] and [66,Request,Registration]
abbrev pub Release : Format → ℕ → ℕ → ℕ → List ℕ → Type 0
Release f number n id s =
    (first request released : List ℕ) × IdText f number first × IdText f n request × IdText f id released
    × Made f (first ∷ request ∷ released ∷ []) s

-- the bytes of a message
abbrev pub Shape : Format → Incoming → List ℕ → Type 0
Shape f (Hello realm) s =
    (first string details : List ℕ) × IdText f 1 first × Says f realm string × Dict f details × Made f (first ∷ string ∷ details ∷ []) s
Shape f Abort s = Ending f 3 s
Shape f Goodbye s = Ending f 6 s
Shape f (Error v uri p) s =
    (first type invocation details string : List ℕ) × IdText f 8 first × IdText f 68 type × IdText f v invocation
    × Dict f details × Says f uri string × UriText Exact uri × IsPayload f p
    × Made f (first ∷ type ∷ invocation ∷ details ∷ string ∷ p) s
Shape f (Publish n acknowledge audience topic p) s = IsPayload f p × Request f 16 n (Publishes f acknowledge audience) topic p s
Shape f (Subscribe n policy topic) s = Request f 32 n (Matches f policy) topic [] s
Shape f (Unsubscribe n id) s = Release f 34 n id s
Shape f (Call n procedure p) s = IsPayload f p × Request f 48 n (Options f) procedure p s
Shape f (Register n policy procedure) s = Request f 64 n (Matches f policy) procedure [] s
Shape f (Unregister n id) s = Release f 66 n id s
Shape f (Yield v p) s =
    (first invocation options : List ℕ) × IdText f 70 first × IdText f v invocation × Options f options × IsPayload f p
    × Made f (first ∷ invocation ∷ options ∷ p) s
Shape f Violation s = ⊥
