-- The bytes that a client writes for a message to the hub (PROTOCOL, "Taken in"), in either format. The members of a dict stand in this order.
use Rattle.std.specs.Prelude.{ℕ, ◌≤◌, Bool, true, false, List, [], ◌∷◌, ◌++◌, map, length, Some, None, Option}
use Rattle.seq.specs.declared.Format.{Format}
use Rattle.seq.specs.Bytes.{chars}
use Rattle.seq.specs.Lists.{All}
use Rattle.uri.specs.declared.Policy.{Policy}
use Rattle.uri.specs.declared.Policy.TheVariants.{Exact, Prefix, Wildcard}
use Rattle.uri.specs.Rule.{UriText}
use Rattle.values.specs.Value.{Member, GoodText}
use Rattle.values.specs.Value.Scalar.{Null, Flag}
use Rattle.values.specs.Stands.{member}
use Rattle.values.specs.Write.{write_scalar}
use Rattle.options.specs.Audience.{OptionValue, Absent, Wrong, Given, Audience}
use Rattle.incoming.specs.Incoming.{Incoming, Hello, Abort, Goodbye, Error, Publish, Subscribe, Unsubscribe, Call, Register, Unregister}
use Rattle.incoming.specs.Incoming.{Yield, Violation}
use Rattle.spoken.specs.Parts.{number, string, list, dict, single, InRange, Carried}

-- ---- options
-- a client that does all that the hub serves
abbrev pub roles : Format → List ℕ
roles f =
    single f (chars "roles")
    (dict f
    (member (chars "caller") (dict f []) ∷ member (chars "callee") (dict f [])
    ∷ member (chars "publisher") (dict f []) ∷ member (chars "subscriber") (dict f []) ∷ []))

-- the member of an option: none where it is absent, and null, which is of no option's kind, where it is wrong
abbrev pub optional : {A : Type 0} → Format → List ℕ → (Format → A → List ℕ) → OptionValue A → List (Member (List ℕ))
optional f key value Absent = []
optional f key value (Given a) = member key (value f a) ∷ []
optional f key value Wrong = member key (write_scalar f Null) ∷ []

-- its value: a boolean, or a list of numbers
abbrev pub flag : Format → Bool → List ℕ
flag f b = write_scalar f (Flag b)

abbrev pub numbers : Format → List ℕ → List ℕ
numbers f ids = list f (map (number f) ids)

-- "`acknowledge` is literally true", or absent
abbrev pub only_true : Bool → OptionValue Bool
only_true true = Given true
only_true false = Absent

-- the options that are there
abbrev pub publishing : Format → Bool → Audience → List ℕ
publishing f acknowledge a =
    dict f
    (optional f (chars "acknowledge") flag (only_true acknowledge)
    ++ optional f (chars "exclude_me") flag a.exclude_me
    ++ optional f (chars "exclude") numbers a.exclude
    ++ optional f (chars "eligible") numbers a.eligible)

-- `match` absent means exact; null names no policy
abbrev pub matching : Format → Option Policy → List ℕ
matching f (Some Exact) = dict f []
matching f (Some Prefix) = single f (chars "match") (string f (chars "prefix"))
matching f (Some Wildcard) = single f (chars "match") (string f (chars "wildcard"))
matching f None = single f (chars "match") (write_scalar f Null)

-- ---- messages. ABORT and GOODBYE are written with a reason, which the hub does not read; a payload's values are the last elements
abbrev pub elements : Format → List ℕ → Incoming → List (List ℕ)
elements f reason (Hello realm) = number f 1 ∷ string f realm ∷ roles f ∷ []
elements f reason Abort = number f 3 ∷ dict f [] ∷ string f reason ∷ []
elements f reason Goodbye = number f 6 ∷ dict f [] ∷ string f reason ∷ []
elements f reason (Error invocation uri p) = number f 8 ∷ number f 68 ∷ number f invocation ∷ dict f [] ∷ string f uri ∷ p
elements f reason (Publish request acknowledge audience topic p) =
    number f 16 ∷ number f request ∷ publishing f acknowledge audience ∷ string f topic ∷ p
elements f reason (Subscribe request policy topic) = number f 32 ∷ number f request ∷ matching f policy ∷ string f topic ∷ []
elements f reason (Unsubscribe request id) = number f 34 ∷ number f request ∷ number f id ∷ []
elements f reason (Call request procedure p) = number f 48 ∷ number f request ∷ dict f [] ∷ string f procedure ∷ p
elements f reason (Register request policy procedure) = number f 64 ∷ number f request ∷ matching f policy ∷ string f procedure ∷ []
elements f reason (Unregister request id) = number f 66 ∷ number f request ∷ number f id ∷ []
elements f reason (Yield invocation p) = number f 70 ∷ number f invocation ∷ dict f [] ∷ p
elements f reason Violation = []

unfoldable pub written : Format → List ℕ → Incoming → List ℕ
written f reason m = list f (elements f reason m)

-- ---- the messages that can be written: numbers in range, texts of UTF-8, the URI of an ERROR by its rule
-- "A list of at most 8 IDs", where it is given
abbrev pub Listable : OptionValue (List ℕ) → Type 0
Listable Absent = Unit {0}
Listable (Given ids) = (length ids ≤ 8) × All InRange ids
Listable Wrong = Unit {0}

abbrev pub Writable : Format → Incoming → Type 0
Writable f (Hello realm) = GoodText realm
Writable f Abort = Unit {0}
Writable f Goodbye = Unit {0}
Writable f (Error invocation uri p) = InRange invocation × GoodText uri × UriText Exact uri × Carried f p
Writable f (Publish request acknowledge audience topic p) =
    InRange request × Listable audience.exclude × Listable audience.eligible × GoodText topic × Carried f p
Writable f (Subscribe request policy topic) = InRange request × GoodText topic
Writable f (Unsubscribe request id) = InRange request × InRange id
Writable f (Call request procedure p) = InRange request × GoodText procedure × Carried f p
Writable f (Register request policy procedure) = InRange request × GoodText procedure
Writable f (Unregister request id) = InRange request × InRange id
Writable f (Yield invocation p) = InRange invocation × Carried f p
Writable f Violation = ⊥
