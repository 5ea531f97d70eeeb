-- The messages that the hub can send, and the elements of each (PROTOCOL, "Sent").
use Rattle.std.specs.Prelude.{ℕ, ◌≤◌, true, List, [], ◌∷◌}
use Rattle.seq.specs.declared.Format.{Format}
use Rattle.seq.specs.declared.Format.TheVariants.{Json, MsgPack}
use Rattle.seq.specs.Bytes.{chars}
use Rattle.seq.specs.Lists.{All}
use Rattle.utf8.specs.Table.{Encoded}
use Rattle.values.specs.Value.{GoodText}
use Rattle.values.specs.Value.Scalar.{Flag}
use Rattle.values.specs.Stands.{member}
use Rattle.values.specs.Write.{write_scalar}
use Rattle.json_text.specs.Grammar as Texts
use Rattle.msgpack.specs.Grammar as Packs
use Rattle.elements.specs.Grammar as Elements
use Rattle.arrays.specs.Grammar as Arrays
use Rattle.outgoing.specs.Outgoing.{Outgoing, Welcome, Abort, Goodbye, Error, Reply, Published}
use Rattle.outgoing.specs.Outgoing.{Subscribed, Event, Registered, Unsubscribed, Unregistered, Invocation}
use Rattle.outgoing.specs.Outgoing.{Result, Failure, Details, Plain, Names, type_of}
use Rattle.spoken.specs.Parts.{number, string, dict, single, InRange, Carried}

-- ---- elements
-- the features of a role are a dict of one, which is true
abbrev pub feature : Format → List ℕ → List ℕ
feature f name = single f (chars "features") (single f name (write_scalar f (Flag true)))

abbrev pub features : Format → List ℕ
features f =
    single f (chars "roles")
    (dict f
    (member (chars "broker") (feature f (chars "pattern_based_subscription"))
    ∷ member (chars "dealer") (feature f (chars "pattern_based_registration")) ∷ []))

-- "`{}` for an exact row", else the URI under this key
abbrev pub naming : Format → List ℕ → Details → List ℕ
naming f key Plain = dict f []
naming f key (Names uri) = single f key (string f uri)

-- a payload's values are the last elements
abbrev pub elements : Format → Outgoing → List (List ℕ)
elements f (Welcome session) = number f 2 ∷ number f session ∷ features f ∷ []
elements f (Abort reason) = number f 3 ∷ dict f [] ∷ string f reason ∷ []
elements f (Goodbye reason) = number f 6 ∷ dict f [] ∷ string f reason ∷ []
elements f (Error type request uri) = number f 8 ∷ number f (type_of type) ∷ number f request ∷ dict f [] ∷ string f uri ∷ []
elements f (Reply request (Result p)) = number f 50 ∷ number f request ∷ dict f [] ∷ p
elements f (Reply request (Failure uri p)) = number f 8 ∷ number f 48 ∷ number f request ∷ dict f [] ∷ string f uri ∷ p
elements f (Published request publication) = number f 17 ∷ number f request ∷ number f publication ∷ []
elements f (Subscribed request subscription) = number f 33 ∷ number f request ∷ number f subscription ∷ []
elements f (Unsubscribed request) = number f 35 ∷ number f request ∷ []
elements f (Event subscription publication details p) =
    number f 36 ∷ number f subscription ∷ number f publication ∷ naming f (chars "topic") details ∷ p
elements f (Registered request registration) = number f 65 ∷ number f request ∷ number f registration ∷ []
elements f (Unregistered request) = number f 67 ∷ number f request ∷ []
elements f (Invocation invocation registration details p) =
    number f 68 ∷ number f invocation ∷ number f registration ∷ naming f (chars "procedure") details ∷ p

-- one list of these elements, of so many bytes at most, by the format's own grammar
abbrev pub IsListOf : Format → ℕ → List (List ℕ) → List ℕ → Type 0
IsListOf Json limit es s = Elements.ListIn limit es s
IsListOf MsgPack limit es s = Arrays.ListIn limit es s

-- a JSON text, which is UTF-8, or a MessagePack value, nested to depth 8
abbrev pub IsText : Format → List ℕ → Type 0
IsText Json s = Encoded s × Texts.Text s
IsText MsgPack s = Packs.Value 8 s

-- ---- the messages that can be sent: numbers in range, texts of UTF-8, in JSON with no control character, which is not escaped there
abbrev pub Sayable : Format → List ℕ → Type 0
Sayable Json t = GoodText t × All (λ b. 0x20 ≤ b) t
Sayable MsgPack t = GoodText t

abbrev pub Named : Format → Details → Type 0
Named f Plain = Unit {0}
Named f (Names uri) = Sayable f uri

abbrev pub Sendable : Format → Outgoing → Type 0
Sendable f (Welcome session) = InRange session
Sendable f (Abort reason) = Sayable f reason
Sendable f (Goodbye reason) = Sayable f reason
Sendable f (Error type request uri) = InRange request × Sayable f uri
Sendable f (Reply request (Result p)) = InRange request × Carried f p
Sendable f (Reply request (Failure uri p)) = InRange request × Sayable f uri × Carried f p
Sendable f (Published request publication) = InRange request × InRange publication
Sendable f (Subscribed request subscription) = InRange request × InRange subscription
Sendable f (Unsubscribed request) = InRange request
Sendable f (Event subscription publication details p) = InRange subscription × InRange publication × Named f details × Carried f p
Sendable f (Registered request registration) = InRange request × InRange registration
Sendable f (Unregistered request) = InRange request
Sendable f (Invocation invocation registration details p) = InRange invocation × InRange registration × Named f details × Carried f p
