-- The bytes of a message sent are those of a list of its elements (specs/Sent.antt). Assumes nothing.
use Prim.Native.Nat.{ℕ, suc}
use mathlib.Core.Bool.{true}
use mathlib.Core.List.{List, [], ◌∷◌, ◌++◌, append_assoc, append-nil}
use mathlib.Core.Path.{◌≡◌, refl, sym, ap, ◌∙◌}
use borrow.Author.Tests.{eqb-true}
use lib.ListN.{length}
use Rattle.seq.specs.declared.Format.{Format}
use Rattle.seq.specs.declared.Format.TheVariants.{Json, MsgPack}
use Rattle.seq.specs.Bytes.{chars, is, Payload}
use Rattle.seq.specs.Decimal.{digits, decimal}
use Rattle.seq.proofs.Logic.{split}
use Rattle.strings.specs.Strings.{escaped}
use Rattle.lex.specs.Grammar.{Language}
use Rattle.msgpack.specs.Grammar.{Code}
use Rattle.values.specs.Value.Scalar.{Flag}
use Rattle.values.specs.Write.{pack_whole, pack_str, pack_array, pack_map, pack_text, pack_scalar}
use Rattle.outgoing.specs.Outgoing.{Outgoing, Welcome, Abort, Goodbye, Error, Reply, Published, Subscribed, Event, Registered, Unsubscribed, Unregistered, Invocation, Result, Failure, Request, Publish, Subscribe, Unsubscribe, Register, Unregister, Details, Plain, Names, payload_bytes, type_of, concat, array, single, feature, pack_details, pack_roles, json, msgpack, render}
use Rattle.outgoing.specs.Sent.{list, rest, spelled_out, number, elements, Str, Each, Array, Under, Map, TypeOf, Dict, Role, Roles, Values, Elements, Written}
use Rattle.outgoing.proofs.Shortest.{shortest-whole, shortest-str, shortest-array, shortest-map}

-- what follows the last element before a payload
payload-rest : (p : Payload) → payload_bytes p ++ chars "]" ≡ rest p
payload-rest [] = refl
payload-rest (v ∷ p) =
    ap (λ (l : List ℕ). chars "," ++ l) (append_assoc v (payload_bytes p) (chars "]") ∙ ap (λ (l : List ℕ). v ++ l) (payload-rest p))

type-number : (type : Request) → decimal (type_of type) ≡ number type
unfolding digits decimal
type-number Publish = refl
type-number Subscribe = refl
type-number Unsubscribe = refl
type-number Register = refl
type-number Unregister = refl

-- a text between quotes
spelled : (t : List ℕ) → escaped t ≡ spelled_out t
unfolding escaped spelled_out
spelled [] = refl
spelled (b ∷ t) =
    let r = spelled t in
    split (is "\"" b) (λ q. rw (q, r, sym (eqb-true b 34 q))) λ n.
    split (is "\\" b) (λ q. rw (n, q, r, sym (eqb-true b 92 q))) λ k. rw (n, k, r)

json-sent : (m : Outgoing) → json m ≡ list (elements m)
unfolding json
json-sent (Welcome session) = refl
json-sent (Abort reason) = rw (spelled reason)
json-sent (Goodbye reason) = rw (spelled reason)
json-sent (Error type request uri) = rw (type-number type, spelled uri)
json-sent (Reply request (Result payload)) = rw (payload-rest payload)
json-sent (Reply request (Failure uri payload)) = rw (spelled uri, payload-rest payload)
json-sent (Published request publication) = refl
json-sent (Subscribed request subscription) = refl
json-sent (Unsubscribed request) = refl
json-sent (Event subscription publication Plain payload) = rw (payload-rest payload)
json-sent (Event subscription publication (Names uri) payload) = rw (spelled (chars "topic"), spelled uri, payload-rest payload)
json-sent (Registered request registration) = refl
json-sent (Unregistered request) = refl
json-sent (Invocation invocation registration Plain payload) = rw (payload-rest payload)
json-sent (Invocation invocation registration (Names uri) payload) = rw (spelled (chars "procedure"), spelled uri, payload-rest payload)

-- ---- MessagePack
-- each text is of its set
abbrev Are : List Language → List (List ℕ) → Type 0
Are [] [] = Unit {0}
Are [] (e ∷ es) = ⊥
Are (A ∷ As) [] = ⊥
Are (A ∷ As) (e ∷ es) = A e × Are As es

each : (As : List Language) (es : List (List ℕ)) → Are As es → Each As (concat es)
each [] [] h = refl
each [] (e ∷ es) h = elim h [ ]
each (A ∷ As) [] h = elim h [ ]
each (A ∷ As) (e ∷ es) h = (e, concat es, refl, h.0, each As es h.1)

are-length : (As : List Language) (es : List (List ℕ)) → Are As es → length es ≡ length As
are-length [] [] h = refl
are-length [] (e ∷ es) h = elim h [ ]
are-length (A ∷ As) [] h = elim h [ ]
are-length (A ∷ As) (e ∷ es) h = ap suc (are-length As es h.1)

array_of : (As : List Language) (es : List (List ℕ)) → Are As es → Array As (array es)
array_of As es h =
    (pack_array (length es), concat es, refl, rw (are-length As es h) (shortest-array (length As)), each As es h)

str : (t : List ℕ) → Str t (pack_text t)
unfolding pack_text
str t = (pack_str (length t), t, refl, shortest-str (length t), refl)

values : (p : Payload) → Are (Values p) p
values [] = tt
values (v ∷ p) = (refl, values p)

-- ---- maps
no-member : Map [] (pack_map 0)
no-member = (pack_map 0, [], sym (append-nil (pack_map 0)), shortest-map 0, refl)

-- a member, and what stands behind it
member : (key : List ℕ) (Value : Language) (v : List ℕ) → Value v → (As : List Language) (r : List ℕ) → Each As r
    → Each (Under key Value ∷ As) (pack_text key ++ (v ++ r))
member key Value v h As r k =
    (pack_text key ++ v, r, sym (append_assoc (pack_text key) v r), (pack_text key, v, refl, str key, h), k)

one-member : (key : List ℕ) (Value : Language) (v : List ℕ) → Value v → Map (Under key Value ∷ []) (single key v)
one-member key Value v h = (pack_map 1, pack_text key ++ (v ++ []), refl, shortest-map 1, member key Value v h [] [] refl)

dict : (key : List ℕ) (d : Details) → Dict key d (pack_details key d)
dict key Plain = no-member
dict key (Names uri) = one-member key (Str uri) (pack_text uri) (str uri)

flag : Code 0xc3 (pack_scalar (Flag true))
unfolding pack_scalar
flag = refl

abbrev Features : List ℕ → Language
Features name = Map (Under (chars "features") (Map (Under name (Code 0xc3) ∷ [])) ∷ [])

features : (name : List ℕ) → Features name (feature name)
features name =
    one-member (chars "features") (Map (Under name (Code 0xc3) ∷ [])) (single name (pack_scalar (Flag true)))
    (one-member name (Code 0xc3) (pack_scalar (Flag true)) flag)

roles-are : Roles pack_roles
roles-are =
    let sub = chars "pattern_based_subscription" in
    let reg = chars "pattern_based_registration" in
    let dealer = pack_text (chars "dealer") ++ (feature reg ++ []) in
    let both = pack_text (chars "broker") ++ (feature sub ++ dealer) in
    one-member (chars "roles") (Map (Role (chars "broker") sub ∷ Role (chars "dealer") reg ∷ [])) (pack_map 2 ++ both) (
      pack_map 2,
      both,
      refl,
      shortest-map 2,
      member (chars "broker") (Features sub) (feature sub) (features sub) (Role (chars "dealer") reg ∷ []) dealer
          (member (chars "dealer") (Features reg) (feature reg) (features reg) [] [] refl),
    )

type-is : (type : Request) → TypeOf type (pack_whole (type_of type))
type-is Publish = shortest-whole 16
type-is Subscribe = shortest-whole 32
type-is Unsubscribe = shortest-whole 34
type-is Register = shortest-whole 64
type-is Unregister = shortest-whole 66

pack-sent : (m : Outgoing) → Array (Elements m) (msgpack m)
unfolding msgpack
pack-sent (Welcome session) =
    array_of (Elements (Welcome session)) (pack_whole 2 ∷ pack_whole session ∷ pack_roles ∷ [])
    (shortest-whole 2, (shortest-whole session, (roles-are, tt)))
pack-sent (Abort reason) =
    array_of (Elements (Abort reason)) (pack_whole 3 ∷ pack_map 0 ∷ pack_text reason ∷ [])
    (shortest-whole 3, (no-member, (str reason, tt)))
pack-sent (Goodbye reason) =
    array_of (Elements (Goodbye reason)) (pack_whole 6 ∷ pack_map 0 ∷ pack_text reason ∷ [])
    (shortest-whole 6, (no-member, (str reason, tt)))
pack-sent (Error type request uri) =
    array_of (Elements (Error type request uri)) (pack_whole 8 ∷ pack_whole (type_of type) ∷ pack_whole request ∷ pack_map 0 ∷ pack_text uri ∷ [])
    (shortest-whole 8, (type-is type, (shortest-whole request, (no-member, (str uri, tt)))))
pack-sent (Reply request (Result payload)) =
    array_of (Elements (Reply request (Result payload))) (pack_whole 50 ∷ pack_whole request ∷ pack_map 0 ∷ payload)
    (shortest-whole 50, (shortest-whole request, (no-member, values payload)))
pack-sent (Reply request (Failure uri payload)) =
    array_of (Elements (Reply request (Failure uri payload))) (pack_whole 8 ∷ pack_whole 48 ∷ pack_whole request ∷ pack_map 0 ∷ pack_text uri ∷ payload)
    (shortest-whole 8, (shortest-whole 48, (shortest-whole request, (no-member, (str uri, values payload)))))
pack-sent (Published request publication) =
    array_of (Elements (Published request publication)) (pack_whole 17 ∷ pack_whole request ∷ pack_whole publication ∷ [])
    (shortest-whole 17, (shortest-whole request, (shortest-whole publication, tt)))
pack-sent (Subscribed request subscription) =
    array_of (Elements (Subscribed request subscription)) (pack_whole 33 ∷ pack_whole request ∷ pack_whole subscription ∷ [])
    (shortest-whole 33, (shortest-whole request, (shortest-whole subscription, tt)))
pack-sent (Unsubscribed request) =
    array_of (Elements (Unsubscribed request)) (pack_whole 35 ∷ pack_whole request ∷ [])
    (shortest-whole 35, (shortest-whole request, tt))
pack-sent (Event subscription publication details payload) =
    array_of (Elements (Event subscription publication details payload)) (pack_whole 36 ∷ pack_whole subscription ∷ pack_whole publication ∷ pack_details (chars "topic") details ∷ payload)
    (shortest-whole 36, (shortest-whole subscription, (shortest-whole publication, (dict (chars "topic") details, values payload))))
pack-sent (Registered request registration) =
    array_of (Elements (Registered request registration)) (pack_whole 65 ∷ pack_whole request ∷ pack_whole registration ∷ [])
    (shortest-whole 65, (shortest-whole request, (shortest-whole registration, tt)))
pack-sent (Unregistered request) =
    array_of (Elements (Unregistered request)) (pack_whole 67 ∷ pack_whole request ∷ [])
    (shortest-whole 67, (shortest-whole request, tt))
pack-sent (Invocation invocation registration details payload) =
    array_of (Elements (Invocation invocation registration details payload)) (pack_whole 68 ∷ pack_whole invocation ∷ pack_whole registration ∷ pack_details (chars "procedure") details ∷ payload)
    (shortest-whole 68, (shortest-whole invocation, (shortest-whole registration, (dict (chars "procedure") details, values payload))))

-- ---- both
pub sent : (f : Format) (m : Outgoing) → Written f m (render f m)
unfolding render
sent Json m = json-sent m
sent MsgPack m = pack-sent m
