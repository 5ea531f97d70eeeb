-- The messages sent (PROTOCOL, "Sent"), each with the bytes that stand for it in a format. Texts are what strings stand for: they are escaped in JSON.
use Rattle.std.specs.Prelude.{ℕ, true, List, [], ◌∷◌, ◌++◌, length}
use Rattle.seq.specs.declared.Format.{Format}
use Rattle.seq.specs.declared.Format.TheVariants.{Json, MsgPack}
use Rattle.seq.specs.{Bytes.chars, Bytes.Payload, Lists.joined}
use Rattle.seq.specs.Decimal.{decimal}
use Rattle.strings.specs.Strings.{escaped}
use Rattle.values.specs.Value.Scalar.{Flag}
use Rattle.values.specs.Write.{pack_whole, pack_text, pack_array, pack_map, pack_scalar}
use Rattle.outgoing.specs.declared.Uri.{Uri}
use Rattle.outgoing.specs.declared.Uri.TheVariants.{ProtocolViolation, NoSuchRealm, GoodbyeAndOut, InvalidArgument, InvalidUri, ProcedureAlreadyExists, NoSuchProcedure, NoSuchSubscription, NoSuchRegistration, NoRoom, NotConvertible, Canceled}

-- what answers a CALL: RESULT, or ERROR of type 48 with its URI
pub data Answer : Type 0 where
  Result : (payload : Payload) → Answer
  Failure : (uri : List ℕ) (payload : Payload) → Answer

-- the requests other than CALL that an ERROR answers
pub data Request : Type 0 where
  Publish Subscribe Unsubscribe Register Unregister : Request

-- the Details of an EVENT or INVOCATION: none for an exact row, else the URI published or called
pub data Details : Type 0 where
  Plain : Details
  Names : (uri : List ℕ) → Details

pub data Outgoing : Type 0 where
  Welcome : (session : ℕ) → Outgoing
  Abort Goodbye : (reason : List ℕ) → Outgoing
  Error : (type : Request) (request : ℕ) (uri : List ℕ) → Outgoing
  Reply : (request : ℕ) (answer : Answer) → Outgoing
  Published : (request publication : ℕ) → Outgoing
  Subscribed : (request subscription : ℕ) → Outgoing
  Event : (subscription publication : ℕ) (details : Details) (payload : Payload) → Outgoing
  Registered : (request registration : ℕ) → Outgoing
  Unsubscribed Unregistered : (request : ℕ) → Outgoing
  Invocation : (invocation registration : ℕ) (details : Details) (payload : Payload) → Outgoing

-- the URIs that the hub itself sends (PROTOCOL, "What each message does")
abbrev pub uri_text : Uri → List ℕ
uri_text ProtocolViolation = chars "wamp.error.protocol_violation"
uri_text NoSuchRealm = chars "wamp.error.no_such_realm"
uri_text GoodbyeAndOut = chars "wamp.close.goodbye_and_out"
uri_text InvalidArgument = chars "wamp.error.invalid_argument"
uri_text InvalidUri = chars "wamp.error.invalid_uri"
uri_text ProcedureAlreadyExists = chars "wamp.error.procedure_already_exists"
uri_text NoSuchProcedure = chars "wamp.error.no_such_procedure"
uri_text NoSuchSubscription = chars "wamp.error.no_such_subscription"
uri_text NoSuchRegistration = chars "wamp.error.no_such_registration"
uri_text NoRoom = chars "hub.error.no_room"
uri_text NotConvertible = chars "hub.error.not_convertible"
uri_text Canceled = chars "wamp.error.canceled"

-- the message number that an ERROR names
abbrev pub type_of : Request → ℕ
type_of type = elim type [ Publish ↦ 16 | Subscribe ↦ 32 | Unsubscribe ↦ 34 | Register ↦ 64 | Unregister ↦ 66 ]

-- pieces one after the other
abbrev pub concat : List (List ℕ) → List ℕ
concat pieces = joined (λ (piece : List ℕ). piece) pieces

-- ---- JSON, without spaces (PROTOCOL, "Output layout")
-- a text as a string: "a backslash before each quote and each backslash"
abbrev pub quoted : List ℕ → List ℕ
quoted text = concat (chars "\"" ∷ escaped text ∷ chars "\"" ∷ [])

-- the payload's values, each behind a comma
abbrev pub payload_bytes : Payload → List ℕ
payload_bytes payload = joined (λ (value : List ℕ). chars "," ++ value) payload

abbrev pub detail_bytes : List ℕ → Details → List ℕ
detail_bytes key Plain = chars "{}"
detail_bytes key (Names uri) = concat (chars "{" ∷ quoted key ∷ chars ":" ∷ quoted uri ∷ chars "}" ∷ [])

abbrev pub roles : List ℕ
roles = chars "{\"roles\":{\"broker\":{\"features\":{\"pattern_based_subscription\":true}},\"dealer\":{\"features\":{\"pattern_based_registration\":true}}}}"

unfoldable pub json : Outgoing → List ℕ
json (Welcome session) = concat (chars "[2," ∷ decimal session ∷ chars "," ∷ roles ∷ chars "]" ∷ [])
json (Abort reason) = concat (chars "[3,{}," ∷ quoted reason ∷ chars "]" ∷ [])
json (Goodbye reason) = concat (chars "[6,{}," ∷ quoted reason ∷ chars "]" ∷ [])
json (Error type request uri) =
    concat (chars "[8," ∷ decimal (type_of type) ∷ chars "," ∷ decimal request ∷ chars ",{}," ∷ quoted uri ∷ chars "]" ∷ [])
json (Reply request (Result payload)) =
    concat (chars "[50," ∷ decimal request ∷ chars ",{}" ∷ payload_bytes payload ∷ chars "]" ∷ [])
json (Reply request (Failure uri payload)) =
    concat (chars "[8,48," ∷ decimal request ∷ chars ",{}," ∷ quoted uri ∷ payload_bytes payload ∷ chars "]" ∷ [])
json (Published request publication) =
    concat (chars "[17," ∷ decimal request ∷ chars "," ∷ decimal publication ∷ chars "]" ∷ [])
json (Subscribed request subscription) =
    concat (chars "[33," ∷ decimal request ∷ chars "," ∷ decimal subscription ∷ chars "]" ∷ [])
json (Unsubscribed request) = concat (chars "[35," ∷ decimal request ∷ chars "]" ∷ [])
json (Event subscription publication details payload) =
    concat
    (chars "[36," ∷ decimal subscription ∷ chars "," ∷ decimal publication ∷ chars ","
    ∷ detail_bytes (chars "topic") details ∷ payload_bytes payload ∷ chars "]" ∷ [])
json (Registered request registration) =
    concat (chars "[65," ∷ decimal request ∷ chars "," ∷ decimal registration ∷ chars "]" ∷ [])
json (Unregistered request) = concat (chars "[67," ∷ decimal request ∷ chars "]" ∷ [])
json (Invocation invocation registration details payload) =
    concat
    (chars "[68," ∷ decimal invocation ∷ chars "," ∷ decimal registration ∷ chars ","
    ∷ detail_bytes (chars "procedure") details ∷ payload_bytes payload ∷ chars "]" ∷ [])

-- ---- MessagePack, in the shortest forms (PROTOCOL, "Values")
-- an array of these elements
abbrev pub array : List (List ℕ) → List ℕ
array elements = pack_array (length elements) ++ concat elements

-- a map of one member
abbrev pub single : List ℕ → List ℕ → List ℕ
single key value = concat (pack_map 1 ∷ pack_text key ∷ value ∷ [])

abbrev pub pack_details : List ℕ → Details → List ℕ
pack_details key Plain = pack_map 0
pack_details key (Names uri) = single key (pack_text uri)

-- the Details of WELCOME: the features of a role are a map of one, which is true
abbrev pub feature : List ℕ → List ℕ
feature name = single (chars "features") (single name (pack_scalar (Flag true)))

abbrev pub pack_roles : List ℕ
pack_roles =
    single (chars "roles")
    (concat
    (pack_map 2 ∷ pack_text (chars "broker") ∷ feature (chars "pattern_based_subscription")
    ∷ pack_text (chars "dealer") ∷ feature (chars "pattern_based_registration") ∷ []))

-- a payload's values are the last elements
unfoldable pub msgpack : Outgoing → List ℕ
msgpack (Welcome session) = array (pack_whole 2 ∷ pack_whole session ∷ pack_roles ∷ [])
msgpack (Abort reason) = array (pack_whole 3 ∷ pack_map 0 ∷ pack_text reason ∷ [])
msgpack (Goodbye reason) = array (pack_whole 6 ∷ pack_map 0 ∷ pack_text reason ∷ [])
msgpack (Error type request uri) =
    array (pack_whole 8 ∷ pack_whole (type_of type) ∷ pack_whole request ∷ pack_map 0 ∷ pack_text uri ∷ [])
msgpack (Reply request (Result payload)) = array (pack_whole 50 ∷ pack_whole request ∷ pack_map 0 ∷ payload)
msgpack (Reply request (Failure uri payload)) =
    array (pack_whole 8 ∷ pack_whole 48 ∷ pack_whole request ∷ pack_map 0 ∷ pack_text uri ∷ payload)
msgpack (Published request publication) = array (pack_whole 17 ∷ pack_whole request ∷ pack_whole publication ∷ [])
msgpack (Subscribed request subscription) = array (pack_whole 33 ∷ pack_whole request ∷ pack_whole subscription ∷ [])
msgpack (Unsubscribed request) = array (pack_whole 35 ∷ pack_whole request ∷ [])
msgpack (Event subscription publication details payload) =
    array (pack_whole 36 ∷ pack_whole subscription ∷ pack_whole publication ∷ pack_details (chars "topic") details ∷ payload)
msgpack (Registered request registration) = array (pack_whole 65 ∷ pack_whole request ∷ pack_whole registration ∷ [])
msgpack (Unregistered request) = array (pack_whole 67 ∷ pack_whole request ∷ [])
msgpack (Invocation invocation registration details payload) =
    array (pack_whole 68 ∷ pack_whole invocation ∷ pack_whole registration ∷ pack_details (chars "procedure") details ∷ payload)

-- ---- both. The payload's bytes are those of the format that the message is written in
unfoldable pub render : Format → Outgoing → List ℕ
render Json m = json m
render MsgPack m = msgpack m
