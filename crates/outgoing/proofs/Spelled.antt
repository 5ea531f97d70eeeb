-- Every message sent, spelled in full as PROTOCOL, "Sent", has it, with each of the hub's own URIs where its table puts it; and an output with
-- a message longer than one byte can say. By computation. Assumes nothing.
use Prim.Native.Nat.{ℕ}
use mathlib.Core.Bool.{true, false}
use mathlib.Core.List.{List, [], ◌∷◌, ◌++◌}
use mathlib.Core.Path.{◌≡◌, refl}
use lib.ListN.{replicate}
use Rattle.seq.specs.declared.Format.TheVariants.{Json, MsgPack}
use Rattle.seq.specs.Bytes.{chars}
use Rattle.seq.specs.Lists.{All}
use Rattle.seq.specs.Decimal.{digits, decimal}
use Rattle.strings.specs.Strings.{escaped}
use Rattle.values.specs.Write.{wide, pack_whole, pack_str, pack_array, pack_map, pack_text, pack_scalar}
use Rattle.outgoing.specs.declared.Uri.TheVariants.{ProtocolViolation, NoSuchRealm, GoodbyeAndOut, InvalidArgument, InvalidUri, ProcedureAlreadyExists, NoSuchProcedure, NoSuchSubscription, NoSuchRegistration, NoRoom, NotConvertible, Canceled}
use Rattle.outgoing.specs.Outgoing.{Result, Failure, Publish, Subscribe, Unsubscribe, Register, Unregister, Plain, Names, Outgoing, Welcome}
use Rattle.outgoing.specs.Outgoing.{Abort, Goodbye, Error, Reply, Published, Subscribed, Event, Registered, Unsubscribed, Unregistered}
use Rattle.outgoing.specs.Outgoing.{Invocation, uri_text, json, msgpack, render}
use Rattle.outgoing.specs.Layout.{Mail, formats_of, entry, body, layout}
use Rattle.outgoing.specs.Contents.{contents_from, contents}

pub record Example : Type 0 where
  pub message : Outgoing
  pub bytes : List ℕ

abbrev Reads : Example → Type 0
Reads e = render Json e.message ≡ e.bytes

abbrev Packs : Example → Type 0
Packs e = render MsgPack e.message ≡ e.bytes

abbrev is : Outgoing → List ℕ → Example
is message bytes = record { message = message; bytes = bytes }

abbrev examples : List Example
examples =
    is (Welcome 4) (chars "[2,4,{\"roles\":{\"broker\":{\"features\":{\"pattern_based_subscription\":true}},\"dealer\":{\"features\":{\"pattern_based_registration\":true}}}}]")
    ∷ is (Abort (uri_text ProtocolViolation)) (chars "[3,{},\"wamp.error.protocol_violation\"]")
    ∷ is (Abort (uri_text NoSuchRealm)) (chars "[3,{},\"wamp.error.no_such_realm\"]")
    ∷ is (Goodbye (uri_text GoodbyeAndOut)) (chars "[6,{},\"wamp.close.goodbye_and_out\"]")
    -- ERROR, by the request that it answers
    ∷ is (Error Publish 1 (uri_text InvalidUri)) (chars "[8,16,1,{},\"wamp.error.invalid_uri\"]")
    ∷ is (Error Subscribe 2 (uri_text InvalidArgument)) (chars "[8,32,2,{},\"wamp.error.invalid_argument\"]")
    ∷ is (Error Subscribe 2 (uri_text InvalidUri)) (chars "[8,32,2,{},\"wamp.error.invalid_uri\"]")
    ∷ is (Error Subscribe 2 (uri_text NoRoom)) (chars "[8,32,2,{},\"hub.error.no_room\"]")
    ∷ is (Error Unsubscribe 30 (uri_text NoSuchSubscription)) (chars "[8,34,30,{},\"wamp.error.no_such_subscription\"]")
    ∷ is (Error Register 45 (uri_text InvalidArgument)) (chars "[8,64,45,{},\"wamp.error.invalid_argument\"]")
    ∷ is (Error Register 45 (uri_text InvalidUri)) (chars "[8,64,45,{},\"wamp.error.invalid_uri\"]")
    ∷ is (Error Register 45 (uri_text ProcedureAlreadyExists)) (chars "[8,64,45,{},\"wamp.error.procedure_already_exists\"]")
    ∷ is (Error Register 45 (uri_text NoRoom)) (chars "[8,64,45,{},\"hub.error.no_room\"]")
    ∷ is (Error Unregister 600 (uri_text NoSuchRegistration)) (chars "[8,66,600,{},\"wamp.error.no_such_registration\"]")
    ∷ is (Reply 7 (Failure (uri_text InvalidUri) [])) (chars "[8,48,7,{},\"wamp.error.invalid_uri\"]")
    ∷ is (Reply 7 (Failure (uri_text NotConvertible) [])) (chars "[8,48,7,{},\"hub.error.not_convertible\"]")
    ∷ is (Reply 7 (Failure (uri_text NoSuchProcedure) [])) (chars "[8,48,7,{},\"wamp.error.no_such_procedure\"]")
    ∷ is (Reply 7 (Failure (uri_text NoRoom) [])) (chars "[8,48,7,{},\"hub.error.no_room\"]")
    ∷ is (Reply 9007199254740992 (Failure (uri_text Canceled) [])) (chars "[8,48,9007199254740992,{},\"wamp.error.canceled\"]")
    ∷ is (Reply 7 (Failure (chars "hub.error.held") (chars "[1]" ∷ []))) (chars "[8,48,7,{},\"hub.error.held\",[1]]")
    ∷ is (Reply 7 (Failure (chars "hub.error.held") (chars "[1]" ∷ chars "{\"a\":2}" ∷ []))) (chars "[8,48,7,{},\"hub.error.held\",[1],{\"a\":2}]")
    -- the other answers
    ∷ is (Reply 7 (Result [])) (chars "[50,7,{}]")
    ∷ is (Reply 7 (Result (chars "[\"held\"]" ∷ []))) (chars "[50,7,{},[\"held\"]]")
    ∷ is (Reply 7 (Result (chars "[]" ∷ chars "{\"a\":2}" ∷ []))) (chars "[50,7,{},[],{\"a\":2}]")
    ∷ is (Published 1 9007199254740992) (chars "[17,1,9007199254740992]")
    ∷ is (Subscribed 2 13) (chars "[33,2,13]")
    ∷ is (Unsubscribed 30) (chars "[35,30]")
    ∷ is (Registered 45 10) (chars "[65,45,10]")
    ∷ is (Unregistered 600) (chars "[67,600]")
    -- what is passed on
    ∷ is (Event 13 99 Plain []) (chars "[36,13,99,{}]")
    ∷ is (Event 13 99 (Names (chars "hub.sheet")) []) (chars "[36,13,99,{\"topic\":\"hub.sheet\"}]")
    ∷ is (Event 13 99 Plain (chars "[1, 2]" ∷ [])) (chars "[36,13,99,{},[1, 2]]")
    ∷ is (Event 13 99 (Names (chars "hub.sheet")) (chars "[]" ∷ chars "{\"a\":2}" ∷ [])) (chars "[36,13,99,{\"topic\":\"hub.sheet\"},[],{\"a\":2}]")
    ∷ is (Invocation 5 10 Plain []) (chars "[68,5,10,{}]")
    ∷ is (Invocation 5 10 (Names (chars "hub.donor.defer")) (chars "[\"D17\"]" ∷ [])) (chars "[68,5,10,{\"procedure\":\"hub.donor.defer\"},[\"D17\"]]")
    ∷ is (Invocation 5 10 Plain (chars "[]" ∷ chars "{\"a\":2}" ∷ [])) (chars "[68,5,10,{},[],{\"a\":2}]")
    -- a text with a quote and a backslash
    ∷ is (Reply 7 (Failure (chars "hub.\"held\\\"") [])) (chars "[8,48,7,{},\"hub.\\\"held\\\\\\\"\"]")
    ∷ is (Event 13 99 (Names (chars "hub.\\\"sheet")) (chars "[\"\\u0022\"]" ∷ [])) (chars "[36,13,99,{\"topic\":\"hub.\\\\\\\"sheet\"},[\"\\u0022\"]]")
    ∷ is (Invocation 5 10 (Names (chars "\"\\b/")) []) (chars "[68,5,10,{\"procedure\":\"\\\"\\\\b/\"}]")
    ∷ []

pub all-spelled : All Reads examples
unfolding digits decimal escaped json render
all-spelled = (refl, (refl, (refl, (refl, (refl, (refl, (refl, (refl, (refl, (refl, (refl, (refl, (refl, (refl, (refl, (refl, (refl, (refl, (refl, (refl, (refl, (refl, (refl, (refl, (refl, (refl, (refl, (refl, (refl, (refl, (refl, (refl, (refl, (refl, (refl, (refl, (refl, (refl, (refl, tt)))))))))))))))))))))))))))))))))))))))

-- ---- the same in MessagePack: the shortest forms of numbers and texts, the last of each form and the first of the next; the array's head counts the values
abbrev packed : List Example
packed =
    is (Welcome 4) (0x93 ∷ 0x02 ∷ 0x04 ∷ 0x81 ∷ 0xa5 ∷ (chars "roles" ++ (0x82 ∷ 0xa6 ∷ (chars "broker" ++ (0x81 ∷ 0xa8 ∷ (chars "features" ++ (0x81 ∷ 0xba ∷ (chars "pattern_based_subscription" ++ (0xc3 ∷ 0xa6 ∷ (chars "dealer" ++ (0x81 ∷ 0xa8 ∷ (chars "features" ++ (0x81 ∷ 0xba ∷ (chars "pattern_based_registration" ++ (0xc3 ∷ [])))))))))))))))
    ∷ is (Abort (uri_text ProtocolViolation)) (0x93 ∷ 0x03 ∷ 0x80 ∷ 0xbd ∷ chars "wamp.error.protocol_violation")
    ∷ is (Abort (uri_text NoSuchRealm)) (0x93 ∷ 0x03 ∷ 0x80 ∷ 0xb8 ∷ chars "wamp.error.no_such_realm")
    ∷ is (Goodbye (uri_text GoodbyeAndOut)) (0x93 ∷ 0x06 ∷ 0x80 ∷ 0xba ∷ chars "wamp.close.goodbye_and_out")
    ∷ is (Error Publish 1 (uri_text InvalidUri)) (0x95 ∷ 0x08 ∷ 0x10 ∷ 0x01 ∷ 0x80 ∷ 0xb6 ∷ chars "wamp.error.invalid_uri")
    ∷ is (Error Subscribe 2 (uri_text InvalidArgument)) (0x95 ∷ 0x08 ∷ 0x20 ∷ 0x02 ∷ 0x80 ∷ 0xbb ∷ chars "wamp.error.invalid_argument")
    ∷ is (Error Unsubscribe 30 (uri_text NoSuchSubscription)) (0x95 ∷ 0x08 ∷ 0x22 ∷ 0x1e ∷ 0x80 ∷ 0xbf ∷ chars "wamp.error.no_such_subscription")
    ∷ is (Error Register 128 (uri_text ProcedureAlreadyExists)) (0x95 ∷ 0x08 ∷ 0x40 ∷ 0xcc ∷ 0x80 ∷ 0x80 ∷ 0xd9 ∷ 0x23 ∷ chars "wamp.error.procedure_already_exists")
    ∷ is (Error Register 45 (uri_text NoRoom)) (0x95 ∷ 0x08 ∷ 0x40 ∷ 0x2d ∷ 0x80 ∷ 0xb1 ∷ chars "hub.error.no_room")
    ∷ is (Error Unregister 600 (uri_text NoSuchRegistration)) (0x95 ∷ 0x08 ∷ 0x42 ∷ 0xcd ∷ 0x02 ∷ 0x58 ∷ 0x80 ∷ 0xbf ∷ chars "wamp.error.no_such_registration")
    ∷ is (Reply 7 (Failure (uri_text NotConvertible) [])) (0x95 ∷ 0x08 ∷ 0x30 ∷ 0x07 ∷ 0x80 ∷ 0xb9 ∷ chars "hub.error.not_convertible")
    ∷ is (Reply 7 (Failure (uri_text NoSuchProcedure) [])) (0x95 ∷ 0x08 ∷ 0x30 ∷ 0x07 ∷ 0x80 ∷ 0xbc ∷ chars "wamp.error.no_such_procedure")
    ∷ is (Reply 9007199254740992 (Failure (uri_text Canceled) [])) (0x95 ∷ 0x08 ∷ 0x30 ∷ 0xcf ∷ 0x00 ∷ 0x20 ∷ 0x00 ∷ 0x00 ∷ 0x00 ∷ 0x00 ∷ 0x00 ∷ 0x00 ∷ 0x80 ∷ 0xb3 ∷ chars "wamp.error.canceled")
    ∷ is (Reply 7 (Failure (chars "hub.\"held\"") ((0x91 ∷ 0x01 ∷ []) ∷ (0x81 ∷ 0xa1 ∷ 0x61 ∷ 0x02 ∷ []) ∷ []))) (0x97 ∷ 0x08 ∷ 0x30 ∷ 0x07 ∷ 0x80 ∷ 0xaa ∷ (chars "hub.\"held\"" ++ (0x91 ∷ 0x01 ∷ 0x81 ∷ 0xa1 ∷ 0x61 ∷ 0x02 ∷ [])))
    ∷ is (Reply 1 (Result [])) (0x93 ∷ 0x32 ∷ 0x01 ∷ 0x80 ∷ [])
    ∷ is (Reply 1 (Result ((0x91 ∷ 0xa4 ∷ chars "held") ∷ []))) (0x94 ∷ 0x32 ∷ 0x01 ∷ 0x80 ∷ 0x91 ∷ 0xa4 ∷ chars "held")
    ∷ is (Published 1 9007199254740992) (0x93 ∷ 0x11 ∷ 0x01 ∷ 0xcf ∷ 0x00 ∷ 0x20 ∷ 0x00 ∷ 0x00 ∷ 0x00 ∷ 0x00 ∷ 0x00 ∷ 0x00 ∷ [])
    ∷ is (Subscribed 65536 13) (0x93 ∷ 0x21 ∷ 0xce ∷ 0x00 ∷ 0x01 ∷ 0x00 ∷ 0x00 ∷ 0x0d ∷ [])
    ∷ is (Unsubscribed 30) (0x92 ∷ 0x23 ∷ 0x1e ∷ [])
    ∷ is (Registered 127 65535) (0x93 ∷ 0x41 ∷ 0x7f ∷ 0xcd ∷ 0xff ∷ 0xff ∷ [])
    ∷ is (Unregistered 255) (0x92 ∷ 0x43 ∷ 0xcc ∷ 0xff ∷ [])
    ∷ is (Event 13 99 Plain []) (0x94 ∷ 0x24 ∷ 0x0d ∷ 0x63 ∷ 0x80 ∷ [])
    ∷ is (Event 13 99 (Names (chars "hub.sheet")) ((0x90 ∷ []) ∷ (0x80 ∷ []) ∷ [])) (0x96 ∷ 0x24 ∷ 0x0d ∷ 0x63 ∷ 0x81 ∷ 0xa5 ∷ (chars "topic" ++ (0xa9 ∷ (chars "hub.sheet" ++ (0x90 ∷ 0x80 ∷ [])))))
    ∷ is (Invocation 4294967295 4294967296 Plain ((0x91 ∷ 0xc0 ∷ []) ∷ [])) (0x95 ∷ 0x44 ∷ 0xce ∷ 0xff ∷ 0xff ∷ 0xff ∷ 0xff ∷ 0xcf ∷ 0x00 ∷ 0x00 ∷ 0x00 ∷ 0x01 ∷ 0x00 ∷ 0x00 ∷ 0x00 ∷ 0x00 ∷ 0x80 ∷ 0x91 ∷ 0xc0 ∷ [])
    ∷ is (Invocation 5 10 (Names (chars "hub.donor.defer.until.the.next.shift")) []) (0x94 ∷ 0x44 ∷ 0x05 ∷ 0x0a ∷ 0x81 ∷ 0xa9 ∷ (chars "procedure" ++ (0xd9 ∷ 0x24 ∷ chars "hub.donor.defer.until.the.next.shift")))
    ∷ []

pub all-packed : All Packs packed
unfolding wide pack_whole pack_str pack_array pack_map pack_text pack_scalar msgpack render
all-packed = (refl, (refl, (refl, (refl, (refl, (refl, (refl, (refl, (refl, (refl, (refl, (refl, (refl, (refl, (refl, (refl, (refl, (refl, (refl, (refl, (refl, (refl, (refl, (refl, (refl, tt)))))))))))))))))))))))))

-- ---- the output
-- a RESULT of 274 bytes to slot 3, a PUBLISHED of 8 to slot 0, and one of 4 to slot 1, which speaks MessagePack
abbrev long : List ℕ
long = chars "[50,1,{},[\"" ++ (replicate 260 97 ++ chars "\"]]")

abbrev mails : List Mail
mails =
    record { to = 3; message = Reply 1 (Result ((chars "[\"" ++ (replicate 260 97 ++ chars "\"]")) ∷ [])) }
    ∷ record { to = 0; message = Published 2 6 }
    ∷ record { to = 1; message = Published 2 6 }
    ∷ []

abbrev output : List ℕ
output = 0 ∷ 3 ∷ (3 ∷ 1 ∷ 18 ∷ (0 ∷ 0 ∷ 8 ∷ (1 ∷ 0 ∷ 4 ∷ (long ++ (chars "[17,2,6]" ++ (0x93 ∷ 17 ∷ 2 ∷ 6 ∷ []))))))

-- it is written so, and read so
pub written : layout (formats_of (false ∷ true ∷ [])) mails ≡ output
unfolding digits decimal json wide pack_whole pack_str pack_array pack_map pack_text msgpack render entry body layout
written = refl

pub read : contents output ≡ record { to = 3; bytes = long } ∷ record { to = 0; bytes = chars "[17,2,6]" }
    ∷ record { to = 1; bytes = 0x93 ∷ 17 ∷ 2 ∷ 6 ∷ [] } ∷ []
unfolding contents_from contents
read = refl

pub silent : (layout (λ slot. Json) [] ≡ 0 ∷ 0 ∷ []) × (contents (0 ∷ 0 ∷ []) ≡ [])
unfolding layout contents_from contents
silent = (refl, refl)
