-- A message of each kind as it is heard, in both formats, and bytes that are none, by computation. Assumes nothing.
use Prim.Native.Nat.{ℕ, ◌+◌}
use Prim.Native.String.{String}
use mathlib.Core.List.{List, [], ◌∷◌, ◌++◌}
use mathlib.Core.Path.{◌≡◌, refl}
use lib.ListN.{length}
use Rattle.seq.specs.declared.Format.{Format}
use Rattle.seq.specs.declared.Format.TheVariants.{Json, MsgPack}
use Rattle.seq.specs.Bytes.{chars, same, among}
use Rattle.seq.specs.Lists.{All, every, joined}
use Rattle.utf8.specs.Utf8.{lead, step, continues}
use Rattle.utf8.specs.Table.{encoding}
use Rattle.strings.specs.Strings.{digit, unit, low_at, short, escape as character, undone_after, lone_after}
use Rattle.lex.specs.Lex.{run, past, some_digits, integer, fraction, minus, signed, exponent, number, hex4, is_escape, escape, char, string, quoted}
use Rattle.lex.specs.Lex.{first, next, colon}
use Rattle.json_text.specs.Json.{literal, series, enclosed, members, braced, by_first, value}
use Rattle.elements.specs.Kinds.{decimal, id_from, id_of, kind}
use Rattle.elements.specs.Elements.{items, elements}
use Rattle.members.specs.Members as Members
use Rattle.msgpack.specs.Head.{forms, form_of, number as number_at, half, signed_head, head_of, head_at}
use Rattle.msgpack.specs.MsgPack as Packs
use Rattle.arrays.specs.Arrays as Arrays
use Rattle.maps.specs.Maps as Maps
use Rattle.outgoing.specs.Outgoing.{Outgoing, Welcome, Abort, Goodbye, Error, Reply, Published}
use Rattle.outgoing.specs.Outgoing.{Subscribed, Event, Registered, Unsubscribed, Unregistered, Invocation}
use Rattle.outgoing.specs.Outgoing.{Result, Failure, Publish, Subscribe, Unsubscribe, Register, Unregister, Plain, Names}
use Rattle.spoken.specs.Heard.{Heard, Is, Nothing, on_text, with_payload, named, welcome}
use Rattle.spoken.specs.Heard.{ending, typed, failure, result, released, granted, relayed}
use Rattle.spoken.specs.Heard.{by_number, by_texts, heard}

pub record Example : Type 0 where
  pub format : Format
  pub bytes : List ℕ
  pub message : Heard

abbrev Hears : Example → Type 0
Hears e = heard e.format 13000 e.bytes ≡ e.message

-- ---- JSON
abbrev says : String → Outgoing → Example
says t message = record { format = Json; bytes = chars t; message = Is message }

abbrev silent : List ℕ → Example
silent bytes = record { format = Json; bytes = bytes; message = Nothing }

abbrev texts : List Example
texts =
    says "[2,7,{\"roles\":{\"broker\":{},\"dealer\":{}}}]" (Welcome 7)
    ∷ says "[3,{},\"wamp.error.no_such_realm\"]" (Abort (chars "wamp.error.no_such_realm"))
    ∷ says "[6,{},\"wamp.close.goodbye_and_out\"]" (Goodbye (chars "wamp.close.goodbye_and_out"))
    ∷ says "[8,16,1,{},\"wamp.error.invalid_uri\"]" (Error Publish 1 (chars "wamp.error.invalid_uri"))
    ∷ says "[8,32,1,{},\"a\"]" (Error Subscribe 1 (chars "a"))
    ∷ says "[8,34,1,{},\"a\"]" (Error Unsubscribe 1 (chars "a"))
    ∷ says "[8,64,1,{},\"a\"]" (Error Register 1 (chars "a"))
    ∷ says "[8,66,1,{},\"a\"]" (Error Unregister 1 (chars "a"))
    ∷ says "[8,48,1,{},\"hub.error.held\",[7]]" (Reply 1 (Failure (chars "hub.error.held") (chars "[7]" ∷ [])))
    ∷ says "[17,1,9007199254740992]" (Published 1 9007199254740992)
    ∷ says "[33,2,5]" (Subscribed 2 5)
    ∷ says "[35,2]" (Unsubscribed 2)
    ∷ says "[36,5,6,{}]" (Event 5 6 Plain [])
    ∷ says "[36,5,6,{\"topic\":\"a\\\"b\"},[],{\"k\":1}]" (Event 5 6 (Names (chars "a\"b")) (chars "[]" ∷ chars "{\"k\":1}" ∷ []))
    ∷ says "[50,3,{},[true]]" (Reply 3 (Result (chars "[true]" ∷ [])))
    ∷ says "[65,4,8]" (Registered 4 8)
    ∷ says "[67,4]" (Unregistered 4)
    ∷ says "[68,9,8,{\"procedure\":\"hub.x\"}]" (Invocation 9 8 (Names (chars "hub.x")) [])
    -- nothing: no bytes, a type that no request has, a payload of an ERROR that answers no CALL, a topic that is no string, a lone half, what is
    -- no UTF-8, a message that is not sent
    ∷ silent []
    ∷ silent (chars "[8,47,1,{},\"a\"]")
    ∷ silent (chars "[8,16,1,{},\"a\",[]]")
    ∷ silent (chars "[36,5,6,{\"topic\":7}]")
    ∷ silent (chars "[3,{},\"\\ud800\"]")
    ∷ silent (chars "[3,{},\"" ++ (0xff ∷ chars "\"]"))
    ∷ silent (chars "[70,1,{}]")
    ∷ []

pub all-heard : All Hears texts
unfolding every same among lead step continues encoding digit unit low_at short character undone_after lone_after run past some_digits integer
    fraction minus signed exponent number hex4 is_escape escape char string quoted first next colon literal series enclosed members braced by_first
    value decimal id_from id_of kind items elements Members.member_at Members.pairs Members.value_of Members.member_in on_text with_payload named
    welcome ending typed failure result released granted relayed by_number by_texts heard
all-heard = (refl, (refl, (refl, (refl, (refl, (refl, (refl, (refl, (refl, (refl, (refl, (refl, (refl, (refl, (refl, (refl, (refl, (refl, (refl, (refl, (refl, (refl, (refl, (refl, (refl, tt)))))))))))))))))))))))))

-- ---- MessagePack
abbrev is : List ℕ → Outgoing → Example
is bytes message = record { format = MsgPack; bytes = bytes; message = Is message }

abbrev none : List ℕ → Example
none bytes = record { format = MsgPack; bytes = bytes; message = Nothing }

-- a fixstr, a fixmap of one pair, a byte, and a first byte before these parts
abbrev text : String → List ℕ
text t = (0xa0 + length (chars t)) ∷ chars t

abbrev pair : List ℕ → List ℕ → List ℕ
pair key value = 0x81 ∷ key ++ value

abbrev byte : ℕ → List ℕ
byte b = b ∷ []

abbrev row : ℕ → List (List ℕ) → List ℕ
row head parts = head ∷ joined (λ (t : List ℕ). t) parts

abbrev packs : List Example
packs =
    is (row 0x93 (byte 2 ∷ byte 7 ∷ byte 0x80 ∷ [])) (Welcome 7)
    ∷ is (row 0x93 (byte 3 ∷ byte 0x80 ∷ text "a.b" ∷ [])) (Abort (chars "a.b"))
    ∷ is (row 0x93 (byte 6 ∷ byte 0x80 ∷ text "a.b" ∷ [])) (Goodbye (chars "a.b"))
    ∷ is (row 0x95 (byte 8 ∷ byte 16 ∷ byte 1 ∷ byte 0x80 ∷ text "a" ∷ [])) (Error Publish 1 (chars "a"))
    ∷ is (row 0x95 (byte 8 ∷ byte 66 ∷ byte 1 ∷ byte 0x80 ∷ text "a" ∷ [])) (Error Unregister 1 (chars "a"))
    ∷ is (row 0x96 (byte 8 ∷ byte 48 ∷ byte 1 ∷ byte 0x80 ∷ text "a" ∷ byte 0x90 ∷ [])) (Reply 1 (Failure (chars "a") (byte 0x90 ∷ [])))
    ∷ is (row 0x93 (byte 17 ∷ byte 1 ∷ (0xcc ∷ 200 ∷ []) ∷ [])) (Published 1 200)
    ∷ is (row 0x93 (byte 33 ∷ byte 2 ∷ byte 5 ∷ [])) (Subscribed 2 5)
    ∷ is (row 0x92 (byte 35 ∷ byte 2 ∷ [])) (Unsubscribed 2)
    ∷ is (row 0x94 (byte 36 ∷ byte 5 ∷ byte 6 ∷ byte 0x80 ∷ [])) (Event 5 6 Plain [])
    ∷ is (row 0x95 (byte 36 ∷ byte 5 ∷ byte 6 ∷ pair (text "topic") (text "a") ∷ byte 0x90 ∷ [])) (Event 5 6 (Names (chars "a")) (byte 0x90 ∷ []))
    ∷ is (row 0x94 (byte 50 ∷ byte 3 ∷ byte 0x80 ∷ (0x91 ∷ 0xc3 ∷ []) ∷ [])) (Reply 3 (Result ((0x91 ∷ 0xc3 ∷ []) ∷ [])))
    ∷ is (row 0x93 (byte 65 ∷ byte 4 ∷ byte 8 ∷ [])) (Registered 4 8)
    ∷ is (row 0x92 (byte 67 ∷ byte 4 ∷ [])) (Unregistered 4)
    ∷ is (row 0x94 (byte 68 ∷ byte 9 ∷ byte 8 ∷ pair (text "procedure") (text "hub.x") ∷ [])) (Invocation 9 8 (Names (chars "hub.x")) [])
    -- nothing: a type that no request has, a topic that is a bin, a byte left over, what is no UTF-8
    ∷ none (row 0x95 (byte 8 ∷ byte 47 ∷ byte 1 ∷ byte 0x80 ∷ text "a" ∷ []))
    ∷ none (row 0x94 (byte 36 ∷ byte 5 ∷ byte 6 ∷ pair (text "topic") (0xc4 ∷ 1 ∷ 0x61 ∷ []) ∷ []))
    ∷ none (row 0x92 (byte 35 ∷ byte 2 ∷ byte 0 ∷ []))
    ∷ none (row 0x93 (byte 3 ∷ byte 0x80 ∷ (0xa1 ∷ 0xff ∷ []) ∷ []))
    ∷ []

pub all-packed : All Hears packs
unfolding every same lead step continues forms form_of number_at half signed_head head_of head_at Packs.bytes Packs.text Packs.times Packs.with_key
    Packs.again among Packs.pairs Packs.by_head Packs.value Arrays.spans Arrays.id_of Arrays.kind Maps.pairs Maps.is_key Maps.value_of Maps.member_in
    on_text with_payload named welcome ending typed failure result released granted relayed by_number by_texts heard
all-packed = (refl, (refl, (refl, (refl, (refl, (refl, (refl, (refl, (refl, (refl, (refl, (refl, (refl, (refl, (refl, (refl, (refl, (refl, (refl, tt)))))))))))))))))))

-- a message of more bytes than are taken
pub too_long : (heard Json 5 (chars "[35,2]") ≡ Nothing) × (heard Json 6 (chars "[35,2]") ≡ Is (Unsubscribed 2))
unfolding every same among lead step continues run past some_digits integer fraction minus signed exponent number first next by_first value decimal
    id_from id_of kind items elements released by_number by_texts heard
too_long = (refl, refl)
