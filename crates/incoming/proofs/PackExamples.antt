-- Messages of each kind in MessagePack, in its shorter and its longer forms, and violations, read by computation. Assumes nothing.
use Rattle.std.specs.Prelude.{Some, None}
use Prim.Native.Nat.{ℕ, ◌+◌}
use Prim.Native.String.{String}
use mathlib.Core.Bool.{true, false}
use mathlib.Core.List.{List, [], ◌∷◌, ◌++◌}
use mathlib.Core.Path.{refl}
use lib.ListN.{length}
use Rattle.seq.specs.declared.Format.TheVariants.{Json, MsgPack}
use Rattle.seq.specs.Lists.{All, every, first_part, rest_parts, but_last, joined}
use Rattle.seq.specs.Bytes.{chars, same, among}
use Rattle.uri.specs.declared.Policy.TheVariants.{Exact, Prefix, Wildcard}
use Rattle.uri.specs.Uri.{filled, components_filled, valid_text, valid_error}
use Rattle.utf8.specs.Utf8.{lead, step, continues}
use Rattle.msgpack.specs.Head.{forms, form_of, number, half, signed_head, head_of, head_at}
use Rattle.msgpack.specs.MsgPack.{bytes, text as text_at, times, with_key, again, pairs as pairs_at, by_head, value}
use Rattle.arrays.specs.Arrays.{spans, outer, listed, id_of, kind, kinds_from}
use Rattle.maps.specs.Maps.{pairs, members_at, is_key, value_of, value_in}
use Rattle.options.specs.Audience.{Given, Wrong, Audience, no_options, flag_of, listed as ids_listed, ids_of}
use Rattle.incoming.specs.Incoming.{Incoming, Hello, Abort, Goodbye, Error, Publish, Subscribe, Unsubscribe, Call, Register, Unregister}
use Rattle.incoming.specs.Incoming.{Yield, Violation}
use Rattle.incoming.specs.Read.{policy_named, policy_of, match_in, sound_match, acknowledge_in, audience_in, with_payload}
use Rattle.incoming.specs.Read.{hello, ending, failure, publish, subscribe, call}
use Rattle.incoming.specs.Read.{register, release, yield, by_number, interpret, read}
use Rattle.incoming.proofs.Examples.{Example, Reads, me, out, only}

-- ---- bytes in the shortest forms
-- a positive fixint, a fixstr, a fixmap of no pair and of one, a bin 8
abbrev id : ℕ → List ℕ
id n = n ∷ []

abbrev text : String → List ℕ
text t = (0xa0 + length (chars t)) ∷ chars t

abbrev empty : List ℕ
empty = 0x80 ∷ []

abbrev dict : List ℕ → List ℕ → List ℕ
dict key value = 0x81 ∷ key ++ value

abbrev bin : String → List ℕ
bin t = 0xc4 ∷ length (chars t) ∷ chars t

-- a first byte, and what follows it: a fixarray and its elements
abbrev packed : ℕ → List (List ℕ) → Incoming → Example
packed first parts message = record { format = MsgPack; bytes = first ∷ joined (λ (t : List ℕ). t) parts; message = message }

abbrev seven : List ℕ
seven = 0 ∷ 0 ∷ 0 ∷ 0 ∷ 0 ∷ 0 ∷ 0 ∷ []

abbrev odd : List ℕ
odd = 0x93 ∷ 0xca ∷ 0x3f ∷ 0x80 ∷ 0x00 ∷ 0x00 ∷ 0xd4 ∷ 0x05 ∷ 0xff ∷ 0xc4 ∷ 0x01 ∷ 0xff ∷ []

-- a list in a list, seven of them: the message's own list is the eighth
abbrev deep : List ℕ
deep = 0x91 ∷ 0x91 ∷ 0x91 ∷ 0x91 ∷ 0x91 ∷ 0x91 ∷ 0x90 ∷ []

-- ---- messages of each kind
abbrev kinds : List Example
kinds =
    packed 0x93 (id 1 ∷ text "hub.bus" ∷ empty ∷ []) (Hello (chars "hub.bus"))
    ∷ packed 0x93 (id 3 ∷ empty ∷ text "wamp.close.normal" ∷ []) Abort
    ∷ packed 0x93 (id 6 ∷ empty ∷ text "" ∷ []) Goodbye
    ∷ packed 0x97 (id 8 ∷ id 68 ∷ id 2 ∷ empty ∷ text "hub.error.held" ∷ (0x91 ∷ 0x01 ∷ []) ∷ (0x81 ∷ 0xa1 ∷ 0x61 ∷ 0xc0 ∷ []) ∷ [])
    (Error 2 (chars "hub.error.held") ((0x91 ∷ 0x01 ∷ []) ∷ (0x81 ∷ 0xa1 ∷ 0x61 ∷ 0xc0 ∷ []) ∷ []))
    ∷ packed 0x94 (id 16 ∷ id 1 ∷ dict (text "acknowledge") (0xc3 ∷ []) ∷ text "hub.sheet" ∷ []) (Publish 1 true no_options (chars "hub.sheet") [])
    ∷ packed 0x94 (id 16 ∷ id 1 ∷ dict (text "acknowledge") (0xc2 ∷ []) ∷ text "hub.sheet" ∷ []) (Publish 1 false no_options (chars "hub.sheet") [])
    ∷ packed 0x95 (id 16 ∷ id 1 ∷ dict (text "acknowledge") (id 1) ∷ text "hub.sheet" ∷ (0x90 ∷ []) ∷ [])
    (Publish 1 false no_options (chars "hub.sheet") ((0x90 ∷ []) ∷ []))
    ∷ packed 0x94 (id 32 ∷ id 3 ∷ empty ∷ text "hub.sheet" ∷ []) (Subscribe 3 (Some Exact) (chars "hub.sheet"))
    ∷ packed 0x94 (id 32 ∷ id 3 ∷ (0x82 ∷ text "x" ++ (0x91 ∷ 0x80 ∷ text "match" ++ text "wildcard")) ∷ text "hub..x" ∷ [])
    (Subscribe 3 (Some Wildcard) (chars "hub..x"))
    ∷ packed 0x93 (id 34 ∷ id 4 ∷ id 1 ∷ []) (Unsubscribe 4 1)
    ∷ packed 0x95 (id 48 ∷ id 1 ∷ empty ∷ text "hub.donor.defer" ∷ (0x91 ∷ text "D17") ∷ [])
    (Call 1 (chars "hub.donor.defer") ((0x91 ∷ text "D17") ∷ []))
    ∷ packed 0x94 (id 64 ∷ id 1 ∷ dict (text "match") (text "prefix") ∷ text "hub.donor" ∷ []) (Register 1 (Some Prefix) (chars "hub.donor"))
    ∷ packed 0x94 (id 64 ∷ id 1 ∷ dict (text "match") (text "regex") ∷ text "hub.donor" ∷ []) (Register 1 None (chars "hub.donor"))
    ∷ packed 0x93 (id 66 ∷ (0xcf ∷ 0x00 ∷ 0x20 ∷ 0x00 ∷ 0x00 ∷ 0x00 ∷ 0x00 ∷ 0x00 ∷ 0x00 ∷ []) ∷ id 7 ∷ []) (Unregister 9007199254740992 7)
    ∷ packed 0x94 (id 70 ∷ id 1 ∷ empty ∷ (0x91 ∷ text "held") ∷ []) (Yield 1 ((0x91 ∷ text "held") ∷ []))
    ∷ packed 0x95 (id 70 ∷ id 2 ∷ empty ∷ (0x90 ∷ []) ∷ dict (text "a") (id 1) ∷ []) (Yield 2 ((0x90 ∷ []) ∷ dict (text "a") (id 1) ∷ []))
    ∷ []

-- forms that are longer than they need be, and what is MessagePack's own
abbrev longer : List Example
longer =
    -- integers: uint 8 and int 8, uint 16 and int 16, uint 32 and int 32, uint 64 and int 64
    packed 0x93 (id 34 ∷ (0xcc ∷ 0x05 ∷ []) ∷ (0xd0 ∷ 0x05 ∷ []) ∷ []) (Unsubscribe 5 5)
    ∷ packed 0x93 (id 34 ∷ (0xcd ∷ 0x00 ∷ 0x05 ∷ []) ∷ (0xd1 ∷ 0x00 ∷ 0x05 ∷ []) ∷ []) (Unsubscribe 5 5)
    ∷ packed 0x93 (id 34 ∷ (0xce ∷ 0x00 ∷ 0x00 ∷ 0x00 ∷ 0x05 ∷ []) ∷ (0xd2 ∷ 0x00 ∷ 0x00 ∷ 0x00 ∷ 0x05 ∷ []) ∷ []) (Unsubscribe 5 5)
    ∷ packed 0x93 (id 34 ∷ (0xcf ∷ seven ++ (0x05 ∷ [])) ∷ (0xd3 ∷ seven ++ (0x05 ∷ [])) ∷ []) (Unsubscribe 5 5)
    -- a message's number, and the type of an ERROR
    ∷ packed 0x93 ((0xd1 ∷ 0x00 ∷ 0x22 ∷ []) ∷ id 4 ∷ id 1 ∷ []) (Unsubscribe 4 1)
    ∷ packed 0x95 ((0xd0 ∷ 0x08 ∷ []) ∷ (0xcf ∷ seven ++ (0x44 ∷ [])) ∷ id 1 ∷ empty ∷ text "hub.held" ∷ []) (Error 1 (chars "hub.held") [])
    -- array 16 and 32
    ∷ packed 0xdc ((0x00 ∷ 0x03 ∷ []) ∷ id 34 ∷ id 4 ∷ id 1 ∷ []) (Unsubscribe 4 1)
    ∷ packed 0xdd ((0x00 ∷ 0x00 ∷ 0x00 ∷ 0x03 ∷ []) ∷ id 34 ∷ id 4 ∷ id 1 ∷ []) (Unsubscribe 4 1)
    -- str 8, 16 and 32, map 16 and 32
    ∷ packed 0x93 (id 1 ∷ (0xd9 ∷ 0x07 ∷ chars "hub.bus") ∷ empty ∷ []) (Hello (chars "hub.bus"))
    ∷ packed 0x93 (id 1 ∷ (0xda ∷ 0x00 ∷ 0x07 ∷ chars "hub.bus") ∷ (0xde ∷ 0x00 ∷ 0x00 ∷ []) ∷ []) (Hello (chars "hub.bus"))
    ∷ packed 0x93 (id 1 ∷ (0xdb ∷ 0x00 ∷ 0x00 ∷ 0x00 ∷ 0x07 ∷ chars "hub.bus") ∷ (0xdf ∷ 0x00 ∷ 0x00 ∷ 0x00 ∷ 0x00 ∷ []) ∷ []) (Hello (chars "hub.bus"))
    ∷ packed 0x94 (id 64 ∷ id 1 ∷ (0xde ∷ 0x00 ∷ 0x01 ∷ 0xd9 ∷ 0x05 ∷ chars "match" ++ (0xda ∷ 0x00 ∷ 0x06 ∷ chars "prefix")) ∷ text "a" ∷ [])
    (Register 1 (Some Prefix) (chars "a"))
    -- a character of four bytes
    ∷ packed 0x93 (id 1 ∷ (0xa4 ∷ 0xf0 ∷ 0x9f ∷ 0x98 ∷ 0x80 ∷ []) ∷ empty ∷ []) (Hello (0xf0 ∷ 0x9f ∷ 0x98 ∷ 0x80 ∷ []))
    -- backslashes are text like any other
    ∷ packed 0x94 (id 48 ∷ id 1 ∷ empty ∷ text "\\ud800" ∷ []) (Call 1 (chars "\\ud800") [])
    -- options: a value of `match` that is a bin, a key that is one, a key that is an integer, and two bins as keys
    ∷ packed 0x94 (id 64 ∷ id 1 ∷ dict (text "match") (bin "exact") ∷ text "a" ∷ []) (Register 1 None (chars "a"))
    ∷ packed 0x94 (id 32 ∷ id 1 ∷ dict (bin "match") (text "prefix") ∷ text "a" ∷ []) (Subscribe 1 (Some Exact) (chars "a"))
    ∷ packed 0x94 (id 16 ∷ id 1 ∷ dict (bin "acknowledge") (0xc3 ∷ []) ∷ text "a" ∷ []) (Publish 1 false no_options (chars "a") [])
    ∷ packed 0x94 (id 48 ∷ id 1 ∷ dict (id 1) (id 2) ∷ text "a" ∷ []) (Call 1 (chars "a") [])
    ∷ packed 0x93 (id 70 ∷ id 1 ∷ (0x82 ∷ bin "a" ++ (0x01 ∷ bin "a" ++ id 2)) ∷ []) (Yield 1 [])
    -- a payload is handed on as it is: a float, an ext, hex FF in a bin; eight deep
    ∷ packed 0x94 (id 70 ∷ id 1 ∷ empty ∷ odd ∷ []) (Yield 1 (odd ∷ []))
    ∷ packed 0x94 (id 70 ∷ id 1 ∷ empty ∷ deep ∷ []) (Yield 1 (deep ∷ []))
    ∷ []

abbrev violations : List Example
violations =
    -- no bytes; the bytes of JSON; MessagePack as JSON
    record { format = MsgPack; bytes = []; message = Violation }
    ∷ record { format = MsgPack; bytes = chars "[34,4,1]"; message = Violation }
    ∷ record { format = Json; bytes = 0x93 ∷ 0x22 ∷ 0x04 ∷ 0x01 ∷ []; message = Violation }
    -- an ID of 0, one above 2^53, -1 in two forms, a float, a bin, a str
    ∷ packed 0x93 (id 34 ∷ id 0 ∷ id 1 ∷ []) Violation
    ∷ packed 0x93 (id 34 ∷ (0xcf ∷ 0x00 ∷ 0x20 ∷ 0x00 ∷ 0x00 ∷ 0x00 ∷ 0x00 ∷ 0x00 ∷ 0x01 ∷ []) ∷ id 1 ∷ []) Violation
    ∷ packed 0x93 (id 34 ∷ (0xff ∷ []) ∷ id 1 ∷ []) Violation
    ∷ packed 0x93 (id 34 ∷ (0xd0 ∷ 0xff ∷ []) ∷ id 1 ∷ []) Violation
    ∷ packed 0x93 (id 34 ∷ (0xca ∷ 0x40 ∷ 0xa0 ∷ 0x00 ∷ 0x00 ∷ []) ∷ id 1 ∷ []) Violation
    ∷ packed 0x93 (id 34 ∷ (0xc4 ∷ 0x01 ∷ 0x05 ∷ []) ∷ id 1 ∷ []) Violation
    ∷ packed 0x93 (id 34 ∷ text "5" ∷ id 1 ∷ []) Violation
    -- a byte left over; an element is missing; a str is cut; hex C1
    ∷ packed 0x93 (id 34 ∷ id 4 ∷ id 1 ∷ (0xc0 ∷ []) ∷ []) Violation
    ∷ packed 0x93 (id 34 ∷ id 4 ∷ []) Violation
    ∷ packed 0x93 (id 6 ∷ empty ∷ (0xa2 ∷ 0x61 ∷ []) ∷ []) Violation
    ∷ packed 0x94 (id 70 ∷ id 1 ∷ empty ∷ (0x91 ∷ 0xc1 ∷ []) ∷ []) Violation
    -- a str that is no UTF-8, in a realm and in a payload; a topic that is a bin
    ∷ packed 0x93 (id 1 ∷ (0xa1 ∷ 0xff ∷ []) ∷ empty ∷ []) Violation
    ∷ packed 0x94 (id 70 ∷ id 1 ∷ empty ∷ (0x91 ∷ 0xa1 ∷ 0xff ∷ []) ∷ []) Violation
    ∷ packed 0x94 (id 32 ∷ id 1 ∷ empty ∷ bin "a" ∷ []) Violation
    -- eight elements; a dict without its list; a number not taken in; the type of an ERROR; its URI
    ∷ packed 0x98 (id 8 ∷ id 68 ∷ id 1 ∷ empty ∷ text "hub.held" ∷ (0x90 ∷ []) ∷ empty ∷ empty ∷ []) Violation
    ∷ packed 0x94 (id 70 ∷ id 1 ∷ empty ∷ empty ∷ []) Violation
    ∷ packed 0x93 (id 2 ∷ id 1 ∷ empty ∷ []) Violation
    ∷ packed 0x95 (id 8 ∷ id 48 ∷ id 1 ∷ empty ∷ text "hub.held" ∷ []) Violation
    ∷ packed 0x95 (id 8 ∷ id 68 ∷ id 1 ∷ empty ∷ text "hub..held" ∷ []) Violation
    -- equal keys, in two forms; nine deep
    ∷ packed 0x93 (id 70 ∷ id 1 ∷ (0x82 ∷ text "a" ++ (0x01 ∷ 0xd9 ∷ 0x01 ∷ chars "a" ++ id 2)) ∷ []) Violation
    ∷ packed 0x94 (id 70 ∷ id 1 ∷ empty ∷ (0x91 ∷ deep) ∷ []) Violation
    -- a number that is no byte
    ∷ packed 0x94 (id 70 ∷ id 1 ∷ empty ∷ (0x91 ∷ 0xc4 ∷ 0x01 ∷ 256 ∷ []) ∷ []) Violation
    ∷ []

-- ---- the options of PUBLISH that choose receivers: the key, its value, and what is read
abbrev says : List ℕ → List ℕ → Audience → Example
says key value a = packed 0x94 (id 16 ∷ id 1 ∷ dict key value ∷ text "a" ∷ []) (Publish 1 false a (chars "a") [])

abbrev chosen : List Example
chosen =
    says (text "exclude_me") (0xc3 ∷ []) (me (Given true))
    ∷ says (text "exclude_me") (0xc2 ∷ []) (me (Given false))
    ∷ says (text "exclude_me") (0xc0 ∷ []) (me Wrong)
    ∷ says (text "exclude_me") (0x01 ∷ []) (me Wrong)
    ∷ says (text "exclude") (0x90 ∷ []) (out (Given []))
    ∷ says (text "exclude") (0x94 ∷ 0x03 ∷ 0xcc ∷ 0xc8 ∷ 0xd0 ∷ 0x05 ∷ 0xd1 ∷ 0x00 ∷ 0x07 ∷ []) (out (Given (3 ∷ 200 ∷ 5 ∷ 7 ∷ [])))
    ∷ says (text "exclude") (0xdc ∷ 0x00 ∷ 0x01 ∷ 0x03 ∷ []) (out (Given (3 ∷ [])))
    ∷ says (text "exclude") (0xdd ∷ 0x00 ∷ 0x00 ∷ 0x00 ∷ 0x01 ∷ 0x03 ∷ []) (out (Given (3 ∷ [])))
    ∷ says (text "exclude") (0x98 ∷ 0x01 ∷ 0x02 ∷ 0x03 ∷ 0x04 ∷ 0x05 ∷ 0x06 ∷ 0x07 ∷ 0x08 ∷ []) (out (Given (1 ∷ 2 ∷ 3 ∷ 4 ∷ 5 ∷ 6 ∷ 7 ∷ 8 ∷ [])))
    ∷ says (text "exclude") (0x99 ∷ 0x01 ∷ 0x02 ∷ 0x03 ∷ 0x04 ∷ 0x05 ∷ 0x06 ∷ 0x07 ∷ 0x08 ∷ 0x09 ∷ []) (out Wrong)
    ∷ says (text "exclude") (0x91 ∷ 0xcf ∷ 0x00 ∷ 0x20 ∷ 0x00 ∷ 0x00 ∷ 0x00 ∷ 0x00 ∷ 0x00 ∷ 0x00 ∷ []) (out (Given (9007199254740992 ∷ [])))
    ∷ says (text "exclude") (0x91 ∷ 0xcf ∷ 0x00 ∷ 0x20 ∷ 0x00 ∷ 0x00 ∷ 0x00 ∷ 0x00 ∷ 0x00 ∷ 0x01 ∷ []) (out Wrong)
    ∷ says (text "exclude") (0x91 ∷ 0x00 ∷ []) (out Wrong)
    ∷ says (text "exclude") (0x91 ∷ 0xff ∷ []) (out Wrong)
    ∷ says (text "exclude") (0x91 ∷ 0xca ∷ 0x3f ∷ 0x80 ∷ 0x00 ∷ 0x00 ∷ []) (out Wrong)
    ∷ says (text "exclude") (0x91 ∷ 0xa1 ∷ 0x31 ∷ []) (out Wrong)
    ∷ says (text "exclude") (0xc0 ∷ []) (out Wrong)
    ∷ says (text "eligible") (0x90 ∷ []) (only (Given []))
    ∷ says (text "eligible") (0x92 ∷ 0x07 ∷ 0x07 ∷ []) (only (Given (7 ∷ 7 ∷ [])))
    ∷ says (text "eligible") (0x91 ∷ 0xc0 ∷ []) (only Wrong)
    ∷ says (text "eligible") (0xc0 ∷ []) (only Wrong)
    -- a key that is no str is an unknown one
    ∷ says (bin "exclude_me") (0xc2 ∷ []) no_options
    ∷ []

-- as in Examples.antt
pub all-packed : All Reads kinds × All Reads longer × All Reads violations × All Reads chosen
unfolding every first_part rest_parts but_last same among filled components_filled valid_text valid_error lead step continues forms form_of number
    half signed_head head_of head_at bytes text_at times with_key again pairs_at by_head value spans outer listed id_of kind kinds_from pairs members_at
    is_key value_of value_in policy_named policy_of match_in sound_match acknowledge_in flag_of ids_listed ids_of audience_in with_payload hello ending failure publish subscribe call
    register release yield by_number interpret read
all-packed = ((refl, (refl, (refl, (refl, (refl, (refl, (refl, (refl, (refl, (refl, (refl, (refl, (refl, (refl, (refl, (refl, tt)))))))))))))))), (refl, (refl, (refl, (refl, (refl, (refl, (refl, (refl, (refl, (refl, (refl, (refl, (refl, (refl, (refl, (refl, (refl, (refl, (refl, (refl, (refl, tt))))))))))))))))))))), (refl, (refl, (refl, (refl, (refl, (refl, (refl, (refl, (refl, (refl, (refl, (refl, (refl, (refl, (refl, (refl, (refl, (refl, (refl, (refl, (refl, (refl, (refl, (refl, (refl, tt))))))))))))))))))))))))), (refl, (refl, (refl, (refl, (refl, (refl, (refl, (refl, (refl, (refl, (refl, (refl, (refl, (refl, (refl, (refl, (refl, (refl, (refl, (refl, (refl, (refl, tt)))))))))))))))))))))))
