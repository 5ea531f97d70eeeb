-- Messages of each kind in JSON, and violations, read by computation. Assumes nothing.
use Rattle.std.specs.Prelude.{Some, None}
use Prim.Native.Nat.{ℕ}
use Prim.Native.String.{String}
use mathlib.Core.Bool.{Bool, true, false}
use mathlib.Core.List.{List, [], ◌∷◌, ◌++◌}
use mathlib.Core.Path.{◌≡◌, refl}
use Rattle.seq.specs.declared.Format.{Format}
use Rattle.seq.specs.declared.Format.TheVariants.{Json}
use Rattle.seq.specs.Lists.{All, every, first_part, rest_parts, but_last}
use Rattle.seq.specs.Bytes.{chars, same, among}
use Rattle.uri.specs.declared.Policy.TheVariants.{Exact, Prefix, Wildcard}
use Rattle.uri.specs.Uri.{filled, components_filled, valid_text, valid_error}
use Rattle.utf8.specs.Utf8.{lead, step, continues}
use Rattle.utf8.specs.Table.{encoding}
use Rattle.strings.specs.Strings.{digit, unit, low_at, short, escape as character, undone_after, lone_after}
use Rattle.lex.specs.Lex.{run, past, some_digits, integer, fraction, minus, signed, exponent, number, hex4, is_escape, escape, char, string, quoted}
use Rattle.lex.specs.Lex.{first, next, colon}
use Rattle.json_text.specs.Json.{literal, series, enclosed, members, braced, by_first, value, list, dict}
use Rattle.elements.specs.Kinds.{decimal, id_from, id_of, kind}
use Rattle.elements.specs.Elements.{items, elements, outer, listed, kinds_from}
use Rattle.members.specs.Members.{member_at, pairs, members_at, value_of, value_in, sound_in}
use Rattle.options.specs.Audience.{OptionValue, Absent, Given, Wrong, Audience, no_options, flag_of, listed as ids_listed, ids_of}
use Rattle.incoming.specs.Incoming.{Incoming, Hello, Abort, Goodbye, Error, Publish, Subscribe, Unsubscribe, Call, Register, Unregister}
use Rattle.incoming.specs.Incoming.{Yield, Violation}
use Rattle.incoming.specs.Read.{policy_named, policy_of, match_in, sound_match, acknowledge_in, audience_in, with_payload}
use Rattle.incoming.specs.Read.{hello, ending, failure, publish, subscribe, call}
use Rattle.incoming.specs.Read.{register, release, yield, by_number, interpret, read}

pub record Example : Type 0 where
  pub format : Format
  pub bytes : List ℕ
  pub message : Incoming

abbrev pub Reads : Example → Type 0
Reads e = read e.format e.bytes ≡ e.message

abbrev reads : List ℕ → Incoming → Example
reads bytes message = record { format = Json; bytes = bytes; message = message }

abbrev examples : List Example
examples =
    reads (chars "[1,\"hub.bus\",{}]") (Hello (chars "hub.bus"))
    ∷ reads (chars "[3,{},\"wamp.close.normal\"]") Abort
    ∷ reads (chars " [ 6 , { } , \"\" ] ") Goodbye
    ∷ reads (chars "[8,68,2,{},\"hub.error.held\",[1],{\"a\":null}]") (Error 2 (chars "hub.error.held") (chars "[1]" ∷ chars "{\"a\":null}" ∷ []))
    ∷ reads (chars "[16,1,{\"acknowledge\":true},\"hub.sheet\"]") (Publish 1 true no_options (chars "hub.sheet") [])
    ∷ reads (chars "[16,1,{\"acknowledge\":1},\"hub.sheet\",[]]") (Publish 1 false no_options (chars "hub.sheet") (chars "[]" ∷ []))
    ∷ reads (chars "[32,3,{},\"hub.sheet\"]") (Subscribe 3 (Some Exact) (chars "hub.sheet"))
    ∷ reads (chars "[32,3,{\"x\":[{}],\"match\":\"wildcard\"},\"hub..x\"]") (Subscribe 3 (Some Wildcard) (chars "hub..x"))
    ∷ reads (chars "[34,4,1]") (Unsubscribe 4 1)
    ∷ reads (chars "[48,1,{},\"hub.donor.defer\",[\"D17\"]]") (Call 1 (chars "hub.donor.defer") (chars "[\"D17\"]" ∷ []))
    ∷ reads (chars "[64,1,{\"match\":\"prefix\"},\"hub.donor\"]") (Register 1 (Some Prefix) (chars "hub.donor"))
    ∷ reads (chars "[64,1,{\"match\":\"regex\"},\"hub.donor\"]") (Register 1 None (chars "hub.donor"))
    ∷ reads (chars "[66,9007199254740992,7]") (Unregister 9007199254740992 7)
    ∷ reads (chars "[70,1,{},[\"held\"]]") (Yield 1 (chars "[\"held\"]" ∷ []))
    ∷ reads (chars "[70,2,{},[],{\"a\":1}]") (Yield 2 (chars "[]" ∷ chars "{\"a\":1}" ∷ []))
    -- violations: no bytes, an ID of 0, one above 2^53, a leading zero, a dict without its list, an equal key, an ERROR URI, a number not taken in
    ∷ reads [] Violation
    ∷ reads (chars "[34,0,1]") Violation
    ∷ reads (chars "[34,9007199254740993,1]") Violation
    ∷ reads (chars "[34,01,1]") Violation
    ∷ reads (chars "[70,1,{},{}]") Violation
    ∷ reads (chars "[70,1,{\"a\":1,\"a\":2}]") Violation
    ∷ reads (chars "[8,68,1,{},\"hub..held\"]") Violation
    ∷ reads (chars "[2,1,{}]") Violation
    ∷ []

-- strings that are spelled with escapes, and halves of surrogate pairs that stand alone
abbrev spelled : List Example
spelled =
    reads (chars "[48,1,{},\"hub.donor.\\u0064efer\"]") (Call 1 (chars "hub.donor.defer") [])
    ∷ reads (chars "[1,\"\\ud83d\\ude00\",{}]") (Hello (0xf0 ∷ 0x9f ∷ 0x98 ∷ 0x80 ∷ []))
    ∷ reads (chars "[8,68,1,{\"\\ud800\":1},\"hub\\u002eheld\"]") (Error 1 (chars "hub.held") [])
    ∷ reads (chars "[32,1,{\"match\":\"pre\\u0066ix\"},\"a\"]") (Subscribe 1 (Some Prefix) (chars "a"))
    ∷ reads (chars "[64,1,{\"m\\u0061tch\":\"wildcard\"},\"a\\/b\"]") (Register 1 (Some Wildcard) (chars "a/b"))
    ∷ reads (chars "[64,1,{\"match\":[\"\\ud800\"]},\"a\"]") (Register 1 None (chars "a"))
    ∷ reads (chars "[48,1,{\"match\":\"\\ud800\"},\"a\"]") (Call 1 (chars "a") [])
    ∷ reads (chars "[16,1,{},\"a\",[],{\"\\ud800\":1}]") (Publish 1 false no_options (chars "a") (chars "[]" ∷ chars "{\"\\ud800\":1}" ∷ []))
    ∷ reads (chars "[6,{},\"\\ud800\"]") Goodbye
    -- violations: keys that stand for the same text, among them keys of a payload; a half that stands alone in a text, in an unknown
    -- option's key and in a value of `match`
    ∷ reads (chars "[16,1,{\"acknowledge\":true,\"\\u0061cknowledge\":true},\"a\"]") Violation
    ∷ reads (chars "[16,1,{},\"a\",[],{\"\\ud800\":1,\"\\uD800\":2}]") Violation
    ∷ reads (chars "[1,\"\\udc00\\ud800\",{}]") Violation
    ∷ reads (chars "[8,68,1,{},\"hub.\\ud800\"]") Violation
    ∷ reads (chars "[16,1,{},\"a\\ud800\"]") Violation
    ∷ reads (chars "[16,1,{\"\\ud800\":1},\"a\"]") Violation
    ∷ reads (chars "[32,1,{\"\\ud800\":1},\"a\"]") Violation
    ∷ reads (chars "[48,1,{\"\\ud800\":1},\"a\"]") Violation
    ∷ reads (chars "[70,1,{\"\\ud800\":1}]") Violation
    ∷ reads (chars "[64,1,{\"match\":\"\\ud800\"},\"a\"]") Violation
    ∷ []

-- the options of PUBLISH that choose receivers: the key, its value, and what is read
abbrev pub me : OptionValue Bool → Audience
me o = record { exclude_me = o; exclude = Absent; eligible = Absent }

abbrev pub out : OptionValue (List ℕ) → Audience
out o = record { exclude_me = Absent; exclude = o; eligible = Absent }

abbrev pub only : OptionValue (List ℕ) → Audience
only o = record { exclude_me = Absent; exclude = Absent; eligible = o }

abbrev says : String → String → Audience → Example
says key value a =
    reads (chars "[16,1,{\"" ++ (chars key ++ (chars "\":" ++ (chars value ++ chars "},\"a\"]")))) (Publish 1 false a (chars "a") [])

abbrev chosen : List Example
chosen =
    says "exclude_me" "true" (me (Given true))
    ∷ says "exclude_me" "false" (me (Given false))
    ∷ says "exclude_me" "null" (me Wrong)
    ∷ says "exclude_me" "0" (me Wrong)
    ∷ says "exclude_me" "\"true\"" (me Wrong)
    ∷ says "exclude" "[]" (out (Given []))
    ∷ says "exclude" "[3]" (out (Given (3 ∷ [])))
    ∷ says "exclude" " [ 3 , 4 ] " (out (Given (3 ∷ 4 ∷ [])))
    ∷ says "exclude" "[1,2,3,4,5,6,7,8]" (out (Given (1 ∷ 2 ∷ 3 ∷ 4 ∷ 5 ∷ 6 ∷ 7 ∷ 8 ∷ [])))
    ∷ says "exclude" "[1,2,3,4,5,6,7,8,9]" (out Wrong)
    ∷ says "exclude" "[1,1,1,1,1,1,1,1,1]" (out Wrong)
    ∷ says "exclude" "[9007199254740992]" (out (Given (9007199254740992 ∷ [])))
    ∷ says "exclude" "[9007199254740993]" (out Wrong)
    ∷ says "exclude" "[0]" (out Wrong)
    ∷ says "exclude" "[1.0]" (out Wrong)
    ∷ says "exclude" "[\"1\"]" (out Wrong)
    ∷ says "exclude" "null" (out Wrong)
    ∷ says "exclude" "3" (out Wrong)
    ∷ says "exclude" "{}" (out Wrong)
    ∷ says "eligible" "[]" (only (Given []))
    ∷ says "eligible" "[7,7]" (only (Given (7 ∷ 7 ∷ [])))
    ∷ says "eligible" "[1,2,3,4,5,6,7,8,9]" (only Wrong)
    ∷ says "eligible" "[null]" (only Wrong)
    ∷ says "eligible" "null" (only Wrong)
    ∷ says "exclud\\u0065" "[3]" (out (Given (3 ∷ [])))
    ∷ says "exclude_Me" "false" no_options
    -- all three, and `acknowledge`
    ∷ reads (chars "[16,1,{\"eligible\":[5],\"acknowledge\":true,\"exclude\":[6],\"exclude_me\":false},\"a\"]")
    (Publish 1 true (record { exclude_me = Given false; exclude = Given (6 ∷ []); eligible = Given (5 ∷ []) }) (chars "a") [])
    -- a key that is given twice
    ∷ reads (chars "[16,1,{\"exclude\":[6],\"exclude\":[6]},\"a\"]") Violation
    ∷ []

-- what a case can meet: model/proofs/Facts.antt says why these names stand here, and how a missing one shows
pub all_read : All Reads examples × All Reads spelled × All Reads chosen
unfolding every first_part rest_parts but_last same among filled components_filled valid_text valid_error lead step continues encoding digit unit
    low_at short character undone_after lone_after run past some_digits integer fraction minus signed exponent number hex4 is_escape escape char
    string quoted first next colon literal series enclosed members braced by_first value list dict decimal id_from id_of kind items elements
    outer listed kinds_from member_at pairs members_at value_of sound_in value_in policy_named policy_of match_in sound_match acknowledge_in
    flag_of ids_listed ids_of audience_in
    with_payload hello ending failure publish subscribe call register release yield by_number interpret read
all_read = ((refl, (refl, (refl, (refl, (refl, (refl, (refl, (refl, (refl, (refl, (refl, (refl, (refl, (refl, (refl, (refl, (refl, (refl, (refl, (refl, (refl, (refl, (refl, tt))))))))))))))))))))))), (refl, (refl, (refl, (refl, (refl, (refl, (refl, (refl, (refl, (refl, (refl, (refl, (refl, (refl, (refl, (refl, (refl, (refl, (refl, tt))))))))))))))))))), (refl, (refl, (refl, (refl, (refl, (refl, (refl, (refl, (refl, (refl, (refl, (refl, (refl, (refl, (refl, (refl, (refl, (refl, (refl, (refl, (refl, (refl, (refl, (refl, (refl, (refl, (refl, (refl, tt)))))))))))))))))))))))))))))
