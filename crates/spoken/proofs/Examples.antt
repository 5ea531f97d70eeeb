-- A message of each kind as a client writes it, in both formats, byte for byte. Assumes nothing.
use Rattle.std.specs.Prelude.{Some, None}
use Prim.Native.Nat.{ℕ, ◌+◌}
use Prim.Native.String.{String}
use mathlib.Core.Bool.{Bool, true, false}
use mathlib.Core.List.{List, [], ◌∷◌, ◌++◌}
use mathlib.Core.Path.{◌≡◌, refl}
use lib.ListN.{length}
use Rattle.seq.specs.declared.Format.TheVariants.{Json, MsgPack}
use Rattle.seq.specs.Bytes.{chars}
use Rattle.seq.specs.Lists.{All, joined}
use Rattle.seq.specs.Decimal.{digits, decimal}
use Rattle.uri.specs.declared.Policy.TheVariants.{Exact, Prefix, Wildcard}
use Rattle.values.specs.Write.{hex_digit, spelled, quoted_text, json_scalar, commaed, separated, json_member, json_layer}
use Rattle.values.specs.Write.{wide, pack_whole, pack_str, pack_array, pack_map, pack_text, pack_scalar, pack_member, pack_layer}
use Rattle.options.specs.Audience.{OptionValue, Absent, Wrong, Given, Audience, no_options}
use Rattle.incoming.specs.Incoming.{Incoming, Hello, Abort, Goodbye, Error, Publish, Subscribe, Unsubscribe, Call, Register, Unregister}
use Rattle.incoming.specs.Incoming.{Yield}
use Rattle.spoken.specs.Written.{written}

-- a message and its bytes
pub record Example : Type 0 where
  pub message : Incoming
  pub bytes : List ℕ

abbrev is : Incoming → List ℕ → Example
is message bytes = record { message = message; bytes = bytes }

abbrev reason : List ℕ
reason = chars "wamp.close.normal"

-- the options that choose the receivers: `exclude_me`, `exclude`, `eligible`
abbrev to : OptionValue Bool → OptionValue (List ℕ) → OptionValue (List ℕ) → Audience
to me exclude eligible = record { exclude_me = me; exclude = exclude; eligible = eligible }

-- ---- JSON
abbrev InJson : Example → Type 0
InJson e = written Json reason e.message ≡ e.bytes

abbrev texts : List Example
texts =
    is (Hello (chars "hub.bus")) (chars "[1,\"hub.bus\",{\"roles\":{\"caller\":{},\"callee\":{},\"publisher\":{},\"subscriber\":{}}}]")
    ∷ is Abort (chars "[3,{},\"wamp.close.normal\"]")
    ∷ is Goodbye (chars "[6,{},\"wamp.close.normal\"]")
    ∷ is (Error 2 (chars "hub.error.held") (chars "[1]" ∷ chars "{\"a\":null}" ∷ [])) (chars "[8,68,2,{},\"hub.error.held\",[1],{\"a\":null}]")
    ∷ is (Publish 1 true no_options (chars "hub.sheet") []) (chars "[16,1,{\"acknowledge\":true},\"hub.sheet\"]")
    ∷ is (Publish 1 false no_options (chars "hub.sheet") (chars "[ 7 ]" ∷ [])) (chars "[16,1,{},\"hub.sheet\",[ 7 ]]")
    ∷ is (Publish 1 false (to (Given false) Absent Absent) (chars "a") []) (chars "[16,1,{\"exclude_me\":false},\"a\"]")
    ∷ is (Publish 1 false (to Absent (Given (3 ∷ 9007199254740992 ∷ [])) Absent) (chars "a") [])
    (chars "[16,1,{\"exclude\":[3,9007199254740992]},\"a\"]")
    ∷ is (Publish 1 false (to Absent Absent (Given (7 ∷ 3 ∷ 7 ∷ []))) (chars "a") []) (chars "[16,1,{\"eligible\":[7,3,7]},\"a\"]")
    ∷ is (Publish 1 false (to Absent Absent (Given [])) (chars "a") []) (chars "[16,1,{\"eligible\":[]},\"a\"]")
    ∷ is (Publish 1 true (to (Given true) (Given (3 ∷ [])) (Given (7 ∷ 9 ∷ []))) (chars "a") [])
    (chars "[16,1,{\"acknowledge\":true,\"exclude_me\":true,\"exclude\":[3],\"eligible\":[7,9]},\"a\"]")
    ∷ is (Publish 1 true (to Wrong Absent (Given (7 ∷ []))) (chars "a") [])
    (chars "[16,1,{\"acknowledge\":true,\"exclude_me\":null,\"eligible\":[7]},\"a\"]")
    ∷ is (Publish 1 false (to Absent Wrong Wrong) (chars "a") []) (chars "[16,1,{\"exclude\":null,\"eligible\":null},\"a\"]")
    ∷ is (Subscribe 3 (Some Exact) (chars "hub.sheet")) (chars "[32,3,{},\"hub.sheet\"]")
    ∷ is (Subscribe 3 (Some Wildcard) (chars "hub..x")) (chars "[32,3,{\"match\":\"wildcard\"},\"hub..x\"]")
    ∷ is (Unsubscribe 4 1) (chars "[34,4,1]")
    ∷ is (Call 1 (chars "a\"b\\c") (chars "[\"D17\"]" ∷ [])) (chars "[48,1,{},\"a\\\"b\\\\c\",[\"D17\"]]")
    ∷ is (Call 1 (0x1f ∷ 0xc3 ∷ 0xa9 ∷ []) []) (chars "[48,1,{},\"\\u001f" ++ (0xc3 ∷ 0xa9 ∷ chars "\"]"))
    ∷ is (Register 1 (Some Prefix) (chars "hub.donor")) (chars "[64,1,{\"match\":\"prefix\"},\"hub.donor\"]")
    ∷ is (Register 1 None (chars "hub.donor")) (chars "[64,1,{\"match\":null},\"hub.donor\"]")
    ∷ is (Unregister 9007199254740992 7) (chars "[66,9007199254740992,7]")
    ∷ is (Yield 1 (chars "[\"held\"]" ∷ [])) (chars "[70,1,{},[\"held\"]]")
    ∷ is (Yield 2 []) (chars "[70,2,{}]")
    ∷ []

pub in-json : All InJson texts
unfolding written digits decimal hex_digit spelled quoted_text json_scalar commaed separated json_member json_layer
in-json = (refl, (refl, (refl, (refl, (refl, (refl, (refl, (refl, (refl, (refl, (refl, (refl, (refl, (refl, (refl, (refl, (refl, (refl, (refl, (refl, (refl, (refl, (refl, tt)))))))))))))))))))))))

-- ---- MessagePack
abbrev InPack : Example → Type 0
InPack e = written MsgPack reason e.message ≡ e.bytes

-- a fixstr, a fixmap of one pair, and a first byte before these parts
abbrev text : String → List ℕ
text t = (0xa0 + length (chars t)) ∷ chars t

abbrev pair : List ℕ → List ℕ → List ℕ
pair key value = 0x81 ∷ key ++ value

abbrev row : ℕ → List (List ℕ) → List ℕ
row head parts = head ∷ joined (λ (t : List ℕ). t) parts

abbrev bytes : ℕ → List ℕ
bytes b = b ∷ []

abbrev client : List ℕ
client =
    pair (text "roles")
    (row 0x84
    (text "caller" ∷ bytes 0x80 ∷ text "callee" ∷ bytes 0x80 ∷ text "publisher" ∷ bytes 0x80 ∷ text "subscriber" ∷ bytes 0x80 ∷ []))

abbrev packs : List Example
packs =
    is (Hello (chars "hub.bus")) (row 0x93 (bytes 1 ∷ text "hub.bus" ∷ client ∷ []))
    ∷ is Abort (row 0x93 (bytes 3 ∷ bytes 0x80 ∷ text "wamp.close.normal" ∷ []))
    ∷ is Goodbye (row 0x93 (bytes 6 ∷ bytes 0x80 ∷ text "wamp.close.normal" ∷ []))
    ∷ is (Error 2 (chars "hub.error.held") ((0x91 ∷ 1 ∷ []) ∷ pair (text "a") (bytes 0xc0) ∷ []))
    (row 0x97 (bytes 8 ∷ bytes 68 ∷ bytes 2 ∷ bytes 0x80 ∷ text "hub.error.held" ∷ (0x91 ∷ 1 ∷ []) ∷ pair (text "a") (bytes 0xc0) ∷ []))
    ∷ is (Publish 1 true no_options (chars "hub.sheet") [])
    (row 0x94 (bytes 16 ∷ bytes 1 ∷ pair (text "acknowledge") (bytes 0xc3) ∷ text "hub.sheet" ∷ []))
    ∷ is (Publish 1 false no_options (chars "hub.sheet") (bytes 0x90 ∷ []))
    (row 0x95 (bytes 16 ∷ bytes 1 ∷ bytes 0x80 ∷ text "hub.sheet" ∷ bytes 0x90 ∷ []))
    ∷ is (Publish 1 false (to (Given false) Absent Absent) (chars "a") [])
    (row 0x94 (bytes 16 ∷ bytes 1 ∷ pair (text "exclude_me") (bytes 0xc2) ∷ text "a" ∷ []))
    ∷ is (Publish 1 false (to Absent (Given (3 ∷ 300 ∷ [])) Absent) (chars "a") [])
    (row 0x94 (bytes 16 ∷ bytes 1 ∷ pair (text "exclude") (0x92 ∷ 3 ∷ 0xcd ∷ 1 ∷ 44 ∷ []) ∷ text "a" ∷ []))
    ∷ is (Publish 1 false (to Absent Absent (Given (7 ∷ 3 ∷ 7 ∷ []))) (chars "a") [])
    (row 0x94 (bytes 16 ∷ bytes 1 ∷ pair (text "eligible") (0x93 ∷ 7 ∷ 3 ∷ 7 ∷ []) ∷ text "a" ∷ []))
    ∷ is (Publish 1 false (to Absent Absent (Given [])) (chars "a") [])
    (row 0x94 (bytes 16 ∷ bytes 1 ∷ pair (text "eligible") (bytes 0x90) ∷ text "a" ∷ []))
    ∷ is (Publish 1 true (to (Given true) (Given (3 ∷ [])) (Given (7 ∷ 9 ∷ []))) (chars "a") [])
    (row 0x94
    (bytes 16
    ∷ bytes 1
    ∷ row 0x84
    (text "acknowledge" ∷ bytes 0xc3 ∷ text "exclude_me" ∷ bytes 0xc3
    ∷ text "exclude" ∷ (0x91 ∷ 3 ∷ []) ∷ text "eligible" ∷ (0x92 ∷ 7 ∷ 9 ∷ []) ∷ [])
    ∷ text "a"
    ∷ []))
    ∷ is (Publish 1 true (to Wrong Absent (Given (7 ∷ []))) (chars "a") [])
    (row 0x94
    (bytes 16
    ∷ bytes 1
    ∷ row 0x83 (text "acknowledge" ∷ bytes 0xc3 ∷ text "exclude_me" ∷ bytes 0xc0 ∷ text "eligible" ∷ (0x91 ∷ 7 ∷ []) ∷ [])
    ∷ text "a"
    ∷ []))
    ∷ is (Publish 1 false (to Absent Wrong Wrong) (chars "a") [])
    (row 0x94
    (bytes 16 ∷ bytes 1 ∷ row 0x82 (text "exclude" ∷ bytes 0xc0 ∷ text "eligible" ∷ bytes 0xc0 ∷ []) ∷ text "a" ∷ []))
    ∷ is (Subscribe 3 (Some Exact) (chars "hub.sheet")) (row 0x94 (bytes 32 ∷ bytes 3 ∷ bytes 0x80 ∷ text "hub.sheet" ∷ []))
    ∷ is (Subscribe 3 (Some Wildcard) (chars "hub..x")) (row 0x94 (bytes 32 ∷ bytes 3 ∷ pair (text "match") (text "wildcard") ∷ text "hub..x" ∷ []))
    ∷ is (Unsubscribe 4 1) (row 0x93 (bytes 34 ∷ bytes 4 ∷ bytes 1 ∷ []))
    ∷ is (Call 200 (chars "a\"b\\c") []) (row 0x94 (bytes 48 ∷ (0xcc ∷ 200 ∷ []) ∷ bytes 0x80 ∷ text "a\"b\\c" ∷ []))
    ∷ is (Register 1 (Some Prefix) (chars "hub.donor")) (row 0x94 (bytes 64 ∷ bytes 1 ∷ pair (text "match") (text "prefix") ∷ text "hub.donor" ∷ []))
    ∷ is (Register 1 None (chars "hub.donor")) (row 0x94 (bytes 64 ∷ bytes 1 ∷ pair (text "match") (bytes 0xc0) ∷ text "hub.donor" ∷ []))
    ∷ is (Unregister 9007199254740992 300) (row 0x93 (bytes 66 ∷ (0xcf ∷ 0 ∷ 0x20 ∷ 0 ∷ 0 ∷ 0 ∷ 0 ∷ 0 ∷ 0 ∷ []) ∷ (0xcd ∷ 1 ∷ 44 ∷ []) ∷ []))
    ∷ is (Yield 70000 []) (row 0x93 (bytes 70 ∷ (0xce ∷ 0 ∷ 1 ∷ 0x11 ∷ 0x70 ∷ []) ∷ bytes 0x80 ∷ []))
    ∷ []

pub in-pack : All InPack packs
unfolding written wide pack_whole pack_str pack_array pack_map pack_text pack_scalar pack_member pack_layer
in-pack = (refl, (refl, (refl, (refl, (refl, (refl, (refl, (refl, (refl, (refl, (refl, (refl, (refl, (refl, (refl, (refl, (refl, (refl, (refl, (refl, (refl, tt)))))))))))))))))))))
