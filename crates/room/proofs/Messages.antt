-- How long the messages sent are, in either format, by the lengths of their texts and payloads. Assumes nothing.
use Prim.Native.Nat.{ℕ, ◌+◌, ◌*◌, ◌≤◌}
use mathlib.Core.List.{List, [], ◌∷◌}
use mathlib.Core.Path.{◌≡◌, refl}
use native.Mathlib.Omega.{arith}
use lib.Dec.{ltb}
use lib.ListN.{length, length-append}
use borrow.Author.Tests.{lt-ltb}
use Rattle.seq.specs.declared.Format.{Format}
use Rattle.seq.specs.declared.Format.TheVariants.{Json, MsgPack}
use Rattle.seq.specs.Bytes.{chars, Payload}
use Rattle.seq.proofs.Logic.{split}
use Rattle.seq.proofs.Digits.{length-decimal}
use Rattle.uri.specs.Uri.{longest}
use Rattle.strings.specs.Strings.{escaped}
use Rattle.strings.proofs.Written.{escaped-twice}
use Rattle.values.specs.Write.{pack_whole, pack_text, pack_str, pack_array, pack_map, pack_scalar}
use Rattle.values.proofs.PackLengths.{wide-length, whole-nine, array-length, map-length}
use Rattle.outgoing.specs.Outgoing.{Answer, Result, Failure, Details, Plain, Names, Outgoing, Welcome, Abort, Goodbye, Error, Reply, Published, Subscribed, Event, Registered, Unsubscribed, Unregistered, Invocation, type_of, concat, payload_bytes, json, array, pack_details, pack_roles, msgpack, render}
use Rattle.outgoing.specs.Outgoing.{uri_text}
use Rattle.outgoing.specs.declared.Uri.TheVariants as Uri
use Rattle.model.specs.Step.{canceled}
use Rattle.room.specs.Enough.{most_written}
use Rattle.room.proofs.Payloads.{size, size-joined, Short, most_payload}

-- ---- the parts that a message's length goes by: URIs that keep their rule, payloads as they are sent
abbrev pub ShortAnswer : Answer → Type 0
ShortAnswer (Result p) = Short most_payload p
ShortAnswer (Failure uri p) = (length uri ≤ longest) × Short most_payload p

abbrev pub ShortDetails : Details → Type 0
ShortDetails Plain = Unit {0}
ShortDetails (Names uri) = length uri ≤ longest

abbrev pub ShortParts : Outgoing → Type 0
ShortParts (Welcome n) = Unit {0}
ShortParts (Abort reason) = length reason ≤ longest
ShortParts (Goodbye reason) = length reason ≤ longest
ShortParts (Error r n uri) = length uri ≤ longest
ShortParts (Reply n a) = ShortAnswer a
ShortParts (Published n k) = Unit {0}
ShortParts (Subscribed n k) = Unit {0}
ShortParts (Event n k d p) = ShortDetails d × Short most_payload p
ShortParts (Registered n k) = Unit {0}
ShortParts (Unsubscribed n) = Unit {0}
ShortParts (Unregistered n) = Unit {0}
ShortParts (Invocation n k d p) = ShortDetails d × Short most_payload p

-- ---- JSON
-- a text that keeps its rule, as it is written
written-short : (t : List ℕ) → length t ≤ longest → length (escaped t) ≤ most_written
written-short t l = omega (arith, escaped-twice t)

-- a comma before each value
payload-size : (p : Payload) → length (payload_bytes p) ≡ size p + length p
payload-size [] = refl
payload-size (v ∷ p) = let n = length-append v (payload_bytes p) in let r = payload-size p in omega arith

-- the most bytes of a message
abbrev pub most_message : ℕ
most_message = 12603

json-short : (m : Outgoing) → ShortParts m → length (json m) ≤ most_message
unfolding json escaped
json-short (Welcome n) s = simp length-append (omega (arith, length-decimal n))
json-short (Abort reason) s = simp length-append (omega (arith, written-short reason s))
json-short (Goodbye reason) s = simp length-append (omega (arith, written-short reason s))
json-short (Error r n uri) s = simp length-append (omega (arith, length-decimal n, length-decimal (type_of r), written-short uri s))
json-short (Reply n (Result p)) (a, b) = let k = payload-size p in simp length-append (omega (arith, length-decimal n))
json-short (Reply n (Failure uri p)) (l, (a, b)) =
    let k = payload-size p in simp length-append (omega (arith, length-decimal n, written-short uri l))
json-short (Published n k) s = simp length-append (omega (arith, length-decimal n, length-decimal k))
json-short (Subscribed n k) s = simp length-append (omega (arith, length-decimal n, length-decimal k))
json-short (Event n k Plain p) (l, (a, b)) =
    let o = payload-size p in simp length-append (omega (arith, length-decimal n, length-decimal k))
json-short (Event n k (Names uri) p) (l, (a, b)) =
    let o = payload-size p in simp length-append (omega (arith, length-decimal n, length-decimal k, written-short uri l))
json-short (Registered n k) s = simp length-append (omega (arith, length-decimal n, length-decimal k))
json-short (Unsubscribed n) s = simp length-append (omega (arith, length-decimal n))
json-short (Unregistered n) s = simp length-append (omega (arith, length-decimal n))
json-short (Invocation n k Plain p) (l, (a, b)) =
    let o = payload-size p in simp length-append (omega (arith, length-decimal n, length-decimal k))
json-short (Invocation n k (Names uri) p) (l, (a, b)) =
    let o = payload-size p in simp length-append (omega (arith, length-decimal n, length-decimal k, written-short uri l))

-- ---- MessagePack
-- a text that keeps its rule has a head of two bytes at most
text-short : (t : List ℕ) → length t ≤ longest → length (pack_text t) ≤ length t + 2
unfolding pack_text pack_str
text-short t l =
    let n = length t in
    let a = wide-length 1 n in
    split (ltb n 0x20) (λ k. rw k (omega arith)) (λ k. rw (k, lt-ltb n 0x100 (omega arith)) (simp length-append (omega arith)))

array-short : (es : List (List ℕ)) → length (array es) ≤ 2 * length es + 2 + size es
array-short es = let l = length-append (pack_array (length es)) (concat es) in let m = size-joined es in omega (arith, array-length (length es))

details-short : (key : List ℕ) (d : Details) → length key ≤ 9 → ShortDetails d → length (pack_details key d) ≤ 145
details-short key Plain k s = omega (arith, map-length 0)
details-short key (Names uri) k s =
    let m = size-joined (pack_map 1 ∷ pack_text key ∷ pack_text uri ∷ []) in
    omega (arith, map-length 1, text-short key (omega arith), text-short uri s)

roles-short : length pack_roles ≤ 200
unfolding pack_text pack_str pack_map pack_scalar
roles-short = omega arith

pack-short : (m : Outgoing) → ShortParts m → length (msgpack m) ≤ most_message
unfolding msgpack
pack-short (Welcome n) s = omega (arith, array-short (pack_whole 2 ∷ pack_whole n ∷ pack_roles ∷ []), whole-nine 2, whole-nine n, roles-short)
pack-short (Abort reason) s = omega (arith, array-short (pack_whole 3 ∷ pack_map 0 ∷ pack_text reason ∷ []), whole-nine 3, map-length 0, text-short reason s)
pack-short (Goodbye reason) s = omega (arith, array-short (pack_whole 6 ∷ pack_map 0 ∷ pack_text reason ∷ []), whole-nine 6, map-length 0, text-short reason s)
pack-short (Error r n uri) s =
    omega (
      arith,
      array-short (pack_whole 8 ∷ pack_whole (type_of r) ∷ pack_whole n ∷ pack_map 0 ∷ pack_text uri ∷ []),
      whole-nine 8,
      whole-nine (type_of r),
      whole-nine n,
      map-length 0,
      text-short uri s,
    )
pack-short (Reply n (Result p)) (a, b) =
    omega (arith, array-short (pack_whole 50 ∷ pack_whole n ∷ pack_map 0 ∷ p), whole-nine 50, whole-nine n, map-length 0)
pack-short (Reply n (Failure uri p)) (l, (a, b)) =
    omega (
      arith,
      array-short (pack_whole 8 ∷ pack_whole 48 ∷ pack_whole n ∷ pack_map 0 ∷ pack_text uri ∷ p),
      whole-nine 8,
      whole-nine 48,
      whole-nine n,
      map-length 0,
      text-short uri l,
    )
pack-short (Published n k) s = omega (arith, array-short (pack_whole 17 ∷ pack_whole n ∷ pack_whole k ∷ []), whole-nine 17, whole-nine n, whole-nine k)
pack-short (Subscribed n k) s = omega (arith, array-short (pack_whole 33 ∷ pack_whole n ∷ pack_whole k ∷ []), whole-nine 33, whole-nine n, whole-nine k)
pack-short (Event n k d p) (l, (a, b)) =
    let e = details-short (chars "topic") d (omega arith) l in
    omega (
      arith,
      array-short (pack_whole 36 ∷ pack_whole n ∷ pack_whole k ∷ pack_details (chars "topic") d ∷ p),
      whole-nine 36,
      whole-nine n,
      whole-nine k,
    )
pack-short (Registered n k) s = omega (arith, array-short (pack_whole 65 ∷ pack_whole n ∷ pack_whole k ∷ []), whole-nine 65, whole-nine n, whole-nine k)
pack-short (Unsubscribed n) s = omega (arith, array-short (pack_whole 35 ∷ pack_whole n ∷ []), whole-nine 35, whole-nine n)
pack-short (Unregistered n) s = omega (arith, array-short (pack_whole 67 ∷ pack_whole n ∷ []), whole-nine 67, whole-nine n)
pack-short (Invocation n k d p) (l, (a, b)) =
    let e = details-short (chars "procedure") d (omega arith) l in
    omega (
      arith,
      array-short (pack_whole 68 ∷ pack_whole n ∷ pack_whole k ∷ pack_details (chars "procedure") d ∷ p),
      whole-nine 68,
      whole-nine n,
      whole-nine k,
    )

-- ---- both
-- an event by its payload, of a list and a dict at most
abbrev pub around_event : ℕ
around_event = 321

pub event-short : (f : Format) (n k : ℕ) (d : Details) (p : Payload) → ShortDetails d → length p ≤ 2
    → length (render f (Event n k d p)) ≤ size p + around_event
unfolding render json msgpack escaped
event-short Json n k Plain p s l = let o = payload-size p in simp length-append (omega (arith, length-decimal n, length-decimal k))
event-short Json n k (Names uri) p s l =
    let o = payload-size p in simp length-append (omega (arith, length-decimal n, length-decimal k, written-short uri s))
event-short MsgPack n k d p s l =
    let e = details-short (chars "topic") d (omega arith) s in
    omega (
      arith,
      array-short (pack_whole 36 ∷ pack_whole n ∷ pack_whole k ∷ pack_details (chars "topic") d ∷ p),
      whole-nine 36,
      whole-nine n,
      whole-nine k,
    )

pub message-short : (f : Format) (m : Outgoing) → ShortParts m → length (render f m) ≤ most_message
unfolding render
message-short Json m s = json-short m s
message-short MsgPack m s = pack-short m s

-- a canceled reply, of which a session's end may send many
pub canceled-short : (f : Format) (n : ℕ) → length (render f (Reply n canceled)) ≤ 52
unfolding escaped render json msgpack pack_text pack_str pack_array pack_map
canceled-short Json n = simp length-append (omega (arith, length-decimal n))
canceled-short MsgPack n = simp length-append (omega (arith, whole-nine 8, whole-nine 48, whole-nine n))

-- and its own last message
pub farewell-short : (f : Format) → (length (render f (Goodbye (uri_text Uri.GoodbyeAndOut))) ≤ 57) × (length (render f (Abort (uri_text Uri.ProtocolViolation))) ≤ 57)
unfolding render json msgpack escaped pack_text pack_str pack_array pack_map pack_whole
farewell-short Json = (omega arith, omega arith)
farewell-short MsgPack = (omega arith, omega arith)
