-- The bytes that are sent for a message are a list of its elements (specs/Sent.antt), in either format. Assumes nothing.
use Prim.Native.Nat.{ℕ, ◌≤◌}
use mathlib.Core.List.{List, [], ◌∷◌, ◌++◌, append_assoc, append-nil}
use mathlib.Core.Path.{◌≡◌, refl, sym, ap, ◌∙◌}
use native.Mathlib.Omega.{arith}
use borrow.Author.Tests.{le-ltb}
use Rattle.seq.specs.declared.Format.{Format}
use Rattle.seq.specs.declared.Format.TheVariants.{Json, MsgPack}
use Rattle.seq.specs.Bytes.{chars, Payload}
use Rattle.seq.specs.Lists.{All, joined}
use Rattle.seq.specs.Decimal.{digits, decimal}
use Rattle.seq.proofs.Logic.{split}
use Rattle.strings.specs.Strings.{is_marked, escaped}
use Rattle.values.specs.Write.{spelled, quoted_text, json_scalar, commaed, separated, json_member, json_layer}
use Rattle.values.specs.Write.{pack_str, pack_map, pack_text, pack_scalar, pack_member, pack_layer}
use Rattle.outgoing.specs.Outgoing.{Outgoing, Welcome, Abort, Goodbye, Error, Reply, Published}
use Rattle.outgoing.specs.Outgoing.{Subscribed, Event, Registered, Unsubscribed, Unregistered, Invocation}
use Rattle.outgoing.specs.Outgoing.{Result, Failure, Details, Plain, Names, type_of, quoted, payload_bytes}
use Rattle.outgoing.specs.Outgoing.{detail_bytes, roles, pack_roles, pack_details, json, msgpack, render}
use Rattle.outgoing.specs.Outgoing as Packed
use Rattle.spoken.specs.Parts.{number, string, list, single}
use Rattle.spoken.specs.Sent.{features, naming, elements, Named, Sendable}

-- ---- JSON
-- without control characters a text is written as it is sent
escaped-is : (t : List ℕ) → All (λ b. 0x20 ≤ b) t → escaped t ≡ joined spelled t
unfolding escaped spelled
escaped-is [] a = refl
escaped-is (b ∷ t) a =
    split (is_marked b)
    (λ m. rw m (ap (λ (u : List ℕ). 92 ∷ b ∷ u) (escaped-is t a.1)))
    (λ m. rw (m, le-ltb b 0x20 a.0) (ap (λ (u : List ℕ). b ∷ u) (escaped-is t a.1)))

quoted-is : (t : List ℕ) → All (λ b. 0x20 ≤ b) t → quoted t ≡ string Json t
unfolding json_scalar quoted_text
quoted-is t a = rw (escaped-is t a)

-- the items behind the first, and what follows them
abbrev tail : List (List ℕ) → List ℕ → List ℕ
tail [] z = z
tail (e ∷ es) z = 44 ∷ e ++ tail es z

commaed-tail : (es : List (List ℕ)) (z : List ℕ) → commaed (λ (t : List ℕ). t) es ++ z ≡ tail es z
unfolding commaed
commaed-tail [] z = refl
commaed-tail (e ∷ es) z =
    ap (λ (u : List ℕ). 44 ∷ u)
    (append_assoc e (commaed (λ (t : List ℕ). t) es) z ∙ ap (λ (u : List ℕ). e ++ u) (commaed-tail es z))

payload-tail : (p : Payload) (z : List ℕ) → tail p z ≡ payload_bytes p ++ z
payload-tail [] z = refl
payload-tail (v ∷ p) z =
    ap (λ (u : List ℕ). 44 ∷ u) (ap (λ (u : List ℕ). v ++ u) (payload-tail p z) ∙ sym (append_assoc v (payload_bytes p) z))

list-tail : (e : List ℕ) (es : List (List ℕ)) → list Json (e ∷ es) ≡ 91 ∷ e ++ tail es (93 ∷ [])
unfolding json_layer separated
list-tail e es =
    ap (λ (u : List ℕ). 91 ∷ u)
    (append_assoc e (commaed (λ (t : List ℕ). t) es) (93 ∷ []) ∙ ap (λ (u : List ℕ). e ++ u) (commaed-tail es (93 ∷ [])))

-- a list whose first element is this number, in digits
list-is : (n : ℕ) (c : List ℕ) → decimal n ≡ c → (es : List (List ℕ)) → list Json (number Json n ∷ es) ≡ 91 ∷ c ++ tail es (93 ∷ [])
unfolding json_scalar
list-is n c e es = list-tail (decimal n) es ∙ ap (λ (u : List ℕ). 91 ∷ u ++ tail es (93 ∷ [])) e

-- the numbers of messages and of requests, in digits
two : decimal 2 ≡ chars "2"
unfolding decimal digits
two = refl

three : decimal 3 ≡ chars "3"
unfolding decimal digits
three = refl

six : decimal 6 ≡ chars "6"
unfolding decimal digits
six = refl

eight : decimal 8 ≡ chars "8"
unfolding decimal digits
eight = refl

seventeen : decimal 17 ≡ chars "17"
unfolding decimal digits
seventeen = refl

thirty-three : decimal 33 ≡ chars "33"
unfolding decimal digits
thirty-three = refl

thirty-five : decimal 35 ≡ chars "35"
unfolding decimal digits
thirty-five = refl

thirty-six : decimal 36 ≡ chars "36"
unfolding decimal digits
thirty-six = refl

forty-eight : decimal 48 ≡ chars "48"
unfolding decimal digits
forty-eight = refl

fifty : decimal 50 ≡ chars "50"
unfolding decimal digits
fifty = refl

sixty-five : decimal 65 ≡ chars "65"
unfolding decimal digits
sixty-five = refl

sixty-seven : decimal 67 ≡ chars "67"
unfolding decimal digits
sixty-seven = refl

sixty-eight : decimal 68 ≡ chars "68"
unfolding decimal digits
sixty-eight = refl

-- ---- dicts
features-are : roles ≡ features Json
unfolding spelled quoted_text json_scalar commaed separated json_member json_layer
features-are = refl

topic-clean : All (λ b. 0x20 ≤ b) (chars "topic")
topic-clean = (omega arith, (omega arith, (omega arith, (omega arith, (omega arith, tt)))))

procedure-clean : All (λ b. 0x20 ≤ b) (chars "procedure")
procedure-clean =
    (omega arith, (omega arith, (omega arith, (omega arith, (omega arith, (omega arith, (omega arith, (omega arith, (omega arith, tt)))))))))

single-is : (k v : List ℕ) → chars "{" ++ (k ++ (chars ":" ++ (v ++ chars "}"))) ≡ 123 ∷ ((k ++ 58 ∷ v) ++ []) ++ (125 ∷ [])
single-is k v =
    ap (λ (u : List ℕ). 123 ∷ u)
    (sym (append_assoc k (58 ∷ v) (125 ∷ [])) ∙ ap (λ (u : List ℕ). u ++ (125 ∷ [])) (sym (append-nil (k ++ 58 ∷ v))))

details-are : (key : List ℕ) → All (λ b. 0x20 ≤ b) key → (d : Details) → Named Json d → detail_bytes key d ≡ naming Json key d
unfolding commaed separated json_member json_layer json_scalar
details-are key a Plain n = refl
details-are key a (Names uri) n =
    ap (λ (u : List ℕ). chars "{" ++ (u ++ (chars ":" ++ (quoted uri ++ chars "}")))) (quoted-is key a)
    ∙ ap (λ (u : List ℕ). chars "{" ++ (string Json key ++ (chars ":" ++ (u ++ chars "}")))) (quoted-is uri n.1)
    ∙ single-is (quoted_text key) (quoted_text uri)

-- ---- messages
-- [Number,ID,ID,Details,P]
relayed-is : (n : ℕ) (c : List ℕ) → decimal n ≡ c → (key : List ℕ) → All (λ b. 0x20 ≤ b) key → (x y : ℕ) (d : Details) (p : Payload) → Named Json d
    → 91 ∷ c ++ (44 ∷ decimal x ++ (44 ∷ decimal y ++ (44 ∷ detail_bytes key d ++ (payload_bytes p ++ (93 ∷ [])))))
    ≡ list Json (number Json n ∷ number Json x ∷ number Json y ∷ naming Json key d ∷ p)
unfolding json_scalar
relayed-is n c e key a x y d p g =
    let front : List ℕ → List ℕ = λ u. 91 ∷ c ++ (44 ∷ decimal x ++ (44 ∷ decimal y ++ (44 ∷ u))) in
    ap (λ (u : List ℕ). front (u ++ (payload_bytes p ++ (93 ∷ [])))) (details-are key a d g)
    ∙ ap (λ (u : List ℕ). front (naming Json key d ++ u)) (sym (payload-tail p (93 ∷ []))) ∙ sym (list-is n c e _)

json-is : (m : Outgoing) → Sendable Json m → json m ≡ list Json (elements Json m)
unfolding json json_scalar json_layer separated
json-is (Welcome session) w =
    ap (λ (u : List ℕ). chars "[2," ++ (decimal session ++ (chars "," ++ (u ++ chars "]")))) features-are ∙ sym (list-is 2 (chars "2") two _)
json-is (Abort reason) w =
    ap (λ (u : List ℕ). chars "[3,{}," ++ (u ++ chars "]")) (quoted-is reason w.1) ∙ sym (list-is 3 (chars "3") three _)
json-is (Goodbye reason) w =
    ap (λ (u : List ℕ). chars "[6,{}," ++ (u ++ chars "]")) (quoted-is reason w.1) ∙ sym (list-is 6 (chars "6") six _)
json-is (Error type request uri) w =
    ap (λ (u : List ℕ). chars "[8," ++ (decimal (type_of type) ++ (chars "," ++ (decimal request ++ (chars ",{}," ++ (u ++ chars "]"))))))
    (quoted-is uri w.1.1) ∙ sym (list-is 8 (chars "8") eight _)
json-is (Reply request (Result p)) w =
    ap (λ (u : List ℕ). chars "[50," ++ (decimal request ++ (chars ",{}" ++ u))) (sym (payload-tail p (93 ∷ [])))
    ∙ sym (list-is 50 (chars "50") fifty _)
json-is (Reply request (Failure uri p)) w =
    ap (λ (u : List ℕ). chars "[8,48," ++ (decimal request ++ (chars ",{}," ++ (u ++ (payload_bytes p ++ chars "]"))))) (quoted-is uri w.1.1)
    ∙ ap (λ (u : List ℕ). chars "[8,48," ++ (decimal request ++ (chars ",{}," ++ (string Json uri ++ u)))) (sym (payload-tail p (93 ∷ [])))
    ∙ ap (λ (u : List ℕ). chars "[8," ++ (u ++ (chars "," ++ (decimal request ++ (chars ",{}," ++ (string Json uri ++ tail p (93 ∷ [])))))))
    (sym forty-eight)
    ∙ sym (list-is 8 (chars "8") eight _)
json-is (Published request publication) w = sym (list-is 17 (chars "17") seventeen _)
json-is (Subscribed request subscription) w = sym (list-is 33 (chars "33") thirty-three _)
json-is (Unsubscribed request) w = sym (list-is 35 (chars "35") thirty-five _)
json-is (Event subscription publication details p) w =
    relayed-is 36 (chars "36") thirty-six (chars "topic") topic-clean subscription publication details p w.2
json-is (Registered request registration) w = sym (list-is 65 (chars "65") sixty-five _)
json-is (Unregistered request) w = sym (list-is 67 (chars "67") sixty-seven _)
json-is (Invocation invocation registration details p) w =
    relayed-is 68 (chars "68") sixty-eight (chars "procedure") procedure-clean invocation registration details p w.2

-- ---- MessagePack
pack-single : (key v : List ℕ) → Packed.single key v ≡ single MsgPack key v
unfolding pack_map pack_member pack_layer
pack-single key v = ap (λ (u : List ℕ). 0x81 ∷ u) (sym (append_assoc (pack_text key) v []))

pack-features : pack_roles ≡ features MsgPack
unfolding pack_str pack_map pack_text pack_scalar pack_member pack_layer
pack-features = refl

pack-details : (key : List ℕ) (d : Details) → pack_details key d ≡ naming MsgPack key d
unfolding pack_map pack_layer pack_scalar
pack-details key Plain = refl
pack-details key (Names uri) = pack-single key (pack_text uri)

pack-is : (m : Outgoing) → msgpack m ≡ list MsgPack (elements MsgPack m)
unfolding msgpack pack_map pack_scalar pack_layer
pack-is (Welcome session) = ap (λ (u : List ℕ). list MsgPack (number MsgPack 2 ∷ number MsgPack session ∷ u ∷ [])) pack-features
pack-is (Abort reason) = refl
pack-is (Goodbye reason) = refl
pack-is (Error type request uri) = refl
pack-is (Reply request (Result p)) = refl
pack-is (Reply request (Failure uri p)) = refl
pack-is (Published request publication) = refl
pack-is (Subscribed request subscription) = refl
pack-is (Unsubscribed request) = refl
pack-is (Event subscription publication details p) =
    ap (λ (u : List ℕ). list MsgPack (number MsgPack 36 ∷ number MsgPack subscription ∷ number MsgPack publication ∷ u ∷ p))
    (pack-details (chars "topic") details)
pack-is (Registered request registration) = refl
pack-is (Unregistered request) = refl
pack-is (Invocation invocation registration details p) =
    ap (λ (u : List ℕ). list MsgPack (number MsgPack 68 ∷ number MsgPack invocation ∷ number MsgPack registration ∷ u ∷ p))
    (pack-details (chars "procedure") details)

-- ---- both
pub render-is : (f : Format) (m : Outgoing) → Sendable f m → render f m ≡ list f (elements f m)
unfolding render
render-is Json m w = json-is m w
render-is MsgPack m w = pack-is m
