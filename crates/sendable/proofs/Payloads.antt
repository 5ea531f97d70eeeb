-- A payload that was read is one that can be sent in its format, and what it is converted to is one of the other format: a list is converted to a
-- list, a dict to a dict, and what is written is UTF-8 or bytes. Assumes nothing.
use Prim.Native.Nat.{ℕ, zero, suc, ◌+◌}
use mathlib.Core.Bool.{Bool, true, false, cond}
use mathlib.Core.List.{List, [], ◌∷◌}
use mathlib.Core.Logic.{inl, inr}
use mathlib.Core.Path.{◌≡◌, refl, ap, subst}
use native.Mathlib.Omega.{arith}
use borrow.Author.Tests.{eqb-true}
use lib.Dec.{eqb}
use lib.ListN.{length}
use Rattle.seq.specs.declared.Format.{Format}
use Rattle.seq.specs.declared.Format.TheVariants.{Json, MsgPack}
use Rattle.seq.specs.Bytes.{Payload, byte_at}
use Rattle.seq.specs.Lists.{All, Both}
use Rattle.seq.proofs.Rules.{all_map}
use Rattle.utf8.specs.Table.{Encoded}
use Rattle.utf8.proofs.Table.{utf8-table}
use Rattle.lex.specs.Lex.{close_list, close_dict}
use Rattle.lex.proofs.Stands.{reads_all}
use Rattle.json_text.proofs.Grammar.{value_found}
use Rattle.elements.specs.Kinds.{kind, id_of, an_id, a_string, a_list, a_dict, another}
use Rattle.elements.specs.Elements.{inner_depth}
use Rattle.msgpack.specs.Head.{head_at, str, array, map}
use Rattle.msgpack.proofs.Grammar.{packed-value}
use Rattle.arrays.specs.Arrays as Arrays
use Rattle.values.specs.Value.{Scalar, Layer, Member, Value, GoodMember, Good}
use Rattle.values.specs.Value.Layer.{Plain, Items, Members}
use Rattle.values.specs.Read.{Read, made}
use Rattle.values.specs.Read.Read.{Gives, Not}
use Rattle.values.specs.Write.{json_layer, pack_layer, write}
use Rattle.values.specs.Stands.{enclosed, json_member_at, json_scalar_at, json_layer_at, items, pack_member_at, pack_scalar_at, pack_layer_at, stands}
use Rattle.values.specs.Whole.{Whole}
use Rattle.values.proofs.Both.{written_back, written_over}
use Rattle.values.proofs.Good.{good}
use Rattle.conversion.specs.Converts.{convert}
use Rattle.conversion.specs.Carried as Conversion
use Rattle.conversion.specs.Carried.{As, NotConvertible, ahead, converted, carried}
use Rattle.incoming.specs.Shapes.{IsPayload, IsList, Dict}
use Rattle.incoming.proofs.Laws.{kind_by, Element}
use Rattle.spoken.specs.Parts.{Formed, Carried}
use Rattle.spoken.proofs.Utf8.{list-encoded, dict-encoded}
use Rattle.spoken.proofs.PackBytes.{Bytes, list-bytes, dict-bytes}
use Rattle.spoken.proofs.Parts.{writing, reads}

-- ---- what is written is UTF-8, or bytes
-- the members of a dict, by what holds of their values
members-formed : {A : Type 0} (P Q : A → Type 0) → ((v : A) → P v → Q v) → (ms : List (Member A)) → All (GoodMember P) ms → All (GoodMember Q) ms
members-formed P Q f ms a = all_map (GoodMember P) (GoodMember Q) (λ m g. record { key = g.key; value = f m.value g.value }) ms a

json-formed : (depth : ℕ) (v : Value depth) → Good depth v → Encoded (write Json depth v)
unfolding write json_layer
json-formed zero v g = (writing Json).scalar-formed v g
json-formed (suc depth) (Plain v) g = (writing Json).scalar-formed v g
json-formed (suc depth) (Items vs) (l, a) =
    list-encoded (write Json depth) vs (all_map (Good depth) (λ v. Encoded (write Json depth v)) (json-formed depth) vs a)
json-formed (suc depth) (Members ms) (l, a, d) =
    dict-encoded (write Json depth) ms (members-formed (Good depth) (λ v. Encoded (write Json depth v)) (json-formed depth) ms a)

pack-formed : (depth : ℕ) (v : Value depth) → Good depth v → Bytes (write MsgPack depth v)
unfolding write pack_layer
pack-formed zero v g = (writing MsgPack).scalar-formed v g
pack-formed (suc depth) (Plain v) g = (writing MsgPack).scalar-formed v g
pack-formed (suc depth) (Items vs) (l, a) =
    list-bytes (write MsgPack depth) vs (all_map (Good depth) (λ v. Bytes (write MsgPack depth v)) (pack-formed depth) vs a)
pack-formed (suc depth) (Members ms) (l, a, d) =
    dict-bytes (write MsgPack depth) ms (members-formed (Good depth) (λ v. Bytes (write MsgPack depth v)) (pack-formed depth) ms a)

written-formed : (f : Format) (depth : ℕ) (v : Value depth) → Good depth v → Formed f (write f depth v)
written-formed Json depth v g = json-formed depth v g
written-formed MsgPack depth v g = pack-formed depth v g

-- ---- a value's kind is that of the text that it stands in
abbrev Kinded : {A : Type 0} → Layer A → ℕ → Type 0
Kinded (Plain v) k = ¬ (k ≡ a_list) × ¬ (k ≡ a_dict)
Kinded (Items vs) k = k ≡ a_list
Kinded (Members ms) k = k ≡ a_dict

abbrev KindedRead : {A : Type 0} → Read (Layer A) → ℕ → Type 0
KindedRead (Gives v e) k = Kinded v k
KindedRead Not k = Unit {0}

read_plain : (A : Type 0) (k : ℕ) (r : Read Scalar) → ¬ (k ≡ a_list) × ¬ (k ≡ a_dict) → KindedRead {A = A} (made Plain r) k
read_plain A k (Gives v e) n = n
read_plain A k Not n = tt

read-items : {A : Type 0} (r : Read (List A)) → KindedRead (made Items r) a_list
read-items (Gives v e) = refl
read-items Not = tt

read-members : {A : Type 0} (r : Read (List (Member A))) → KindedRead (made Members r) a_dict
read-members (Gives v e) = refl
read-members Not = tt

-- neither list nor dict, by the tests of a string and of an ID
neither : (a d : Bool) → ¬ (cond a a_string (cond d another an_id) ≡ a_list) × ¬ (cond a a_string (cond d another an_id) ≡ a_dict)
neither true d = (λ q. omega arith, λ q. omega arith)
neither false true = (λ q. omega arith, λ q. omega arith)
neither false false = (λ q. omega arith, λ q. omega arith)

-- by the tests of both formats' readers; what passes that of a list or a dict fails that of a string
layer-kinded : (A : Type 0) (i : Read (List A)) (m : Read (List (Member A))) (p : Read Scalar) (list dict string none : Bool)
    → (list ≡ true → string ≡ false) → (dict ≡ true → string ≡ false)
    → KindedRead (cond list (made Items i) (cond dict (made Members m) (made Plain p)))
    (cond string a_string (cond list a_list (cond dict a_dict (cond none another an_id))))
layer-kinded A i m p true dict string none f g = rw (f refl) (read-items i)
layer-kinded A i m p false true string none f g = rw (g refl) (read-members m)
layer-kinded A i m p false false string none f g = read_plain A _ p (neither string none)

json-kinded : (A : Type 0) (item : ℕ → Read A) (v : List ℕ) → KindedRead (json_layer_at item v 0) (kind v)
unfolding json_layer_at kind
json-kinded A item v =
    layer-kinded A (enclosed item close_list v (0 + 1)) (enclosed (json_member_at item v) close_dict v (0 + 1)) (json_scalar_at v 0)
    (eqb (byte_at v 0) 91) (eqb (byte_at v 0) 123) (eqb (byte_at v 0) 34) (eqb (id_of v) 0)
    (λ t. ap (λ (b : ℕ). eqb b 34) (eqb-true (byte_at v 0) 91 t))
    (λ t. ap (λ (b : ℕ). eqb b 34) (eqb-true (byte_at v 0) 123 t))

pack-kinded : (A : Type 0) (item : ℕ → Read A) (v : List ℕ) → KindedRead (pack_layer_at item v (head_at v 0)) (Arrays.kind v)
unfolding pack_layer_at Arrays.kind
pack-kinded A item v =
    let h = head_at v 0 in
    layer-kinded A (items item h.n h.end) (items (pack_member_at item v) h.n h.end) (pack_scalar_at v h)
    (eqb h.kind array) (eqb h.kind map) (eqb h.kind str) (eqb (Arrays.id_of v) 0)
    (λ t. ap (λ (k : ℕ). eqb k str) (eqb-true h.kind array t))
    (λ t. ap (λ (k : ℕ). eqb k str) (eqb-true h.kind map t))

kinded : (f : Format) (v : List ℕ) (x : Value inner_depth) (e : ℕ) → stands f inner_depth v 0 ≡ Gives x e → Kinded x (kind_by f v)
unfolding stands
kinded Json v x e q = subst (λ (r : Read (Value inner_depth)). KindedRead r (kind v)) q (json-kinded (Value 6) (stands Json 6 v) v)
kinded MsgPack v x e q = subst (λ (r : Read (Value inner_depth)). KindedRead r (Arrays.kind v)) q (pack-kinded (Value 6) (stands MsgPack 6 v) v)

-- so two texts of one value are of one kind
same_kind : {A : Type 0} (x : Layer A) (j k : ℕ) → Kinded x j → Kinded x k → (j ≡ a_list → k ≡ a_list) × (j ≡ a_dict → k ≡ a_dict)
same_kind (Plain v) j k (a, b) n = (λ q. absurd (a q), λ q. absurd (b q))
same_kind (Items vs) j k a b = (λ q. b, λ q. absurd (omega arith))
same_kind (Members ms) j k a b = (λ q. absurd (omega arith), λ q. b)

-- ---- what a value is converted to
-- a list for a list, a dict for a dict
abbrev Turned : Format → Format → List ℕ → List ℕ → Type 0
Turned f g v w = (IsList f v → IsList g w) × (Dict f v → Dict g w) × Formed g w

-- what is written may be an element of a message
written-element : (f : Format) (x : Value inner_depth) → Good inner_depth x → Element f (write f inner_depth x)
written-element Json x g = reads_all (value_found 7 (write Json inner_depth x) 0 (length (write Json inner_depth x)) (written_over Json inner_depth x g))
written-element MsgPack x g = (packed-value 7 (write MsgPack inner_depth x)).0 (written_over MsgPack inner_depth x g)

module _ (f g : Format) where
  value-turned : (v : List ℕ) → Whole f v → (x : Value inner_depth) (e : ℕ) → stands f inner_depth v 0 ≡ Gives x e → Turned f g v (write g inner_depth x)
  value-turned v (t, r) x e q =
      let fit = good f inner_depth v 0 e x (length v) r t q in
      let w = write g inner_depth x in
      let (list, dict) = same_kind x (kind_by f v) (kind_by g w) (kinded f v x e q) (kinded g w x (length w) (written_back g inner_depth x fit)) in
      let element = written-element g x fit in (
        λ l. (reads g).list-found w element (list ((reads f).list-kind v l)),
        λ d. (reads g).dict-found w element (dict ((reads f).dict-kind v d)),
        written-formed g inner_depth x fit,
      )

  abbrev TurnedAll : Payload → Conversion.Carried → Type 0
  TurnedAll p (As q) = Both (Turned f g) p q
  TurnedAll p NotConvertible = Unit {0}

  turned-ahead : (v : List ℕ) (p : Payload) → Whole f v → (r : Read (Value inner_depth)) → stands f inner_depth v 0 ≡ r
      → (c : Conversion.Carried) → TurnedAll p c → TurnedAll (v ∷ p) (ahead (made (write g inner_depth) r) c)
  turned-ahead v p w (Gives x e) k (As q) b = (value-turned v w x e k, b)
  turned-ahead v p w (Gives x e) k NotConvertible b = tt
  turned-ahead v p w Not k c b = tt

  turned : (p : Payload) → All (Whole f) p → TurnedAll p (converted f g p)
  unfolding converted convert
  turned [] a = tt
  turned (v ∷ p) a = turned-ahead v p a.0 (stands f inner_depth v 0) refl (converted f g p) (turned p a.1)

-- ---- the claim
-- a payload that came in a format
abbrev pub Came : Format → Payload → Type 0
Came f p = IsPayload f p × All (Whole f) p

whole-formed : (f : Format) (v : List ℕ) → Whole f v → Formed f v
whole-formed Json v w = (utf8-table v).0 w.1.0
whole-formed MsgPack v w = w.1

came-carried : (f : Format) (p : Payload) → Came f p → Carried f p
came-carried f p (s, w) = (s, all_map (Whole f) (Formed f) (whole-formed f) p w)

-- by the shape that it came in
module _ (f g : Format) where
  carried_none : (q : Payload) → Both (Turned f g) [] q → Carried g q
  carried_none [] b = (inl refl, tt)
  carried_none (w ∷ q) b = absurd b

  carried-list : (v : List ℕ) → IsList f v → (q : Payload) → Both (Turned f g) (v ∷ []) q → Carried g q
  carried-list v l [] b = absurd b
  carried-list v l (w ∷ []) (t, b) = (inr (inl (w, t.0 l, refl)), (t.2, tt))
  carried-list v l (w ∷ (x ∷ q)) (t, b) = absurd b

  carried-both : (v u : List ℕ) → IsList f v → Dict f u → (q : Payload) → Both (Turned f g) (v ∷ u ∷ []) q → Carried g q
  carried-both v u l d [] b = absurd b
  carried-both v u l d (w ∷ []) (t, b) = absurd b
  carried-both v u l d (w ∷ (x ∷ [])) (t, (o, b)) = (inr (inr (w, x, t.0 l, o.1 d, refl)), (t.2, (o.2, tt)))
  carried-both v u l d (w ∷ (x ∷ (y ∷ q))) (t, (o, b)) = absurd b

  turned-carried : (p q : Payload) → IsPayload f p → Both (Turned f g) p q → Carried g q
  turned-carried p q (inl e) b = carried_none q (subst (λ (x : Payload). Both (Turned f g) x q) e b)
  turned-carried p q (inr (inl (v, l, e))) b = carried-list v l q (subst (λ (x : Payload). Both (Turned f g) x q) e b)
  turned-carried p q (inr (inr (v, u, l, d, e))) b = carried-both v u l d q (subst (λ (x : Payload). Both (Turned f g) x q) e b)

across : (f g : Format) (p q : Payload) → Came f p → converted f g p ≡ As q → Carried g q
across f g p q (s, w) e = turned-carried f g p q s (subst (TurnedAll f g p) e (turned f g p w))

pub carried-carried : (f g : Format) (p q : Payload) → Came f p → carried f g p ≡ As q → Carried g q
unfolding carried
carried-carried Json MsgPack p q c e = across Json MsgPack p q c e
carried-carried MsgPack Json p q c e = across MsgPack Json p q c e
carried-carried Json Json p q c e = let z : p ≡ q = cc in subst (Carried Json) z (came-carried Json p c)
carried-carried MsgPack MsgPack p q c e = let z : p ≡ q = cc in subst (Carried MsgPack) z (came-carried MsgPack p c)
