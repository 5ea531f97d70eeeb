-- MsgPack to JSON: from what the parts of a value convert to, to what the value converts to. Assumes nothing.
use Rattle.std.specs.Prelude.{Option, Some, None}
use Prim.Native.Nat.{ℕ, zero, suc, ◌-◌, ◌≤◌, ◌<◌}
use mathlib.Core.List.{List, [], ◌∷◌, ◌++◌, append_assoc}
use mathlib.Core.Path.{◌≡◌, refl, sym, ap, ◌∙◌, subst}
use native.Mathlib.Omega.{arith}
use borrow.Author.Tests.{ne_eqb, eq-eqb, eqb-false}
use lib.Dec.{eqb}
use lib.ListN.{length}
use Rattle.seq.specs.Bytes.{part}
use Rattle.seq.proofs.Logic.{split}
use Rattle.buffer.specs.Capped.{largest}
use Rattle.buffer.proofs.Wrote.{Wrote, wrote_then}
use Rattle.msgpack.specs.declared.Head.{Head}
use Rattle.msgpack.specs.Head.{head_at, nil, no, yes, whole, below, str, array, map}
use Rattle.msgpack.specs.MsgPack.{text}
use Rattle.values.specs.Value.{Scalar, Layer, Member, Value}
use Rattle.values.specs.Value.Scalar.{Text}
use Rattle.values.specs.Value.Layer.{Plain, Items, Members}
use Rattle.values.specs.Read.{Read, made}
use Rattle.values.specs.Read.Read.{Gives, Not}
use Rattle.values.specs.Write.{quoted_text, json_scalar, json_member, json_list, json_dict, json_layer, write}
use Rattle.seq.specs.declared.Format.TheVariants.{Json, MsgPack}
use Rattle.values.specs.Stands.{member, text_at, pack_text_at, pack_scalar_at, items, pack_member_at, pack_layer_at, stands}
use Rattle.conversion.specs.declared.Converted.{Converted}
use Rattle.conversion.specs.Converts.{done, Converts}
use Rattle.conversion.proofs.Conv.{converts, converts-not, Took, conv-made, conv-behind}
use Rattle.to_json.specs.Plain.{plain}
use Rattle.to_json.proofs.Laws.{is_below}

-- ---- a text
pub text-not : (s : List ℕ) (at n : ℕ) → text s at n ≡ None → text_at s at n ≡ Not
unfolding text_at
text-not s at n e = rw e

pub text-gives : (s : List ℕ) (at n e : ℕ) → text s at n ≡ Some e → text_at s at n ≡ Gives (part at e s) e
unfolding text_at
text-gives s at n e q = rw q

-- ---- the bytes
json-plain : {A : Type 0} (f : A → List ℕ) (v : Scalar) → json_scalar v ≡ json_layer f (Plain v)
unfolding json_layer
json-plain f v = refl

json-items : {A : Type 0} (f : A → List ℕ) (vs : List A) → json_list f vs ≡ json_layer f (Items vs)
unfolding json_layer
json-items f vs = refl

json-members : {A : Type 0} (f : A → List ℕ) (ms : List (Member A)) → json_dict f ms ≡ json_layer f (Members ms)
unfolding json_layer
json-members f ms = refl

json-text : (t : List ℕ) → quoted_text t ≡ json_scalar (Text t)
unfolding json_scalar
json-text t = refl

json-member : {A : Type 0} (f : A → List ℕ) (k : List ℕ) (v : A) → (quoted_text k ++ (58 ∷ [])) ++ f v ≡ json_member f (member k v)
unfolding json_member
json-member f k v = append_assoc (quoted_text k) (58 ∷ []) (f v)

-- ---- a value by its head
module _ (s : List ℕ) (h : Head) where
  scalar-plain : h.kind < str → pack_scalar_at s h ≡ Gives (plain h.kind h.n) h.end
  unfolding pack_scalar_at plain
  scalar-plain l =
      split (eqb h.kind nil) (λ a. rw a)
      (λ a. rw a (split (eqb h.kind no) (λ b. rw b)
      (λ b. rw b (split (eqb h.kind yes) (λ c. rw c)
      (λ c. rw c (split (eqb h.kind whole) (λ d. rw d)
      (λ d.
      let k = is_below h.kind h.n l (eqb-false h.kind nil a) (eqb-false h.kind no b) (eqb-false h.kind yes c) (eqb-false h.kind whole d) in
      rw (d, eq-eqb h.kind below k))))))))

  scalar-text : h.kind ≡ str → pack_scalar_at s h ≡ made Text (text_at s h.end h.n)
  unfolding pack_scalar_at pack_text_at
  scalar-text e = rw e

  scalar-not : str < h.kind → pack_scalar_at s h ≡ Not
  unfolding pack_scalar_at pack_text_at
  scalar-not l = rw (
    ne_eqb h.kind nil (λ e. omega arith),
    ne_eqb h.kind no (λ e. omega arith),
    ne_eqb h.kind yes (λ e. omega arith),
    ne_eqb h.kind whole (λ e. omega arith),
    ne_eqb h.kind below (λ e. omega arith),
    ne_eqb h.kind str (λ e. omega arith),
  )

  module _ {A : Type 0} (item : ℕ → Read A) where
    layer-plain : (h.kind ≡ array → ⊥) → (h.kind ≡ map → ⊥) → pack_layer_at item s h ≡ made Plain (pack_scalar_at s h)
    unfolding pack_layer_at
    layer-plain a b = rw (ne_eqb h.kind array a, ne_eqb h.kind map b)

    layer-array : h.kind ≡ array → pack_layer_at item s h ≡ made Items (items item h.n h.end)
    unfolding pack_layer_at
    layer-array e = rw e

    layer-map : h.kind ≡ map → pack_layer_at item s h ≡ made Members (items (pack_member_at item s) h.n h.end)
    unfolding pack_layer_at
    layer-map e = rw e

-- ---- at any depth
module _ (old : List ℕ) (o : ℕ) (s : List ℕ) (at : ℕ) (h : Head) (eh : h ≡ head_at s at) (c : Option Converted) (left : List ℕ) where
  -- a scalar
  conv-scalar : (depth : ℕ) → (h.kind ≡ array → ⊥) → (h.kind ≡ map → ⊥) → Converts old o json_scalar (pack_scalar_at s h) c left
      → Converts old o (write Json depth) (stands MsgPack depth s at) c left
  unfolding write stands
  conv-scalar zero a b k = subst (λ (x : Head). Converts old o json_scalar (pack_scalar_at s x) c left) eh k
  conv-scalar (suc d) a b k =
      let m = conv-made old o json_scalar (json_layer (write Json d)) Plain (json-plain (write Json d)) (pack_scalar_at s h) c left k in
      subst (λ (x : Head). Converts old o (json_layer (write Json d)) (pack_layer_at (stands MsgPack d s) s x) c left) eh
      (subst (λ (x : Read (Layer (Value d))). Converts old o (json_layer (write Json d)) x c left) (sym (layer-plain s h (stands MsgPack d s) a b)) m)

  -- an array or a map
  conv-layer : (d : ℕ) {A : Type 0} (w : A → List ℕ) (r : Read A) (g : A → Layer (Value d)) → ((v : A) → w v ≡ json_layer (write Json d) (g v))
      → pack_layer_at (stands MsgPack d s) s h ≡ made g r → Converts old o w r c left
      → Converts old o (write Json (suc d)) (stands MsgPack (suc d) s at) c left
  unfolding write stands
  conv-layer d w r g e q k =
      subst (λ (x : Head). Converts old o (json_layer (write Json d)) (pack_layer_at (stands MsgPack d s) s x) c left) eh
      (subst (λ (x : Read (Layer (Value d))). Converts old o (json_layer (write Json d)) x c left) (sym q)
      (conv-made old o w (json_layer (write Json d)) g e r c left k))

  pub conv-text : (depth : ℕ) → h.kind ≡ str → Converts old o quoted_text (text_at s h.end h.n) c left
      → Converts old o (write Json depth) (stands MsgPack depth s at) c left
  conv-text depth e k =
      conv-scalar depth (λ q. omega arith) (λ q. omega arith)
      (subst (λ (x : Read Scalar). Converts old o json_scalar x c left) (sym (scalar-text s h e))
      (conv-made old o quoted_text json_scalar Text json-text (text_at s h.end h.n) c left k))

  pub conv-list : (depth : ℕ) → (depth ≡ 0 → ⊥) → h.kind ≡ array
      → Converts old o (json_list (write Json (depth - 1))) (items (stands MsgPack (depth - 1) s) h.n h.end) c left
      → Converts old o (write Json depth) (stands MsgPack depth s at) c left
  conv-list zero n e k = absurd (n refl)
  conv-list (suc d) n e k =
      let p : suc d - 1 ≡ d = omega arith in
      conv-layer d (json_list (write Json d)) (items (stands MsgPack d s) h.n h.end) Items (json-items (write Json d)) (layer-array s h (stands MsgPack d s) e)
      (subst (λ (x : ℕ). Converts old o (json_list (write Json x)) (items (stands MsgPack x s) h.n h.end) c left) p k)

  pub conv-dict : (depth : ℕ) → (depth ≡ 0 → ⊥) → h.kind ≡ map
      → Converts old o (json_dict (write Json (depth - 1))) (items (pack_member_at (stands MsgPack (depth - 1) s) s) h.n h.end) c left
      → Converts old o (write Json depth) (stands MsgPack depth s at) c left
  conv-dict zero n e k = absurd (n refl)
  conv-dict (suc d) n e k =
      let p : suc d - 1 ≡ d = omega arith in
      conv-layer d (json_dict (write Json d)) (items (pack_member_at (stands MsgPack d s) s) h.n h.end) Members (json-members (write Json d))
      (layer-map s h (stands MsgPack d s) e)
      (subst (λ (x : ℕ). Converts old o (json_dict (write Json x)) (items (pack_member_at (stands MsgPack x s) s) h.n h.end) c left) p k)

module _ (old : List ℕ) (o : ℕ) (s : List ℕ) (at : ℕ) (h : Head) (eh : h ≡ head_at s at) (left : List ℕ) where
  pub conv-plain : (depth : ℕ) {z : ℕ} → h.kind < str → Wrote old o (json_scalar (plain h.kind h.n)) z left
      → Converts old o (write Json depth) (stands MsgPack depth s at) (Some (done h.end z)) left
  conv-plain depth {z} l w =
      conv-scalar old o s at h eh (Some (done h.end z)) left depth (λ q. omega arith) (λ q. omega arith)
      (converts old o json_scalar (pack_scalar_at s h) left (scalar-plain s h l) w)

  pub conv-none : (depth : ℕ) → str < h.kind → (h.kind ≡ array → ⊥) → (h.kind ≡ map → ⊥)
      → Converts old o (write Json depth) (stands MsgPack depth s at) None left
  conv-none depth l a b =
      conv-scalar old o s at h eh None left depth a b (converts-not old o json_scalar (pack_scalar_at s h) left (scalar-not s h l))

  pub conv-deep : (depth : ℕ) → depth ≡ 0 → str < h.kind → Converts old o (write Json depth) (stands MsgPack depth s at) None left
  unfolding write stands
  conv-deep zero z l = converts-not old o json_scalar (pack_scalar_at s (head_at s at)) left (ap (pack_scalar_at s) (sym eh) ∙ scalar-not s h l)
  conv-deep (suc d) z l = absurd (omega arith)

-- ---- a member
module _ (s : List ℕ) {A : Type 0} (item : ℕ → Read A) (at : ℕ) (h : Head) (eh : h ≡ head_at s at) where
  pub member-no-key : (h.kind ≡ str → ⊥) → pack_member_at item s at ≡ Not
  unfolding pack_member_at pack_text_at
  member-no-key n = rw (sym eh, ne_eqb h.kind str n)

  pub member-not : h.kind ≡ str → text_at s h.end h.n ≡ Not → pack_member_at item s at ≡ Not
  unfolding pack_member_at pack_text_at
  member-not e q = rw (sym eh, e, q)

  member_is : (k : List ℕ) (e : ℕ) → h.kind ≡ str → text_at s h.end h.n ≡ Gives k e → pack_member_at item s at ≡ made (member k) (item e)
  unfolding pack_member_at pack_text_at
  member_is k e q t = rw (sym eh, q, t)

  pub conv-member : (old : List ℕ) (o : ℕ) (f : A → List ℕ) (mid : List ℕ) (e p q : ℕ) (mid' : List ℕ) (c : Option Converted) (left : List ℕ)
      → length old ≤ largest → h.kind ≡ str → Took old o quoted_text (text_at s h.end h.n) e p mid → Wrote mid p (58 ∷ []) q mid'
      → Converts mid' q f (item e) c left → Converts old o (json_member f) (pack_member_at item s at) c left
  conv-member old o f mid e p q mid' c left l k t w m =
      subst (λ (x : Read (Member A)). Converts old o (json_member f) x c left) (sym (member_is t.value e k t.read))
      (conv-made old o (λ v. (quoted_text t.value ++ (58 ∷ [])) ++ f v) (json_member f) (member t.value) (json-member f t.value) (item e) c left
      (conv-behind old o (quoted_text t.value ++ (58 ∷ [])) mid' q f (item e) c left l (wrote_then l t.wrote w) m))
