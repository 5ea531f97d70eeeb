-- MsgPack: a value that was written reads back. Assumes nothing.
use Prim.Native.Nat.{ℕ, zero, suc, ◌+◌, ◌≤◌}
use mathlib.Core.Bool.{true, false}
use mathlib.Core.List.{List, [], ◌∷◌, ◌++◌}
use mathlib.Core.Path.{◌≡◌, ap, ◌∙◌}
use native.Mathlib.Omega.{arith}
use borrow.Author.Tests.{le-leb, ne_eqb}
use lib.ListN.{length, length-append}
use Rattle.seq.specs.Lists.{joined, All}
use Rattle.msgpack.specs.Head.{head_at, str, array, map}
use Rattle.msgpack.specs.MsgPack.{bytes, text}
use Rattle.values.specs.Value.{Scalar, Layer, Member, Value, GoodText, GoodScalar, GoodMember, GoodLayer, Good}
use Rattle.values.specs.Value.Scalar.{Null, Flag, Whole, Below, Text}
use Rattle.values.specs.Value.Layer.{Plain, Items, Members}
use Rattle.values.specs.Read.{Read, made}
use Rattle.values.specs.Read.Read.{Gives}
use Rattle.values.specs.Write.{pack_str, pack_array, pack_map, pack_text, pack_scalar, pack_member, pack_layer, write}
use Rattle.seq.specs.declared.Format.TheVariants.{MsgPack}
use Rattle.values.specs.Stands.{text_at, pack_text_at, pack_scalar_at, items, pack_member_at, pack_layer_at, stands}
use Rattle.seq.proofs.Holds.{Holds, holds-end, holds-left, holds-right, holds-part}
use Rattle.values.proofs.Heads.{heads-nil, heads-no, heads-yes, heads-whole, heads-below, heads-str, heads-array, heads-map}

-- where w stands, x is read, and nothing more
abbrev pub Back : {A : Type 0} → List ℕ → (ℕ → Read A) → List ℕ → A → Type 0
Back s item w x = (at : ℕ) → Holds s at w → item at ≡ Gives x (at + length w)

module _ (s : List ℕ) where
  text-back : (t : List ℕ) → GoodText t → Back s (λ at. pack_text_at s (head_at s at)) (pack_text t) t
  unfolding pack_text pack_text_at text_at text bytes
  text-back t g at h =
      let p : Holds s (at + length (pack_str (length t))) t = holds-right s at (pack_str (length t)) t h in
      let l : at + length (pack_str (length t)) + length t ≤ length s = holds-end s (at + length (pack_str (length t))) t p in
      let e : at + length (pack_str (length t)) + length t ≡ at + length (pack_str (length t) ++ t) = simp length-append (omega arith) in
      rw (
        heads-str s at (length t) g.sized (holds-left s at (pack_str (length t)) t h),
        holds-part s (at + length (pack_str (length t))) t p,
        g.utf8,
        le-leb (at + length (pack_str (length t)) + length t) (length s) l,
        holds-part s (at + length (pack_str (length t))) t p,
        e,
      )

  -- a str's head leads to its text
  text-scalar : (at : ℕ) → (head_at s at).kind ≡ str → pack_scalar_at s (head_at s at) ≡ made Text (pack_text_at s (head_at s at))
  unfolding pack_scalar_at
  text-scalar at e = rw e

  text-kind : (t : List ℕ) → GoodText t → (at : ℕ) → Holds s at (pack_text t) → (head_at s at).kind ≡ str
  unfolding pack_text
  text-kind t g at h = rw (heads-str s at (length t) g.sized (holds-left s at (pack_str (length t)) t h))

  scalar-back : (v : Scalar) → GoodScalar v → Back s (λ at. pack_scalar_at s (head_at s at)) (pack_scalar v) v
  unfolding pack_scalar pack_scalar_at
  scalar-back Null g at h = rw (heads-nil s at h)
  scalar-back (Flag true) g at h = rw (heads-yes s at h)
  scalar-back (Flag false) g at h = rw (heads-no s at h)
  scalar-back (Whole n) g at h = rw (heads-whole s at n g h)
  scalar-back (Below n) g at h = rw (heads-below s at n g h)
  scalar-back (Text t) g at h = text-scalar at (text-kind t g at h) ∙ ap (made Text) (text-back t g at h)

  scalar-kind : (v : Scalar) → GoodScalar v → (at : ℕ) → Holds s at (pack_scalar v) → (head_at s at).kind ≤ str
  unfolding pack_scalar
  scalar-kind Null g at h = rw (heads-nil s at h) (omega arith)
  scalar-kind (Flag true) g at h = rw (heads-yes s at h) (omega arith)
  scalar-kind (Flag false) g at h = rw (heads-no s at h) (omega arith)
  scalar-kind (Whole n) g at h = rw (heads-whole s at n g h) (omega arith)
  scalar-kind (Below n) g at h = rw (heads-below s at n g h) (omega arith)
  scalar-kind (Text t) g at h = rw (text-kind t g at h) (omega arith)

  items_back : {A : Type 0} (item : ℕ → Read A) (f : A → List ℕ) (P : A → Type 0) → ((x : A) → P x → Back s item (f x) x)
      → (xs : List A) → All P xs → Back s (items item (length xs)) (joined f xs) xs
  unfolding items
  items_back item f P b [] g at h = let e : at + 0 ≡ at = omega arith in rw e
  items_back item f P b (x ∷ xs) g at h =
      let q : at + length (f x) + length (joined f xs) ≡ at + length (f x ++ joined f xs) = simp length-append (omega arith) in
      rw (
        b x g.0 at (holds-left s at (f x) (joined f xs) h),
        items_back item f P b xs g.1 (at + length (f x)) (holds-right s at (f x) (joined f xs) h),
        q,
      )

  member_back : {A : Type 0} (item : ℕ → Read A) (f : A → List ℕ) (P : A → Type 0) → ((x : A) → P x → Back s item (f x) x)
      → (m : Member A) → GoodMember P m → Back s (pack_member_at item s) (pack_member f m) m
  unfolding pack_member pack_member_at
  member_back item f P b m g at h =
      let q : at + length (pack_text m.key) + length (f m.value) ≡ at + length (pack_text m.key ++ f m.value) = simp length-append (omega arith) in
      rw (
        text-back m.key g.key at (holds-left s at (pack_text m.key) (f m.value) h),
        b m.value g.value (at + length (pack_text m.key)) (holds-right s at (pack_text m.key) (f m.value) h),
        q,
      )

  module _ {A : Type 0} (item : ℕ → Read A) (f : A → List ℕ) (P : A → Type 0) (b : (x : A) → P x → Back s item (f x) x) where
    plain-layer : (at : ℕ) → (head_at s at).kind ≤ str → pack_layer_at item s (head_at s at) ≡ made Plain (pack_scalar_at s (head_at s at))
    unfolding pack_layer_at
    plain-layer at l = rw (ne_eqb (head_at s at).kind array (λ e. omega arith), ne_eqb (head_at s at).kind map (λ e. omega arith))

    layer-back : (v : Layer A) → GoodLayer P v → Back s (λ at. pack_layer_at item s (head_at s at)) (pack_layer f v) v
    unfolding pack_layer pack_layer_at
    layer-back (Plain v) g at h = plain-layer at (scalar-kind v g at h) ∙ ap (made Plain) (scalar-back v g at h)
    layer-back (Items vs) g at h =
        let q : at + length (pack_array (length vs)) + length (joined f vs) ≡ at + length (pack_array (length vs) ++ joined f vs) =
        simp length-append (omega arith) in
        rw (
          heads-array s at (length vs) g.0 (holds-left s at (pack_array (length vs)) (joined f vs) h),
          items_back item f P b vs g.1 (at + length (pack_array (length vs))) (holds-right s at (pack_array (length vs)) (joined f vs) h),
          q,
        )
    layer-back (Members ms) g at h =
        let q : at + length (pack_map (length ms)) + length (joined (pack_member f) ms) ≡ at + length (pack_map (length ms) ++ joined (pack_member f) ms) =
        simp length-append (omega arith) in
        rw (
          heads-map s at (length ms) g.0 (holds-left s at (pack_map (length ms)) (joined (pack_member f) ms) h),
          items_back (pack_member_at item s) (pack_member f) (GoodMember P) (member_back item f P b) ms g.1
              (at + length (pack_map (length ms))) (holds-right s at (pack_map (length ms)) (joined (pack_member f) ms) h),
          q,
        )

-- a value's bytes, wherever they stand
pub pack-back : (s : List ℕ) (depth : ℕ) (v : Value depth) → Good depth v → Back s (stands MsgPack depth s) (write MsgPack depth v) v
unfolding write stands
pack-back s zero v g at h = scalar-back s v g at h
pack-back s (suc depth) v g at h =
    layer-back s (stands MsgPack depth s) (write MsgPack depth) (Good depth) (pack-back s depth) v g at h
