-- How long a MsgPack value is in JSON: with one byte to spare, six times its bytes. Assumes nothing.
use Prim.Native.Nat.{ℕ, zero, suc, ◌+◌, ◌*◌, ◌-◌, ◌≤◌, ◌<◌}
use mathlib.Core.Bool.{true, false}
use mathlib.Core.List.{List, [], ◌∷◌, ◌++◌}
use mathlib.Core.Logic.{⊎_elim}
use mathlib.Core.Path.{◌≡◌, refl, sym}
use native.Mathlib.Omega.{arith}
use lib.Dec.{ltb}
use lib.ListN.{length, length-append}
use Rattle.seq.specs.Lists.{All, joined}
use Rattle.seq.proofs.Logic.{split}
use Rattle.strings.specs.Strings.{is_marked}
use Rattle.msgpack.specs.Head.{head_at}
use Rattle.seq.specs.declared.Format.TheVariants.{Json, MsgPack}
use Rattle.values.specs.Value.{Scalar, Value}
use Rattle.values.specs.Value.Scalar.{Flag}
use Rattle.values.specs.Read.{Read, made}
use Rattle.values.specs.Read.Read.{Gives}
use Rattle.values.specs.Write.{spelled, quoted_text, json_scalar, commaed, separated, json_member, json_layer, write}
use Rattle.values.specs.Stands.{pack_scalar_at, items, pack_member_at, pack_layer_at, stands}
use Rattle.values.proofs.Forms.{Bounded, head-bounded}
use Rattle.values.proofs.Given.{same-value, same_place, then-gives, made-gives}
use Rattle.values.proofs.GivenPack.{told-length, pack-scalar, pack-layer, pack-member}

-- ---- texts
spelled-length : (b : ℕ) → length (spelled b) ≤ 6
unfolding spelled
spelled-length b =
    split (is_marked b) (λ t. rw t (omega arith))
    (λ t. split (ltb b 0x20) (λ u. rw (t, u) (omega arith)) (λ u. rw (t, u) (omega arith)))

spelled-all : (t : List ℕ) → length (joined spelled t) ≤ 6 * length t
spelled-all [] = omega arith
spelled-all (b ∷ t) =
    let l = length-append (spelled b) (joined spelled t) in
    let m = spelled-length b in
    let n = spelled-all t in
    omega arith

quoted-length : (t : List ℕ) → length (quoted_text t) ≤ 2 + 6 * length t
unfolding quoted_text
quoted-length t = let l = length-append (joined spelled t) (34 ∷ []) in let m = spelled-all t in omega arith

-- ---- values one after the other
abbrev Fits : {A : Type 0} → (ℕ → Read A) → (A → List ℕ) → Type 0
Fits {A} item f = (at e : ℕ) (v : A) → item at ≡ Gives v e → length (f v) + 1 ≤ 6 * (e - at)

module _ {A : Type 0} (item : ℕ → Read A) (f : A → List ℕ) where
  separated-length : (vs : List A) → length (separated f vs) ≤ length (commaed f vs)
  unfolding separated commaed
  separated-length [] = omega arith
  separated-length (v ∷ vs) = omega arith

  items-fit : Fits item f → (n at e : ℕ) (vs : List A) → items item n at ≡ Gives vs e → (at ≤ e) × (length (commaed f vs) ≤ 6 * (e - at))
  unfolding items commaed
  items-fit h zero at e vs g = let p : at ≡ e = same_place refl g in rw (sym (same-value refl g)) (omega arith, omega arith)
  items-fit h (suc n) at e vs g =
      let (v, m, p, q) = then-gives (item at) (λ v e. made (λ vs. v ∷ vs) (items item n e)) vs e g in
      let (us, r, w) = made-gives (λ vs. v ∷ vs) (items item n m) vs e q in
      let k = h at m v p in
      let (i, l) = items-fit h n m e us r in
      let a = length-append (f v) (commaed f us) in
      rw w (omega arith, omega arith)

  -- in brackets or braces
  enclosed-fits : Fits item f → (o c n at b e : ℕ) (vs : List A) → at < b → items item n b ≡ Gives vs e
      → length (o ∷ separated f vs ++ (c ∷ [])) + 1 ≤ 6 * (e - at)
  enclosed-fits h o c n at b e vs l g =
      let (i, k) = items-fit h n b e vs g in
      let m = separated-length vs in
      let a = length-append (separated f vs) (c ∷ []) in
      omega arith

module _ (s : List ℕ) (b : (at : ℕ) → Bounded at (head_at s at)) where
  -- ---- one value
  scalar_fits : (at e : ℕ) (v : Scalar) → pack_scalar_at s (head_at s at) ≡ Gives v e → length (json_scalar v) + 1 ≤ 6 * (e - at)
  unfolding json_scalar
  scalar_fits at e v g =
      let h = head_at s at in
      pack-scalar s h (λ v e. length (json_scalar v) + 1 ≤ 6 * (e - at)) v e g
      (λ k. let l = (b at).behind (λ n. omega arith) in omega arith)
      (λ f k.
      let l = (b at).behind (λ n. ⊎_elim (λ k. omega arith) (λ k. omega arith) k) in
      elim f as (λ f. length (json_scalar (Flag f)) + 1 ≤ 6 * (h.end - at)) [ true ↦ omega arith | false ↦ omega arith ])
      (λ k. let l = ((b at).wholes k).1 in omega arith)
      (λ k. let l = ((b at).belows k).1 in omega arith)
      (λ t k.
      let x = k.kind in
      let l = (b at).behind (λ n. omega arith) in
      let m = quoted-length t in
      let n = told-length s h t e k in
      let o = k.ends in
      omega arith)

  member-fits : {A : Type 0} (item : ℕ → Read A) (f : A → List ℕ) → Fits item f → Fits (pack_member_at item s) (json_member f)
  unfolding json_member
  member-fits item f h at e v g =
      let (j, k, p) = pack-member item s at v e g in
      let x = k.kind in
      let l = (b at).behind (λ n. omega arith) in
      let m = quoted-length v.key in
      let n = told-length s (head_at s at) v.key j k in
      let o = k.ends in
      let i = h j e v.value p in
      let a = length-append (quoted_text v.key) (58 ∷ f v.value) in
      omega arith

  layer_fits : {A : Type 0} (item : ℕ → Read A) (f : A → List ℕ) → Fits item f → Fits (λ at. pack_layer_at item s (head_at s at)) (json_layer f)
  unfolding json_layer
  layer_fits item f i at e v g =
      let h = head_at s at in
      pack-layer s h item (λ v e. length (json_layer f v) + 1 ≤ 6 * (e - at)) v e g
      (λ vs k r. enclosed-fits item f i 91 93 h.n at h.end e vs ((b at).behind (λ n. omega arith)) r)
      (λ ms k r. enclosed-fits (pack_member_at item s) (json_member f) (member-fits item f i) 123 125 h.n at h.end e ms ((b at).behind (λ n. omega arith)) r)
      (λ u r. scalar_fits at e u r)

pub to-json : (depth : ℕ) (s : List ℕ) → All (λ b. b < 256) s → (at e : ℕ) (v : Value depth) → stands MsgPack depth s at ≡ Gives v e
    → length (write Json depth v) + 1 ≤ 6 * (e - at)
unfolding stands write
to-json zero s a at e v g = scalar_fits s (head-bounded s a) at e v g
to-json (suc d) s a at e v g = layer_fits s (head-bounded s a) (stands MsgPack d s) (write Json d) (to-json d s a) at e v g
