-- What an answer of `stands` tells of MsgPack's heads, and of what stands behind them. Assumes nothing.
use Rattle.std.specs.Prelude.{Some}
use Prim.Native.Nat.{ℕ, ◌+◌, ◌-◌, ◌≤◌}
use mathlib.Core.Bool.{Bool, true, false}
use mathlib.Core.List.{List}
use mathlib.Core.Logic.{◌⊎◌, inl, inr}
use mathlib.Core.Path.{◌≡◌, refl, sym, ap, ◌∙◌}
use native.Mathlib.Omega.{arith}
use borrow.Author.Tests.{eqb-true, leb-true}
use lib.Dec.{eqb, leb}
use lib.ListN.{length, drop, length-drop}
use lib.Seq.{length-take-le}
use Rattle.seq.specs.Bytes.{part}
use Rattle.seq.proofs.Logic.{split}
use Rattle.lex.proofs.Stands.{to_same, to-bad}
use Rattle.utf8.specs.Utf8.{well_formed}
use Rattle.msgpack.specs.declared.Head.{Head}
use Rattle.msgpack.specs.Head.{head_at, nil, no, yes, whole, below, str, array, map}
use Rattle.msgpack.specs.MsgPack.{bytes, text}
use Rattle.values.specs.Value.{Scalar, Layer, Member}
use Rattle.values.specs.Value.Scalar.{Null, Flag, Whole, Below, Text}
use Rattle.values.specs.Value.Layer.{Plain, Items, Members}
use Rattle.values.specs.Read.{Read, made}
use Rattle.values.specs.Read.Read.{Gives}
use Rattle.values.specs.Stands.{member, text_at, pack_text_at, pack_scalar_at, pack_layer_at, pack_member_at, items}
use Rattle.values.proofs.Given.{same-value, same_place, then-gives, made-gives, past-gives, picked}

-- the text t stands behind a head and ends at e
pub record Told (s : List ℕ) (h : Head) (t : List ℕ) (e : ℕ) : Type 0 where
  pub kind : h.kind ≡ str
  pub ends : e ≡ h.end + h.n
  pub inside : e ≤ length s
  pub is : t ≡ part h.end e s
  pub utf8 : well_formed t ≡ true

pub told-length : (s : List ℕ) (h : Head) (t : List ℕ) (e : ℕ) → Told s h t e → length t ≡ h.n
told-length s h t e g =
    let n = g.ends in
    let l = g.inside in
    let d = length-drop h.end s in
    let m = length-take-le (e - h.end) (drop h.end s) (omega arith) in
    let k = ap length g.is in
    omega arith

pub text-to : (s : List ℕ) (at n e : ℕ) → text s at n ≡ Some e → (well_formed (part at (at + n) s) ≡ true) × (at + n ≤ length s) × (e ≡ at + n)
unfolding text bytes
text-to s at n e h =
    split (well_formed (part at (at + n) s))
    (λ t. split (leb (at + n) (length s))
    (λ l. (t, leb-true (at + n) (length s) l, to_same h (rw (t, l))))
    (λ l. to-bad h (rw (t, l))))
    (λ t. to-bad h (rw t))

module _ (s : List ℕ) (h : Head) where
  pub pack-text : (t : List ℕ) (e : ℕ) → pack_text_at s h ≡ Gives t e → Told s h t e
  unfolding pack_text_at text_at
  pack-text t e g =
      let (k, p) = picked (eqb h.kind str) _ t e g in
      let (m, q, r) = past-gives (text s h.end h.n) (λ e. Gives (part h.end e s) e) t e p in
      let (u, l, n) = text-to s h.end h.n m q in
      let d : m ≡ e = same_place refl r in
      let b : t ≡ part h.end e s = sym (same-value refl r) ∙ ap (λ (i : ℕ). part h.end i s) d in
      let w : well_formed (part h.end m s) ≡ true = rw n u in
      record {
        kind = eqb-true h.kind str k;
        ends = sym d ∙ n;
        inside = omega arith;
        is = b;
        utf8 = ap well_formed (sym (same-value refl r)) ∙ w;
      }

  module _ (P : Scalar → ℕ → Type 0) (v : Scalar) (e : ℕ) where
    given : (u : Scalar) → P u h.end → Gives u h.end ≡ Gives v e → P v e
    given u p g = rw (sym (same-value refl g), sym (same_place refl g)) p

    pub pack-scalar : pack_scalar_at s h ≡ Gives v e
        → (h.kind ≡ nil → P Null h.end) → ((b : Bool) → (h.kind ≡ no) ⊎ (h.kind ≡ yes) → P (Flag b) h.end)
        → (h.kind ≡ whole → P (Whole h.n) h.end) → (h.kind ≡ below → P (Below h.n) h.end)
        → ((t : List ℕ) → Told s h t e → P (Text t) e) → P v e
    unfolding pack_scalar_at
    pack-scalar g on_null on_flag on_whole on_below on_text =
        split (eqb h.kind nil) (λ a. given Null (on_null (eqb-true _ _ a)) (rw a at g))
        (λ a. split (eqb h.kind no) (λ b. given (Flag false) (on_flag false (inl (eqb-true _ _ b))) (rw (a, b) at g))
        (λ b. split (eqb h.kind yes) (λ c. given (Flag true) (on_flag true (inr (eqb-true _ _ c))) (rw (a, b, c) at g))
        (λ c. split (eqb h.kind whole) (λ d. given (Whole h.n) (on_whole (eqb-true _ _ d)) (rw (a, b, c, d) at g))
        (λ d. split (eqb h.kind below) (λ x. given (Below h.n) (on_below (eqb-true _ _ x)) (rw (a, b, c, d, x) at g))
        (λ x. let (t, p, q) = made-gives Text (pack_text_at s h) v e (rw (a, b, c, d, x) at g) in rw q (on_text t (pack-text t e p)))))))

  pub pack-layer : {A : Type 0} (item : ℕ → Read A) (P : Layer A → ℕ → Type 0) (v : Layer A) (e : ℕ) → pack_layer_at item s h ≡ Gives v e
      → ((vs : List A) → h.kind ≡ array → items item h.n h.end ≡ Gives vs e → P (Items vs) e)
      → ((ms : List (Member A)) → h.kind ≡ map → items (pack_member_at item s) h.n h.end ≡ Gives ms e → P (Members ms) e)
      → ((u : Scalar) → pack_scalar_at s h ≡ Gives u e → P (Plain u) e) → P v e
  unfolding pack_layer_at
  pack-layer item P v e g on_items on_members on_plain =
      split (eqb h.kind array)
      (λ a. let (vs, p, q) = made-gives Items (items item h.n h.end) v e (rw a at g) in rw q (on_items vs (eqb-true _ _ a) p))
      (λ a. split (eqb h.kind map)
      (λ b. let (ms, p, q) = made-gives Members (items (pack_member_at item s) h.n h.end) v e (rw (a, b) at g) in rw q (on_members ms (eqb-true _ _ b) p))
      (λ b. let (u, p, q) = made-gives Plain (pack_scalar_at s h) v e (rw (a, b) at g) in rw q (on_plain u p)))

-- a member's key, and the value behind it
pub pack-member : {A : Type 0} (item : ℕ → Read A) (s : List ℕ) (at : ℕ) (m : Member A) (e : ℕ) → pack_member_at item s at ≡ Gives m e
    → (j : ℕ) × Told s (head_at s at) m.key j × (item j ≡ Gives m.value e)
unfolding pack_member_at
pack-member item s at m e g =
    let (k, j, p, q) = then-gives (pack_text_at s (head_at s at)) (λ k e. made (member k) (item e)) m e g in
    let (v, r, w) = made-gives (member k) (item j) m e q in
    rw w (j, pack-text s (head_at s at) k j p, r)
