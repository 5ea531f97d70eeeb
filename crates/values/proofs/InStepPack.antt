-- MsgPack: the reader of messages goes in step with what stands. Assumes nothing.
use Rattle.std.specs.Prelude.{Some, None, Option}
use Prim.Native.Nat.{ℕ, zero, suc}
use mathlib.Core.Bool.{true, false, cond}
use mathlib.Core.List.{List, [], ◌∷◌}
use mathlib.Core.Path.{◌≡◌, refl}
use borrow.Author.Tests.{eqb-true}
use lib.Dec.{eqb, ltb}
use Rattle.seq.specs.Bytes.{part}
use Rattle.seq.specs.Lists.{All}
use Rattle.seq.specs.declared.Format.TheVariants.{MsgPack}
use Rattle.seq.proofs.Logic.{split}
use Rattle.lex.specs.Lex.{and_then}
use Rattle.msgpack.specs.declared.Head.{Head}
use Rattle.msgpack.specs.Head.{head_at, nil, no, yes, whole, below, str, array, map}
use Rattle.msgpack.specs.MsgPack.{text, times, with_key, again, pairs, by_head, value}
use Rattle.values.specs.Value.{Scalar, GoodScalar, GoodLayer, Good}
use Rattle.values.specs.Value.Scalar.{Null, Flag, Whole, Below, Text}
use Rattle.values.specs.Value.Layer.{Plain, Items, Members}
use Rattle.values.specs.Read.{Read, then, made, past}
use Rattle.values.specs.Read.Read.{Gives}
use Rattle.values.specs.Stands.{member, text_at, pack_text_at, pack_scalar_at, items, pack_member_at, pack_layer_at, stands}
use Rattle.values.proofs.InStep.{Agree, agree-past, agree-made, agree-cons, New, new_none, agree-member}

items-agree : {A : Type 0} (P : A → Type 0) (r : ℕ → Read A) (k : ℕ → Option ℕ) → ((at : ℕ) → Agree P (r at) (k at)) → (n at : ℕ)
    → Agree (All P) (items r n at) (times k n at)
unfolding items times
items-agree P r k h zero at = refl
items-agree P r k h (suc n) at = agree-cons P (items r n) (times k n) (items-agree P r k h n) (r at) (k at) (h at)

module _ (s : List ℕ) where
  -- a str by its head
  text-agree : (ar ma : ℕ → ℕ → Option ℕ) (h : Head) → Agree (λ t. GoodScalar (Text t)) (pack_text_at s h) (by_head ar ma s h)
  unfolding pack_text_at text_at by_head
  text-agree ar ma h =
      split (eqb h.kind str)
      (λ t. rw (eqb-true h.kind str t) (agree-past (λ t. GoodScalar (Text t)) (λ e. part h.end e s) (text s h.end h.n)))
      (λ t. rw t tt)

  -- a value with no bytes behind its head
  done-agree : (ar ma : ℕ → ℕ → Option ℕ) (h : Head) (k : ℕ) → h.kind ≡ k → ltb k str ≡ true → (v : Scalar)
      → Agree GoodScalar (Gives v h.end) (by_head ar ma s h)
  unfolding by_head
  done-agree ar ma h k e l v = rw (e, l) refl

  scalar-agree : (ar ma : ℕ → ℕ → Option ℕ) (h : Head) → Agree GoodScalar (pack_scalar_at s h) (by_head ar ma s h)
  unfolding pack_scalar_at
  scalar-agree ar ma h =
      split (eqb h.kind nil) (λ a. rw a (done-agree ar ma h nil (eqb-true h.kind nil a) refl Null))
      (λ a. rw a (split (eqb h.kind no) (λ b. rw b (done-agree ar ma h no (eqb-true h.kind no b) refl (Flag false)))
      (λ b. rw b (split (eqb h.kind yes) (λ c. rw c (done-agree ar ma h yes (eqb-true h.kind yes c) refl (Flag true)))
      (λ c. rw c (split (eqb h.kind whole) (λ d. rw d (done-agree ar ma h whole (eqb-true h.kind whole d) refl (Whole h.n)))
      (λ d. rw d (split (eqb h.kind below) (λ e. rw e (done-agree ar ma h below (eqb-true h.kind below e) refl (Below h.n)))
      (λ e. rw e
      (agree-made (λ t. GoodScalar (Text t)) GoodScalar Text (λ t g. g) (pack_text_at s h) (by_head ar ma s h) (text-agree ar ma h)))))))))))

  -- a reader of values that reads a str by its head
  abbrev Texts : (ℕ → Option ℕ) → Type 0
  Texts k = (at : ℕ) → (head_at s at).kind ≡ str → k at ≡ text s (head_at s at).end (head_at s at).n

  -- n members and n pairs
  module _ {A : Type 0} (P : A → Type 0) (r : ℕ → Read A) (k : ℕ → Option ℕ) (kt : Texts k) (h : (at : ℕ) → Agree P (r at) (k at)) where
    -- behind a key, which ends where c says
    key-agree : (n at : ℕ) (seen : List (List ℕ)) → (head_at s at).kind ≡ str
        → ((seen : List (List ℕ)) (e : ℕ) → Agree (New P seen) (items (pack_member_at r s) n e) (pairs k s seen n e)) → (c : Option ℕ)
        → Agree (New P seen)
        (then (then (past c (λ e. Gives (part (head_at s at).end e s) e)) (λ k e. made (member k) (r e)))
        (λ m e. made (λ ms. m ∷ ms) (items (pack_member_at r s) n e)))
        (and_then c (λ e. cond (again s (head_at s at) e seen) None (and_then (k e) (pairs k s (with_key s (head_at s at) e seen) n))))
    unfolding again with_key
    key-agree n at seen t go (Some e) =
        rw t
        (agree-member P (part (head_at s at).end e s) seen (items (pack_member_at r s) n) (pairs k s (part (head_at s at).end e s ∷ seen) n)
        (go (part (head_at s at).end e s ∷ seen)) (r e) (k e) (h e))
    key-agree n at seen t go None = tt

    members-agree : (n : ℕ) (seen : List (List ℕ)) (at : ℕ) → Agree (New P seen) (items (pack_member_at r s) n at) (pairs k s seen n at)
    unfolding items pairs pack_member_at pack_text_at text_at
    members-agree zero seen at = refl
    members-agree (suc n) seen at =
        split (eqb (head_at s at).kind str)
        (λ t.
        let e = eqb-true (head_at s at).kind str t in
        rw (t, kt at e) (key-agree n at seen e (members-agree n) (text s (head_at s at).end (head_at s at).n)))
        (λ t. rw t tt)

    module _ (d : Head) where
      array-agree : d.kind ≡ array → Agree (GoodLayer P) (pack_layer_at r s d) (by_head (times k) (pairs k s []) s d)
      unfolding pack_layer_at by_head
      array-agree e =
          rw e
          (agree-made (All P) (GoodLayer P) Items (λ vs g. g.1) (items r d.n d.end) (times k d.n d.end) (items-agree P r k h d.n d.end))

      map-agree : d.kind ≡ map → Agree (GoodLayer P) (pack_layer_at r s d) (by_head (times k) (pairs k s []) s d)
      unfolding pack_layer_at by_head
      map-agree e =
          rw e
          (agree-made (New P []) (GoodLayer P) Members (λ ms g. new_none P ms g.1 g.2) (items (pack_member_at r s) d.n d.end)
          (pairs k s [] d.n d.end) (members-agree d.n [] d.end))

      layer-agree : Agree (GoodLayer P) (pack_layer_at r s d) (by_head (times k) (pairs k s []) s d)
      unfolding pack_layer_at
      layer-agree =
          split (eqb d.kind array) (λ t. array-agree (eqb-true d.kind array t))
          (λ t. split (eqb d.kind map) (λ u. map-agree (eqb-true d.kind map u))
          (λ u. rw (t, u)
          (agree-made GoodScalar (GoodLayer P) Plain (λ v g. g) (pack_scalar_at s d) (by_head (times k) (pairs k s []) s d)
          (scalar-agree (times k) (pairs k s []) d))))

  value-texts : (d : ℕ) → Texts (value d s)
  unfolding value by_head
  value-texts zero at e = rw e
  value-texts (suc d) at e = rw e

  pub pack-agree : (depth at : ℕ) → Agree (Good depth) (stands MsgPack depth s at) (value depth s at)
  unfolding stands value
  pack-agree zero at = scalar-agree _ _ (head_at s at)
  pack-agree (suc d) at = layer-agree (Good d) (stands MsgPack d s) (value d s) (value-texts d) (pack-agree d) (head_at s at)
