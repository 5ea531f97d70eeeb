-- Laws of specs/Arrays.antt: an ID and a kind by their head, and one turn of the walk over an array's elements. Assumes nothing.
use Rattle.std.specs.Prelude.{Some, None, Option}
use mathlib.Core.Path.{◌≡◌, refl, sym, ap, ◌∙◌}
use Prim.Native.Nat.{ℕ, zero, suc, ◌+◌, ◌*◌, ◌-◌, ◌≤◌, ◌<◌}
use mathlib.Core.List.{List, [], ◌∷◌, ◌++◌, append-nil, append_assoc}
use mathlib.Core.Bool.{Bool, true, false, cond}
use native.Mathlib.Omega.{arith}
use native.Mathlib.Numerals.{add-one}
use lib.ListN.{length, set, replicate, length-append}
use lib.Dec.{eqb}
use borrow.Author.Tests.{le-leb, lt-leb, ne_eqb, eq-eqb}
use Rattle.seq.specs.declared.Span.{Span}
use Rattle.seq.specs.Bytes.{part, text_of}
use Rattle.seq.specs.Numbers.{last_id}
use Rattle.json_text.specs.Json.{max_bytes}
use Rattle.msgpack.specs.declared.Head.{Head}
use Rattle.msgpack.specs.Head.{head_at, whole, str, array, map}
use Rattle.msgpack.specs.MsgPack.{value}
use Rattle.elements.specs.declared.Elements.{Elements}
use Rattle.elements.specs.Elements.{Items, Are, Not, after, span, on_to, few, blank, at, nothing}
use Rattle.elements.proofs.Laws.{ten, padded-at}
use Rattle.arrays.specs.Arrays.{spans, ended, outer, listed, id_of, kind, kinds_from, held, pushed}

-- ---- an ID and a kind: h is the head
module _ (t : List ℕ) (h : Head) (eh : h ≡ head_at t 0) where
  pub id_other : (h.kind ≡ whole → ⊥) → 0 ≡ id_of t
  unfolding id_of
  id_other k = rw (sym eh, ne_eqb h.kind whole k)

  pub id-large : h.kind ≡ whole → last_id < h.n → 0 ≡ id_of t
  unfolding id_of
  id-large k l = rw (sym eh, k, lt-leb h.n last_id l)

  pub id-is : h.kind ≡ whole → h.n ≤ last_id → h.n ≡ id_of t
  unfolding id_of
  id-is k l = rw (sym eh, k, le-leb h.n last_id l)

  pub kind-string : h.kind ≡ str → 2 ≡ kind t
  unfolding kind
  kind-string k = rw (sym eh, k)

  pub kind-list : h.kind ≡ array → 3 ≡ kind t
  unfolding kind
  kind-list k = rw (sym eh, k)

  pub kind-dict : h.kind ≡ map → 4 ≡ kind t
  unfolding kind
  kind-dict k = rw (sym eh, k)

  module _ (q : h.kind ≡ str → ⊥) (l : h.kind ≡ array → ⊥) (d : h.kind ≡ map → ⊥) (n : ℕ) (en : n ≡ id_of t) where
    pub kind-other : n ≡ 0 → 5 ≡ kind t
    unfolding kind
    kind-other z = rw (sym eh, ne_eqb h.kind str q, ne_eqb h.kind array l, ne_eqb h.kind map d, sym en, z)

    pub kind-id : (n ≡ 0 → ⊥) → 1 ≡ kind t
    unfolding kind
    kind-id z = rw (sym eh, ne_eqb h.kind str q, ne_eqb h.kind array l, ne_eqb h.kind map d, sym en, ne_eqb n 0 z)

-- a kind is one decimal digit
pub kind-small : (t : List ℕ) → kind t ≤ 5
unfolding kind
kind-small t = go (eqb (head_at t 0).kind str) (eqb (head_at t 0).kind array) (eqb (head_at t 0).kind map) (eqb (id_of t) 0)
  where
    go : (a b c d : Bool) → cond a 2 (cond b 3 (cond c 4 (cond d 5 1))) ≤ 5
    go true b c d = omega arith
    go false true c d = omega arith
    go false false true d = omega arith
    go false false false true = omega arith
    go false false false false = omega arith

-- ---- what the code holds
made : {a b c d : ℕ} {u v : List Span} → a ≡ b → c ≡ d → u ≡ v
    → ◌≡◌ {A = Elements} (record { kinds = a; n = c; spans = u }) (record { kinds = b; n = d; spans = v })
made p q r = cc

none_is : (s : List ℕ) (ps : List Span) → ps ≡ [] → nothing ≡ held s ps
unfolding kinds_from
none_is s ps e = rw e

pub none_from : (s : List ℕ) (r : Elements) (ps : List Span) → r ≡ nothing → ps ≡ [] → r ≡ held s ps
none_from s r ps e h = e ∙ none_is s ps h

kinds-snoc : (s : List ℕ) (v : ℕ) (ps : List Span) (p : Span) → kinds_from s v (ps ++ (p ∷ [])) ≡ kinds_from s v ps * 10 + kind (text_of s p)
unfolding kinds_from
kinds-snoc s v [] p = refl
kinds-snoc s v (u ∷ ps) p = kinds-snoc s (v * 10 + kind (text_of s u)) ps p

set-blank : (ps : List Span) (p : Span) (m : ℕ) → set (ps ++ replicate (suc m) blank) (length ps) p ≡ (ps ++ (p ∷ [])) ++ replicate m blank
set-blank [] p m = refl
set-blank (u ∷ ps) p m = ap (λ (l : List Span). u ∷ l) (set-blank ps p m)

held_more : (s : List ℕ) (ps : List Span) (p : Span) → length ps < 7 → pushed s (held s ps) p ≡ held s (ps ++ (p ∷ []))
held_more s ps p h =
    let n : length (ps ++ (p ∷ [])) ≡ length ps + 1 = simp length-append in
    let m : 7 - length ps ≡ suc (7 - length (ps ++ (p ∷ []))) = omega arith in
    made (sym (kinds-snoc s 0 ps p)) (sym n) (rw m (set-blank ps p (7 - length (ps ++ (p ∷ [])))))

-- element k as the code holds it
pub held_at : (s : List ℕ) (ps : List Span) (k : ℕ) → at k (held s ps).spans ≡ at k ps
held_at s ps k = padded-at ps (7 - length ps) k

-- the kinds of at most 7 elements fit
ten-more : (n v : ℕ) (t : List ℕ) → v < ten n → v * 10 + kind t < ten (n + 1)
unfolding ten
ten-more n v t h = rw (add-one n) (omega (arith, kind-small t))

-- ---- n values in a row
down : (k : ℕ) → suc k - 1 ≡ k
down k = omega arith

-- there are n of them
abbrev Counts : ℕ → Items → Type 0
Counts n (Are ps e) = length ps ≡ n
Counts n Not = Unit {0}

module _ (item : ℕ → Option ℕ) where
  pub spans-end : (n p : ℕ) → n ≡ 0 → spans item n p ≡ Are [] p
  unfolding spans
  spans-end zero p e = refl
  spans-end (suc n) p e = absurd (omega arith)

  pub spans-bad : (n p : ℕ) → 0 < n → item p ≡ None → spans item n p ≡ Not
  unfolding spans
  spans-bad zero p l e = absurd (omega arith)
  spans-bad (suc n) p l e = rw e

  pub spans-go : (n p e : ℕ) → 0 < n → item p ≡ Some e → spans item n p ≡ after (span p e ∷ []) (spans item (n - 1) e)
  unfolding spans
  spans-go zero p e l h = absurd (omega arith)
  spans-go (suc n) p e l h = rw (h, down n)

  spans-count : (n p : ℕ) → Counts n (spans item n p)
  unfolding spans
  spans-count zero p = refl
  spans-count (suc n) p = go (item p) (λ e. spans-count n e)
    where
      one : (e : ℕ) (i : Items) → Counts n i → Counts (suc n) (after (span p e ∷ []) i)
      one e (Are us z) h = ap suc h
      one e Not h = tt

      go : (x : Option ℕ) → ((e : ℕ) → Counts n (spans item n e)) → Counts (suc n) (on_to x (λ e. after (span p e ∷ []) (spans item n e)))
      go (Some e) k = one e (spans item n e) (k e)
      go None k = tt

-- what is listed of the elements w
abbrev pub kept : List ℕ → Items → List Span
kept s w = few (ended s w)

-- more than 7 are none
pub kept-many : (s : List ℕ) (item : ℕ → Option ℕ) (n p : ℕ) → 7 < n → kept s (spans item n p) ≡ []
kept-many s item n p l = go (spans item n p) (spans-count item n p)
  where
    go : (i : Items) → Counts n i → kept s i ≡ []
    go (Are us e) h = test (eqb e (length s))
      where
        test : (b : Bool) → few (cond b (Are us e) Not) ≡ []
        test true = rw (lt-leb (length us) 7 (omega arith))
        test false = refl
    go Not h = refl

-- ---- the walk: from place p on `left` elements are to come, with those so far in r the array's elements are w
pub record Walk (s : List ℕ) (p left : ℕ) (r : Elements) (w : Items) : Type 0 where
  pub ps : List Span
  pub holds : r ≡ held s ps
  pub count : length ps ≡ r.n
  pub small : r.kinds < ten r.n
  pub room : r.n + left ≤ 7
  pub rest : after ps (spans (value 7 s) left p) ≡ w

after_none : (i : Items) → after [] i ≡ i
after_none (Are us e) = refl
after_none Not = refl

after-after : (ps us : List Span) (i : Items) → after ps (after us i) ≡ after (ps ++ us) i
after-after ps us (Are vs e) = ap (λ (l : List Span). Are l e) (sym (append_assoc ps us vs))
after-after ps us Not = refl

pub walk_begins : (s : List ℕ) (p n : ℕ) (r : Elements) → r ≡ nothing → n ≤ 7 → Walk s p n r (spans (value 7 s) n p)
unfolding ten
walk_begins s p n r e l = record {
  ps = [];
  holds = none_from s r [] e refl;
  count = ap (λ (x : Elements). x.n) (sym e);
  small = rw e (omega arith);
  room = rw e (omega arith);
  rest = after_none (spans (value 7 s) n p);
}

module _ (s : List ℕ) (p left : ℕ) (r : Elements) (w : Items) (k : Walk s p left r w) where
  so_far : (i : Items) → spans (value 7 s) left p ≡ i → after k.ps i ≡ w
  so_far i e = ap (after k.ps) (sym e) ∙ k.rest

  pub walk-goes : (e : ℕ) (r' : Elements) → 0 < left → value 7 s p ≡ Some e → r' ≡ pushed s r (span p e) → Walk s e (left - 1) r' w
  walk-goes e r' l v q = record {
    ps = k.ps ++ (span p e ∷ []);
    holds = q ∙ ap (λ (x : Elements). pushed s x (span p e)) k.holds ∙ held_more s k.ps (span p e) (omega (arith, k.count, k.room));
    count = rw q (simp length-append (omega (arith, k.count)));
    small = rw q (ten-more r.n r.kinds (part p e s) k.small);
    room = rw q (omega (arith, k.room));
    rest =
        sym (after-after k.ps (span p e ∷ []) (spans (value 7 s) (left - 1) e))
        ∙ so_far (after (span p e ∷ []) (spans (value 7 s) (left - 1) e)) (spans-go (value 7 s) left p e l v);
  }

  pub walk-fails : 0 < left → value 7 s p ≡ None → kept s w ≡ []
  walk-fails l v = ap (kept s) (sym (so_far Not (spans-bad (value 7 s) left p l v)))

  module _ (z : left ≡ 0) where
    at-end : after k.ps (Are [] p) ≡ w
    at-end = so_far (Are [] p) (spans-end (value 7 s) left p z)

    pub walk_ends : p ≡ length s → r ≡ held s (kept s w)
    walk_ends e = k.holds ∙ ap (held s) (sym (ap (kept s) (sym at-end) ∙ kept-is))
      where
        kept-is : kept s (Are (k.ps ++ []) p) ≡ k.ps
        kept-is = rw (append-nil k.ps, eq-eqb p (length s) e, le-leb (length k.ps) 7 (omega (arith, k.count, k.room)))

    pub walk-trails : (p ≡ length s → ⊥) → kept s w ≡ []
    walk-trails e = ap (kept s) (sym at-end) ∙ kept-not
      where
        kept-not : kept s (Are (k.ps ++ []) p) ≡ []
        kept-not = rw (ne_eqb p (length s) e)

-- ---- the whole text: h is its head
pub listed-long : (s : List ℕ) → max_bytes < length s → listed s ≡ []
unfolding listed outer
listed-long s l = rw (lt-leb (length s) max_bytes l)

module _ (s : List ℕ) (h : Head) (eh : h ≡ head_at s 0) (l : length s ≤ max_bytes) where
  pub listed-not : (h.kind ≡ array → ⊥) → listed s ≡ []
  unfolding listed outer
  listed-not k = rw (le-leb (length s) max_bytes l, sym eh, ne_eqb h.kind array k)

  pub listed-is : h.kind ≡ array → listed s ≡ kept s (spans (value 7 s) h.n h.end)
  unfolding listed outer
  listed-is k = rw (le-leb (length s) max_bytes l, sym eh, k)
