-- A list's elements: `enclosed` of specs/Json.antt reads exactly the lists of specs/Grammar.antt, where each element is read as a text of a set.
-- Assumes nothing.
use Rattle.std.specs.Prelude.{Some, Option}
use Prim.Native.Nat.{ℕ, zero, suc, ◌+◌, ◌<◌}
use mathlib.Core.List.{List, [], ◌∷◌, ◌++◌, append_assoc}
use mathlib.Core.Logic.{◌⊎◌, inl, inr, ⊎_elim}
use mathlib.Core.Path.{◌≡◌, refl, sym, ap, ◌∙◌}
use native.Mathlib.Omega.{arith}
use lib.ListN.{length, drop, length-append}
use Rattle.seq.specs.Lists.{All}
use Rattle.seq.specs.Bytes.{byte_at}
use Rattle.lex.specs.declared.Mark.{Mark}
use Rattle.lex.specs.declared.Mark.TheVariants.{Item, End, Neither}
use Rattle.lex.specs.Lex.{first, next}
use Rattle.lex.specs.Grammar.{Language, Is, ◌·◌}
use Rattle.lex.proofs.Stands.{reads_then, to_same, to-bad, and-then}
use Rattle.lex.proofs.Tokens.{Ends, Reads, stands-next}
use Rattle.json_text.specs.Json.{follow, series, enclosed}
use Rattle.json_text.specs.Grammar.{Rest, Array}
use Rattle.json_text.proofs.Items.{reads-with, reads-own, stands-short, Begins}
use Rattle.json_text.proofs.Items.{bracket, last_found, next-found, none_found, first_found, rest-length, rest-ends, last-is, next-is, none_is, first-is}

-- ---- what an answer tells
pub follow-to : (m : Mark) (k : ℕ → Option ℕ) (e : ℕ) → follow m k ≡ Some e → (m ≡ End e) ⊎ ((a : ℕ) × (m ≡ Item a) × (k a ≡ Some e))
follow-to (Item a) k e h = inr (a, refl, h)
follow-to (End a) k e h = inl (ap End (to_same refl h))
follow-to Neither k e h = to-bad h refl

-- ---- a list's elements, of which each is of A
module _ (A : Language) (item : ℕ → Option ℕ) (s : List ℕ) where
  -- the elements from the first one's first byte on
  abbrev Elements : Language
  Elements u = (t : List ℕ) × (ts : List (List ℕ)) × A t × All A ts × (Is t · Rest "]" ts) u

  -- an element and the closing byte; an element and those after the comma
  element-last : (a j e : ℕ) → Reads A s a j → next 93 s j ≡ End e → Reads Elements s a e
  element-last a j e x h = let y = reads_then s a j e (reads-own x) (last_found bracket s j e h) in reads-with y (x.text, [], x.good, tt, y.good)

  element-next : (a j b e : ℕ) → Reads A s a j → next 93 s j ≡ Item b → Reads Elements s b e → Reads Elements s a e
  element-next a j b e x h z =
      let (t, ts, g, gs, k) = z.good in
      let y = reads_then s a j e (reads-own x) (next-found bracket s j b e t ts h (reads-with z k)) in
      reads-with y (x.text, t ∷ ts, x.good, (g, gs), y.good)

  module _ (found : (i e : ℕ) → item i ≡ Some e → Reads A s i e) where
    pub series-found : (f a e : ℕ) → series item 93 f s a ≡ Some e → Reads Elements s a e
    unfolding series
    series-found zero a e h = to-bad h refl
    series-found (suc f) a e h =
        let (j, p, q) = and-then (item a) _ e h in
        ⊎_elim (element-last a j e (found a j p)) (λ (b, m, g). element-next a j b e (found a j p) m (series-found f b e g)) (follow-to (next 93 s j) _ e q)

    pub list-found : (i e : ℕ) → byte_at s i ≡ 91 → enclosed item 93 s (i + 1) ≡ Some e
        → Reads (λ t. (es : List (List ℕ)) × All A es × Array es t) s i e
    unfolding enclosed
    list-found i e b h = ⊎_elim none (λ (a, m, g). some a m (series-found (length s) a e g)) (follow-to (first 93 s (i + 1)) _ e h)
      where
        none : first 93 s (i + 1) ≡ End e → Reads (λ t. (es : List (List ℕ)) × All A es × Array es t) s i e
        none m = let y = none_found bracket s "[" (omega arith) i b e m in reads-with y ([], tt, y.good)

        some : (a : ℕ) → first 93 s (i + 1) ≡ Item a → Reads Elements s a e → Reads (λ t. (es : List (List ℕ)) × All A es × Array es t) s i e
        some a m z =
            let (t, ts, g, gs, k) = z.good in
            let y = first_found bracket s "[" (omega arith) i b a e t ts m (reads-with z k) in
            reads-with y (t ∷ ts, (g, gs), y.good)

  module _ (begins : (t : List ℕ) → A t → Begins t) (is : (i : ℕ) (t r : List ℕ) → drop i s ≡ t ++ r → A t → Ends r → item i ≡ Some (i + length t)) where
    pub series-is : (ts : List (List ℕ)) (t : List ℕ) (f a : ℕ) (u r : List ℕ) → drop a s ≡ u ++ r → A t → All A ts → (Is t · Rest "]" ts) u
        → length ts < f → series item 93 f s a ≡ Some (a + length u)
    unfolding series
    series-is ts t zero a u r h g gs m l = absurd (omega arith)
    series-is [] t (suc f) a u r h g gs (x, y, e, q, m) l = rw (
      is a t (y ++ r) whole g (rest-ends bracket [] y r m),
      last-is bracket s (a + length t) y r (stands-next s a t (y ++ r) whole) m,
    ) (ap Some (rw (e, q, length-append t y) (omega arith)))
      where
        whole : drop a s ≡ t ++ (y ++ r)
        whole = h ∙ rw (e, q, append_assoc t y r)
    series-is (t' ∷ ts) t (suc f) a u r h g gs (x, y, e, q, m) l = rw (
      is a t (y ++ r) whole g (rest-ends bracket (t' ∷ ts) y r m),
      more.2,
      series-is ts t' f more.0 more.1 r more.3 gs.0 gs.1 more.4 (omega arith),
    ) (ap Some (sym (long ∙ more.5)))
      where
        long : a + length u ≡ a + length t + length y
        long = rw (e, q, length-append t y) (omega arith)

        whole : drop a s ≡ t ++ (y ++ r)
        whole = h ∙ rw (e, q, append_assoc t y r)

        more : (b : ℕ) × (z : List ℕ) × (next 93 s (a + length t) ≡ Item b) × (drop b s ≡ z ++ r) × (Is t' · Rest "]" ts) z
            × (a + length t + length y ≡ b + length z)
        more = next-is bracket s (a + length t) y r (stands-next s a t (y ++ r) whole) t' ts (begins t' gs.0) m

    pub list-is : (es : List (List ℕ)) (i : ℕ) (t r : List ℕ) → drop i s ≡ t ++ r → All A es → Array es t → enclosed item 93 s (i + 1) ≡ Some (i + length t)
    unfolding enclosed
    list-is [] i t r h gs m = rw (none_is bracket s i t r h "[" m)
    list-is (x ∷ es) i t r h gs m =
        let b = begins x gs.0 in
        let (a, u, p, q, k, n) = first-is bracket s i t r h "[" x es b b.4 m in
        let z = rest-length bracket es k.1 k.4 in
        let w = stands-short s a u r q in
        rw (p, series-is es x (length s) a u r q gs.0 gs.1 k (omega (arith, ap length k.2 ∙ length-append k.0 k.1))) (ap Some (sym n))
