-- Texts that stand at a place of a text: `drop i s ≡ t ++ r` says that t stands in s at place i, and r after it. What a reader went over is
-- put together by concatenation, as the languages of specs/Grammar.antt are. Assumes nothing.
use Rattle.std.specs.Prelude.{Some, None, Option}
use mathlib.Core.Path.{◌≡◌, refl, sym, ap, subst, ◌∙◌}
use mathlib.Core.Logic.{inl, inr, ⊎_elim}
use Prim.Native.Nat.{ℕ, suc, ◌+◌}
use Prim.Native.Char.{Char, code}
use mathlib.Core.List.{List, [], ◌∷◌, ◌++◌, append_assoc, append-nil}
use mathlib.Core.Bool.{Bool, true, false, ◌||◌}
use native.Mathlib.Nat.{add-zero}
use native.Mathlib.Omega.{arith}
use lib.ListN.{length, drop, length-append}
use lib.Seq.{drop-cons, drop-drop, drop-append_seam, get_or-drop}
use lib.Dec.{leb}
use borrow.Author.Tests.{eqb-true, eq-eqb, leb-true, le-leb}
use Rattle.seq.specs.Bytes.{is, between, byte_at}
use Rattle.seq.specs.Lists.{All, joined}
use Rattle.seq.proofs.Bytes.{test_in}
use Rattle.seq.proofs.Logic.{split, and_left, and_right, and_both, or_right}
use Rattle.lex.specs.Lex.{and_then, run, past}
use Rattle.lex.specs.Grammar.{Language, Sign, Range, ◌·◌, ◌∪◌, Many}

-- ---- what stands at a place
module _ (s : List ℕ) (i : ℕ) where
  pub stands-next : (t r : List ℕ) → drop i s ≡ t ++ r → drop (i + length t) s ≡ r
  stands-next t r h = sym (drop-drop (length t) i s) ∙ ap (λ (u : List ℕ). drop (length t) u) h ∙ drop-append_seam t r

  -- a byte further on, and the byte at the place itself
  pub stands_at : (u : List ℕ) → drop i s ≡ u → (k : ℕ) → byte_at s (i + k) ≡ byte_at u k
  stands_at u h k = sym (get_or-drop i s k 0) ∙ ap (λ (v : List ℕ). byte_at v k) h

  pub stands-byte : (u : List ℕ) → drop i s ≡ u → byte_at s i ≡ byte_at u 0
  stands-byte u h = ap (λ (j : ℕ). byte_at s j) (sym (add-zero i)) ∙ stands_at u h 0

  -- a text in two parts
  pub stands_parts : (t a b r : List ℕ) → t ≡ a ++ b → drop i s ≡ t ++ r → drop i s ≡ a ++ (b ++ r)
  stands_parts t a b r e h = h ∙ ap (λ (u : List ℕ). u ++ r) e ∙ append_assoc a b r

-- ---- a text of A stands from place i on and ends at e
pub record Reads (A : Language) (s : List ℕ) (i e : ℕ) : Type 0 where
  pub text : List ℕ
  pub rest : List ℕ
  pub stands : drop i s ≡ text ++ rest
  pub ends : e ≡ i + length text
  pub good : A text

module _ (s : List ℕ) where
  pub reads_then : {A B : Language} (i m e : ℕ) → Reads A s i m → Reads B s m e → Reads (A · B) s i e
  reads_then i m e x y =
      let after : drop m s ≡ x.rest = ap (λ (j : ℕ). drop j s) x.ends ∙ stands-next s i x.text x.rest x.stands in
      let l : length (x.text ++ y.text) ≡ length x.text + length y.text = length-append x.text y.text in
      let p : m ≡ i + length x.text = x.ends in
      let q : e ≡ m + length y.text = y.ends in
      record {
        text = x.text ++ y.text;
        rest = y.rest;
        stands = x.stands ∙ ap (λ (u : List ℕ). x.text ++ u) (sym after ∙ y.stands) ∙ sym (append_assoc x.text y.text y.rest);
        ends = omega arith;
        good = (x.text, y.text, refl, x.good, y.good);
      }

  pub reads_as : {A B : Language} (i e : ℕ) → ((t : List ℕ) → A t → B t) → Reads A s i e → Reads B s i e
  reads_as i e f x = record { text = x.text; rest = x.rest; stands = x.stands; ends = x.ends; good = f x.text x.good }

  -- nothing was read
  pub reads_none : {A : Language} (i e : ℕ) → i ≡ e → A [] → Reads A s i e
  reads_none i e q h = record { text = []; rest = drop i s; stands = refl; ends = sym (add-zero i ∙ q); good = h }

-- what fills a text fills all of it
pub reads_all : {A : Language} {s : List ℕ} → Reads A s 0 (length s) → A s
reads_all {A} {s} x = subst A (sym (x.stands ∙ none x.text x.rest short)) x.good
  where
    none : (t r : List ℕ) → length r ≡ 0 → t ++ r ≡ t
    none t [] h = append-nil t
    none t (b ∷ r) h = absurd (omega arith)

    short : length x.rest ≡ 0
    short = let p = x.ends in omega (arith, ap length x.stands ∙ length-append x.text x.rest)

-- ---- texts of one byte, and the test that their byte passes
pub record Tests (p : ℕ → Bool) (A : Language) : Type 0 where
  pub makes : (b : ℕ) → p b ≡ true → A (b ∷ [])
  pub takes : (t : List ℕ) → A t → (b : ℕ) × (t ≡ b ∷ []) × (p b ≡ true)

pub tests-sign : (c : Char) → Tests (is c) (Sign c)
tests-sign c = record { makes = λ b e. ap (λ (x : ℕ). x ∷ []) (eqb-true b (code c) e); takes = λ t e. (code c, e, eq-eqb (code c) (code c) refl) }

pub tests-range : (c d : Char) → Tests (between c d) (Range c d)
tests-range c d = record {
  makes = λ b e.
      let l = leb-true (code c) b (and_left (leb (code c) b) (leb b (code d)) e) in
      let r = leb-true b (code d) (and_right (leb (code c) b) (leb b (code d)) e) in
      (b, (l, r), refl);
  takes = λ t h. (h.0, h.2, and_both (le-leb (code c) h.0 h.1.0) (le-leb h.0 (code d) h.1.1));
}

pub tests-or : {p q : ℕ → Bool} {A B : Language} → Tests p A → Tests q B → Tests (λ b. p b || q b) (A ∪ B)
tests-or {p} {q} {A} {B} x y = record {
  makes = λ b e. split (p b) (λ k. inl (x.makes b k)) (λ k. inr (y.makes b (or_right (p b) (q b) e k)));
  takes = λ t. ⊎_elim
      (λ h. let g = x.takes t h in (g.0, g.1, rw g.2))
      (λ h. let g = y.takes t h in (g.0, g.1, split (p g.0) (λ k. rw k) (λ k. rw k g.2)));
}

-- the last of the signs of a text (`OneOf`)
pub tests-last : (c : Char) → Tests (is c) (Sign c ∪ (λ t. ⊥))
tests-last c = record { makes = λ b e. inl ((tests-sign c).makes b e); takes = λ t. ⊎_elim ((tests-sign c).takes t) (λ h. absurd h) }

module _ {p : ℕ → Bool} {A : Language} (x : Tests p A) where
  pub one_found : (s : List ℕ) (i e : ℕ) → p 0 ≡ false → e ≡ i + 1 → p (byte_at s i) ≡ true → Reads A s i e
  one_found s i e z h k = record {
    text = byte_at s i ∷ [];
    rest = drop (suc i) s;
    stands = drop-cons s i 0 (test_in p s i z k);
    ends = h;
    good = x.makes (byte_at s i) k;
  }

  -- one that stands at the place, and what stands after it
  pub one_then : {B : Language} (s : List ℕ) (i : ℕ) (t r : List ℕ) → drop i s ≡ t ++ r → (A · B) t
      → (b : List ℕ) × (p (byte_at s i) ≡ true) × (drop (i + 1) s ≡ b ++ r) × (length t ≡ 1 + length b) × B b
  one_then s i t r h (a, b, e, ha, hb) =
      let (y, ea, k) = x.takes a ha in
      let q : t ≡ y ∷ b = e ∙ ap (λ (u : List ℕ). u ++ b) ea in
      let st : drop i s ≡ (y ∷ []) ++ (b ++ r) = h ∙ ap (λ (u : List ℕ). u ++ r) q in
      (b, rw (stands-byte s i (y ∷ (b ++ r)) st) k, stands-next s i (y ∷ []) (b ++ r) st, rw q (omega arith), hb)

  pub one-is : (s : List ℕ) (i : ℕ) (t r : List ℕ) → drop i s ≡ t ++ r → A t → (p (byte_at s i) ≡ true) × (drop (i + 1) s ≡ r) × (length t ≡ 1)
  one-is s i t r h g =
      let (y, e, k) = x.takes t g in
      let st : drop i s ≡ (y ∷ []) ++ r = h ∙ ap (λ (u : List ℕ). u ++ r) e in
      (rw (stands-byte s i (y ∷ r) st) k, stands-next s i (y ∷ []) r st, ap length e)

  -- the first byte, where one of these texts stands first
  pub first_passes : (B : Language) (t r : List ℕ) → (A · B) t → p (byte_at (t ++ r) 0) ≡ true
  first_passes B t r (a, b, e, h, k) =
      let g = x.takes a h in
      let q : t ≡ g.0 ∷ b = e ∙ ap (λ (u : List ℕ). u ++ b) g.1 in
      rw q g.2

-- ---- many of them: a run of bytes that pass
pub many-none : (A : Language) → Many A []
many-none A = ([], tt, refl)

pub many_more : (A : Language) (a b : List ℕ) → A a → Many A b → Many A (a ++ b)
many_more A a b h (ts, all, e) = (a ∷ ts, (h, all), ap (λ (u : List ℕ). a ++ u) e)

module _ {p : ℕ → Bool} {A : Language} (x : Tests p A) (z : p 0 ≡ false) where
  run-found : (u : List ℕ) → (a b : List ℕ) × (u ≡ a ++ b) × Many A a × (run p u ≡ length a) × (p (byte_at b 0) ≡ false)
  unfolding run
  run-found [] = ([], [], refl, many-none A, refl, z)
  run-found (b ∷ u) =
      let (a, r, e, h, l, k) = run-found u in
      split (p b)
      (λ t. rw t (b ∷ a, r, ap (λ (v : List ℕ). b ∷ v) e, many_more A (b ∷ []) a (x.makes b t) h, ap suc l, k))
      (λ t. rw t ([], b ∷ u, refl, many-none A, refl, t))

  -- a run that is read ends where a byte fails
  pub past-found : (s : List ℕ) (i : ℕ) → (y : Reads (Many A) s i (past p s i)) × (p (byte_at y.rest 0) ≡ false)
  unfolding past
  past-found s i =
      let (a, r, e, h, l, k) = run-found (drop i s) in
      (record { text = a; rest = r; stands = e; ends = ap (λ (n : ℕ). i + n) l; good = h }, k)

  run-stop : (r : List ℕ) → p (byte_at r 0) ≡ false → run p r ≡ 0
  unfolding run
  run-stop [] k = refl
  run-stop (b ∷ r) k = rw k

  run_is : (ts : List (List ℕ)) (r : List ℕ) → All A ts → p (byte_at r 0) ≡ false
      → run p (joined (λ (t : List ℕ). t) ts ++ r) ≡ length (joined (λ (t : List ℕ). t) ts)
  unfolding run
  run_is [] r h k = run-stop r k
  run_is (t ∷ ts) r (h, hs) k = let (b, e, q) = x.takes t h in rw (e, q) (ap suc (run_is ts r hs k))

  -- and a run that stands there, with a byte that fails after it, is all that is read
  pub past_is : (s : List ℕ) (i : ℕ) (w r : List ℕ) → drop i s ≡ w ++ r → Many A w → p (byte_at r 0) ≡ false → past p s i ≡ i + length w
  unfolding past
  past_is s i w r h (ts, all, e) k = rw (h, e) (ap (λ (n : ℕ). i + n) (run_is ts r all k))

-- ---- a reader's answers
pub to_same : {x : Option ℕ} {a b : ℕ} → x ≡ Some a → x ≡ Some b → a ≡ b
to_same p q = cc

pub to-bad : {A : Type 0} {x : Option ℕ} {a : ℕ} → x ≡ Some a → x ≡ None → A
to-bad p q = let z : ◌≡◌ {A = ℕ} 0 1 = cc in absurd (omega arith)

pub and-then : (x : Option ℕ) (f : ℕ → Option ℕ) (e : ℕ) → and_then x f ≡ Some e → (m : ℕ) × (x ≡ Some m) × (f m ≡ Some e)
and-then (Some m) f e h = (m, refl, h)
and-then None f e h = to-bad h refl
