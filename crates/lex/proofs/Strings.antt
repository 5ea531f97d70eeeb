-- Strings (RFC 8259, section 7): what `quoted` goes over is a string of the grammar, and a string that stands at a place is read whole.
-- Assumes nothing.
use Rattle.std.specs.Prelude.{Some}
use mathlib.Core.Path.{◌≡◌, refl, sym, ap, ◌∙◌}
use mathlib.Core.Logic.{inl, inr, ⊎_elim}
use Prim.Native.Nat.{ℕ, zero, suc, ◌+◌, ◌-◌, ◌≤◌, ◌<◌}
use mathlib.Core.List.{List, [], ◌∷◌, ◌++◌, append_assoc, append-nil}
use mathlib.Core.Bool.{false, ◌&&◌}
use native.Mathlib.Omega.{arith}
use lib.ListN.{length, drop, length-append, length-drop}
use lib.Seq.{drop-cons}
use lib.Dec.{ltb}
use borrow.Author.Tests.{eqb-true, eqb-false, ne_eqb, ltb-false, le-ltb}
use Rattle.seq.specs.Bytes.{is, byte_at}
use Rattle.seq.specs.Lists.{All, joined}
use Rattle.seq.proofs.Bytes.{byte-in}
use Rattle.seq.proofs.Logic.{split, and_left, and_right}
use Rattle.lex.specs.Lex.{is_hex, hex4, is_escape, escape, char, string, quoted}
use Rattle.lex.specs.Grammar.{Language, Sign, OneOf, ◌·◌, ◌∪◌, Many, Unescaped, Hex, Escaped, String}
use Rattle.lex.proofs.Stands.{stands-next, stands-byte, stands_parts, Reads, reads_then, reads_as, reads_none}
use Rattle.lex.proofs.Stands.{Tests, tests-sign, tests-range, tests-or, tests-last, one_found, one_then, one-is, many-none, many_more}
use Rattle.lex.proofs.Stands.{to_same, to-bad, and-then}

-- ---- the bytes
hex : Tests is_hex Hex
hex = tests-or (tests-range "0" "9") (tests-or (tests-range "A" "F") (tests-range "a" "f"))

short : Tests is_escape (OneOf "\"\\/bfnrt")
unfolding is_escape
short = tests-or (tests-sign "\"") (tests-or (tests-sign "\\") (tests-or (tests-sign "/") (tests-or (tests-sign "b")
    (tests-or (tests-sign "f") (tests-or (tests-sign "n") (tests-or (tests-sign "r") (tests-last "t")))))))

-- char
abbrev Character : Language
Character = Unescaped ∪ Escaped

-- ---- what is read is of the grammar
module _ (s : List ℕ) where
  hex4-reads : (i e : ℕ) → hex4 s i ≡ Some e → Reads (Hex · Hex · Hex · Hex) s i e
  unfolding hex4
  hex4-reads i e h =
      let b₀ = is_hex (byte_at s i) in
      let b₁ = is_hex (byte_at s (i + 1)) in
      let b₂ = is_hex (byte_at s (i + 2)) in
      let b₃ = is_hex (byte_at s (i + 3)) in
      split (b₀ && (b₁ && (b₂ && b₃)))
      (λ t.
      let h₁ = and_right b₀ (b₁ && (b₂ && b₃)) t in
      let h₂ = and_right b₁ (b₂ && b₃) h₁ in
      let q : i + 4 ≡ e = to_same refl (rw t at h) in
      reads_then s i (i + 1) e (one_found hex s i (i + 1) refl refl (and_left b₀ (b₁ && (b₂ && b₃)) t))
      (reads_then s (i + 1) (i + 2) e (one_found hex s (i + 1) (i + 2) refl (omega arith) (and_left b₁ (b₂ && b₃) h₁))
      (reads_then s (i + 2) (i + 3) e (one_found hex s (i + 2) (i + 3) refl (omega arith) (and_left b₂ b₃ h₂))
      (one_found hex s (i + 3) e refl (omega arith) (and_right b₂ b₃ h₂)))))
      (λ t. to-bad (rw t at h) refl)

  escape-reads : (i e : ℕ) → escape s i ≡ Some e → Reads (OneOf "\"\\/bfnrt" ∪ (Sign "u" · Hex · Hex · Hex · Hex)) s i e
  unfolding escape is_escape
  escape-reads i e h = split (is_escape (byte_at s i))
      (λ t. reads_as s i e (λ u z. inl z) (one_found short s i e refl (sym (to_same refl (rw t at h))) t))
      (λ t. split (is "u" (byte_at s i))
      (λ k. reads_as s i e (λ u z. inr z)
      (reads_then s i (i + 1) e (one_found (tests-sign "u") s i (i + 1) refl refl k) (hex4-reads (i + 1) e (rw (t, k) at h))))
      (λ k. to-bad (rw (t, k) at h) refl))

  char-reads : (i e : ℕ) → (byte_at s i ≡ 34 → ⊥) → 32 ≤ byte_at s i → char s i ≡ Some e → Reads Character s i e
  unfolding char
  char-reads i e n l h = split (is "\\" (byte_at s i))
      (λ t. reads_as s i e (λ u z. inr z)
      (reads_then s i (i + 1) e (one_found (tests-sign "\\") s i (i + 1) refl refl t) (escape-reads (i + 1) e (rw t at h))))
      (λ t. record {
        text = byte_at s i ∷ [];
        rest = drop (suc i) s;
        stands = drop-cons s i 0 (byte-in s i (omega arith));
        ends = sym (to_same refl (rw t at h));
        good = inl (byte_at s i, (l, n, eqb-false (byte_at s i) 92 t), refl);
      })

  string-reads : (f i e : ℕ) → string f s i ≡ Some e → Reads (Many Character · Sign "\"") s i e
  unfolding string
  string-reads zero i e h = to-bad h refl
  string-reads (suc f) i e h = split (is "\"" (byte_at s i))
      (λ t. reads_then s i i e (reads_none s i i refl (many-none Character))
      (one_found (tests-sign "\"") s i e refl (sym (to_same refl (rw t at h))) t))
      (λ t. split (ltb (byte_at s i) 0x20)
      (λ k. to-bad (rw (t, k) at h) refl)
      (λ k.
      let (m, p, q) = and-then (char s i) (string f s) e (rw (t, k) at h) in
      let x = reads_then s i m e (char-reads i m (eqb-false (byte_at s i) 34 t) (ltb-false (byte_at s i) 32 k) p) (string-reads f m e q) in
      reads_as s i e (λ u (a, v, e₁, ha, (b, c, e₂, hb, hc)).
      (a ++ b, c, e₁ ∙ ap (λ (w : List ℕ). a ++ w) e₂ ∙ sym (append_assoc a b c), many_more Character a b ha hb, hc)) x))

  pub quoted-found : (i e : ℕ) → quoted s i ≡ Some e → Reads String s i e
  unfolding quoted
  quoted-found i e h = split (is "\"" (byte_at s i))
      (λ t. reads_then s i (i + 1) e (one_found (tests-sign "\"") s i (i + 1) refl refl t) (string-reads (length s) (i + 1) e (rw t at h)))
      (λ t. to-bad (rw t at h) refl)

-- ---- what is of the grammar is read
module _ (s : List ℕ) (i : ℕ) (t r : List ℕ) (h : drop i s ≡ t ++ r) where
  hex4-is : (Hex · Hex · Hex · Hex) t → hex4 s i ≡ Some (i + length t)
  unfolding hex4
  hex4-is g =
      let (t₁, b₀, st₁, l₁, g₁) = one_then hex s i t r h g in
      let (t₂, b₁, st₂, l₂, g₂) = one_then hex s (i + 1) t₁ r st₁ g₁ in
      let (t₃, b₂, st₃, l₃, g₃) = one_then hex s (i + 1 + 1) t₂ r st₂ g₂ in
      let (b₃, st₄, l₄) = one-is hex s (i + 1 + 1 + 1) t₃ r st₃ g₃ in
      let q₂ : i + 2 ≡ i + 1 + 1 = omega arith in
      let q₃ : i + 3 ≡ i + 1 + 1 + 1 = omega arith in
      rw (q₂, q₃, b₀, b₁, b₂, b₃) (ap Some (omega arith))

module _ (s : List ℕ) (i : ℕ) (t r : List ℕ) (h : drop i s ≡ t ++ r) where
  escape-is : (OneOf "\"\\/bfnrt" ∪ (Sign "u" · Hex · Hex · Hex · Hex)) t → escape s i ≡ Some (i + length t)
  unfolding escape is_escape
  escape-is g = ⊎_elim
      (λ (z : OneOf "\"\\/bfnrt" t). let (e, st, l) = one-is short s i t r h z in rw (e, l))
      (λ (z : (Sign "u" · Hex · Hex · Hex · Hex) t).
      let (b, e, st, l, k) = one_then (tests-sign "u") s i t r h z in
      rw (eqb-true (byte_at s i) 117 e, hex4-is s (i + 1) b r st k) (ap Some (omega arith)))
      g

module _ (s : List ℕ) (i : ℕ) (t r : List ℕ) (h : drop i s ≡ t ++ r) where
  char_is : Character t → (is "\"" (byte_at s i) ≡ false) × (ltb (byte_at s i) 0x20 ≡ false) × (char s i ≡ Some (i + length t)) × (0 < length t)
  unfolding char
  char_is g = ⊎_elim
      (λ ((b, (l, n, m), e) : Unescaped t).
      let q : byte_at s i ≡ b = stands-byte s i (b ∷ r) (rw e at h) in
      rw (q, e, ne_eqb b 34 n, le-ltb b 32 l, ne_eqb b 92 m) (refl, refl, refl, omega arith))
      (λ (z : Escaped t).
      let (b, e, st, l, k) = one_then (tests-sign "\\") s i t r h z in
      rw (eqb-true (byte_at s i) 92 e, escape-is s (i + 1) b r st k) (refl, refl, ap Some (omega arith), omega arith))
      g

-- the characters of a string, each of a byte or more, in fuel that is more than their number
string-is : (f : ℕ) (s : List ℕ) (i : ℕ) (ts : List (List ℕ)) (r : List ℕ) → All Character ts → drop i s ≡ joined (λ (t : List ℕ). t) ts ++ (34 ∷ r)
    → length ts < f → string f s i ≡ Some (i + length (joined (λ (t : List ℕ). t) ts) + 1)
unfolding string
string-is zero s i ts r all h l = absurd (omega arith)
string-is (suc f) s i [] r all h l = rw (stands-byte s i (34 ∷ r) h) (ap Some (omega arith))
string-is (suc f) s i (t ∷ ts) r (c, cs) h l =
    let u = joined (λ (t : List ℕ). t) ts in
    let st = h ∙ append_assoc t u (34 ∷ r) in
    let (q, n, k, p) = char_is s i t (u ++ (34 ∷ r)) st c in
    let m = length-append t u in
    rw (q, n, k, string-is f s (i + length t) ts r cs (stands-next s i t (u ++ (34 ∷ r)) st) (omega arith)) (ap Some (omega arith))

characters-many : (ts : List (List ℕ)) → All Character ts → length ts ≤ length (joined (λ (t : List ℕ). t) ts)
characters-many [] all = omega arith
characters-many (t ∷ ts) (c, cs) =
    let (q, n, k, p) = char_is t 0 t [] (sym (append-nil t)) c in
    omega (arith, length-append t (joined (λ (u : List ℕ). u) ts), characters-many ts cs)

body_is : (s : List ℕ) (i : ℕ) (t r : List ℕ) → drop i s ≡ t ++ r → (Many Character · Sign "\"") t → string (length s) s i ≡ Some (i + length t)
body_is s i t r h (b, c, e, (ts, all, eb), ec) =
    let u = joined (λ (t : List ℕ). t) ts in
    let st : drop i s ≡ u ++ (34 ∷ r) = rw (eb, ec) at (stands_parts s i t b c r e h) in
    let l : length t ≡ length b + length c = ap length e ∙ length-append b c in
    let lb : length b ≡ length u = ap length eb in
    let lc : length c ≡ 1 = ap length ec in
    let left : length s - i ≡ length u + suc (length r) = sym (length-drop i s) ∙ ap length st ∙ length-append u (34 ∷ r) in
    let few = characters-many ts all in
    string-is (length s) s i ts r all st (omega arith) ∙ ap Some (omega arith)

pub quoted-is : (s : List ℕ) (i : ℕ) (t r : List ℕ) → drop i s ≡ t ++ r → String t → quoted s i ≡ Some (i + length t)
unfolding quoted
quoted-is s i t r h g =
    let (b, e, st, l, k) = one_then (tests-sign "\"") s i t r h g in
    rw (e, body_is s (i + 1) b r st k) (ap Some (omega arith))

-- a string begins with a quote
pub string-head : (t : List ℕ) → String t → (u : List ℕ) × (t ≡ 34 ∷ u)
string-head t (a, b, e, ha, hb) = (b, rw ha at e)
