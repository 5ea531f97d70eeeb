-- The texts of specs/Spelling.antt, byte by byte, and what stands at the head of a text that one of them begins. Assumes nothing.
use Prim.Native.Nat.{ℕ, ◌+◌, ◌*◌, ◌/◌, ◌≤◌, ◌<◌}
use Prim.Native.Char.{code}
use mathlib.Core.Path.{◌≡◌, refl, sym, ap, ap₂, ◌∙◌}
use mathlib.Core.Logic.{◌⊎◌, inl, inr, ⊎_elim}
use mathlib.Core.List.{List, [], ◌∷◌, ◌++◌}
use mathlib.Core.Bool.{Bool, true, false, not, ◌&&◌, ◌||◌}
use native.Mathlib.Decide.{dec_lt, dec_le}
use native.Mathlib.Omega.{arith}
use lib.Dec.{T, eqb, leb, ltb}
use borrow.Author.Tests.{eqb-true, ltb-true, ne_eqb, le-leb, lt-leb}
use Rattle.seq.specs.Bytes.{is, byte_at, chars}
use Rattle.seq.specs.Lists.{All, In, every}
use Rattle.seq.proofs.Logic.{split, clash, and_left, and_right, and_both, and-false, not_is}
use Rattle.seq.proofs.Rules.{all_in, all_map, all-every, every-all}
use Rattle.seq.proofs.Table.{at}
use Rattle.utf8.specs.Table.{Scalar, encoding}
use Rattle.strings.specs.Strings.{digit, unit, is_high, is_low, is_half, pair, low_at, short, spelled, escape, undone, has_lone, is_plain}
use Rattle.strings.specs.Spelling.{High, Low, Half, AsItself, popular, InTwo, HexDigit, InSix, InTwelve, Spells}
use Rattle.strings.proofs.Steps.{range, digit-small, paired, escape-unit, escape-pair, undone-escape, lone-escape, undone-short, lone-short}
use Rattle.strings.proofs.Plain.{plain-front, lone-front}
use Rattle.strings.proofs.Rows.{by_row, encoding1, rows-high}

-- ---- digits
pub passed : (t : Bool) → T t → t ≡ true
passed true h = refl
passed false h = absurd h

hex-number : (n : ℕ) (t : List ℕ) → HexDigit n t → (w : ℕ) × (t ≡ w ∷ []) × (digit w ≡ n)
unfolding digit
hex-number n t (l, h) = ⊎_elim (λ e. (_, e, upper)) (λ e. (_, e, lower)) h
  where
    upper : digit (byte_at (chars "0123456789ABCDEF") n) ≡ n
    upper = eqb-true _ n (passed _ (at (λ k b. eqb (digit b) k) (chars "0123456789ABCDEF") tt n l))

    lower : digit (byte_at (chars "0123456789abcdef") n) ≡ n
    lower = eqb-true _ n (passed _ (at (λ k b. eqb (digit b) k) (chars "0123456789abcdef") tt n l))

-- the number in four digits
abbrev pub four : ℕ → ℕ → ℕ → ℕ → ℕ
four w x y z = ((digit w * 16 + digit x) * 16 + digit y) * 16 + digit z

abbrev pub six_of : ℕ → ℕ → ℕ → ℕ → List ℕ → List ℕ
six_of w x y z r = code "\\" ∷ code "u" ∷ w ∷ x ∷ y ∷ z ∷ r

pub joins : (t a b r : List ℕ) (w : ℕ) → t ≡ a ++ b → a ≡ w ∷ [] → b ≡ r → t ≡ w ∷ r
joins t a b r w e p q = rw (e, p, q)

pub six-text : (c : ℕ) (t : List ℕ) → InSix c t → (w x y z : ℕ) × (t ≡ six_of w x y z []) × (c ≡ four w x y z)
six-text c t (d₃, d₂, d₁, d₀, n, (a, b, e, h, (a₃, b₃, e₃, h₃, (a₂, b₂, e₂, h₂, (a₁, b₁, e₁, h₁, h₀))))) =
    let (w, p₃, q₃) = hex-number d₃ a₃ h₃ in
    let (x, p₂, q₂) = hex-number d₂ a₂ h₂ in
    let (y, p₁, q₁) = hex-number d₁ a₁ h₁ in
    let (z, p₀, q₀) = hex-number d₀ b₁ h₀ in
    let tail = joins b a₃ b₃ (x ∷ y ∷ z ∷ []) w e₃ p₃ (joins b₃ a₂ b₂ (y ∷ z ∷ []) x e₂ p₂ (joins b₂ a₁ b₁ (z ∷ []) y e₁ p₁ p₀)) in
    (w, x, y, z, rw (e, h, tail), omega arith)

-- ---- an escape of six bytes, and two of them that are a pair
module _ (w x y z : ℕ) (r : List ℕ) where
  six-unit : unit (six_of w x y z r) 2 ≡ four w x y z
  unfolding unit
  six-unit = refl

  six-paired : paired (six_of w x y z r) ≡ (is_high (four w x y z) && low_at r 0)
  unfolding unit low_at
  six-paired = refl

  low-six : low_at (six_of w x y z r) 0 ≡ is_low (four w x y z)
  unfolding unit low_at
  low-six = refl

  pub four-small : four w x y z ≤ 0xffff
  four-small = let a = digit-small w in let b = digit-small x in let c = digit-small y in let d = digit-small z in omega arith

  module _ (p : (is_high (four w x y z) && low_at r 0) ≡ false) where
    escape-six : escape (six_of w x y z r) ≡ spelled (four w x y z) 6
    escape-six = escape-unit (six_of w x y z r) refl (six-paired ∙ p) ∙ ap (λ n. spelled n 6) six-unit

    undone-six : undone (six_of w x y z r) ≡ encoding (four w x y z) ++ undone r
    undone-six = undone-escape (code "\\") (code "u" ∷ w ∷ x ∷ y ∷ z ∷ r) refl ∙ rw escape-six

    lone-six : has_lone (six_of w x y z r) ≡ (is_half (four w x y z) || has_lone r)
    lone-six = lone-escape (code "\\") (code "u" ∷ w ∷ x ∷ y ∷ z ∷ r) refl ∙ rw escape-six

module _ (w x y z a b c d : ℕ) (r : List ℕ) (n : ℕ) (p : is_high (four w x y z) ≡ true) (q : is_low (four a b c d) ≡ true)
    (e : pair (four w x y z) (four a b c d) ≡ n) where
  abbrev twelve : List ℕ
  twelve = six_of w x y z (six_of a b c d r)

  low-unit : unit twelve 8 ≡ four a b c d
  unfolding unit
  low-unit = refl

  escape-twelve : escape twelve ≡ spelled n 12
  escape-twelve =
      escape-pair twelve refl (six-paired w x y z (six_of a b c d r) ∙ and_both p (low-six a b c d r ∙ q))
      ∙ rw (six-unit w x y z (six_of a b c d r), low-unit, e)

  undone-twelve : undone twelve ≡ encoding n ++ undone r
  undone-twelve = undone-escape (code "\\") (code "u" ∷ w ∷ x ∷ y ∷ z ∷ six_of a b c d r) refl ∙ rw escape-twelve

  lone-twelve : has_lone twelve ≡ (is_half n || has_lone r)
  lone-twelve = lone-escape (code "\\") (code "u" ∷ w ∷ x ∷ y ∷ z ∷ six_of a b c d r) refl ∙ rw escape-twelve

-- ---- what is spelled is a character or a half
not-half : (c : ℕ) → Scalar c → is_half c ≡ false
not-half c (inl h) = rw (lt-leb 0xd800 c h)
not-half c (inr (g, h)) = and-false (leb 0xd800 c) (leb c 0xdfff) (lt-leb c 0xdfff g)

-- the escapes of two bytes
pub record Popular (b c : ℕ) : Type 0 where
  pub other : is "u" b ≡ false
  pub means : short b ≡ c
  pub ascii : c < 0x80

pub popular-rows : (b c : ℕ) → In (b, c) popular → Popular b c
unfolding short every
popular-rows b c i =
    let other : ℕ × ℕ → Bool = λ p. not (is "u" p.0) in
    let means : ℕ × ℕ → Bool = λ p. eqb (short p.0) p.1 in
    let ascii : ℕ × ℕ → Bool = λ p. ltb p.1 0x80 in
    record {
      other = not_is (is "u" b) (all_in (λ p. other p ≡ true) popular (b, c) (every-all other popular refl) i);
      means = eqb-true (short b) c (all_in (λ p. means p ≡ true) popular (b, c) (every-all means popular refl) i);
      ascii = ltb-true c 0x80 (all_in (λ p. ascii p ≡ true) popular (b, c) (every-all ascii popular refl) i);
    }

pub codes : (c : ℕ) (t : List ℕ) → Spells c t → Scalar c ⊎ Half c
codes c t (inl h) = inl h.0
codes c t (inr (inl (b, i, e))) = let l = (popular-rows b c i).ascii in inl (inl (omega arith))
codes c t (inr (inr (inl h))) =
    let (w, x, y, z, e, n) = six-text c t h in
    let l = four-small w x y z [] in
    elim (dec_lt c 0xd800) [
      | yes p ↦ inl (inl p)
      | no p ↦ elim (dec_le c 0xdfff) [ yes q ↦ inr (omega arith, q) | no q ↦ inl (inr (omega arith, omega arith)) ]
    ]
codes c t (inr (inr (inr (h, l, p, q, e, r)))) = inl (inr (omega arith, omega arith))

-- ---- undoing takes a character at the head of a text. A high half is taken alone where no low one stands behind it
pub record Taken (c : ℕ) (a r : List ℕ) : Type 0 where
  pub text : undone (a ++ r) ≡ encoding c ++ undone r
  pub lone : has_lone (a ++ r) ≡ (is_half c || has_lone r)

high-plain : (t : List ℕ) → All (λ b. 0x80 ≤ b) t → is_plain t ≡ true
high-plain t a = all-every (λ b. not (is "\\" b)) t (all_map (λ b. 0x80 ≤ b) (λ b. not (is "\\" b) ≡ true) (λ b h. rw (ne_eqb b 92 (λ e. omega arith))) t a)

itself-plain : (c : ℕ) → ¬ (c ≡ code "\\") → is_plain (encoding c) ≡ true
unfolding every
itself-plain c n = elim (dec_lt c 0x80) [ yes p ↦ rw (encoding1 c p, ne_eqb c 92 n) | no p ↦ high-plain (encoding c) (rows-high c (omega arith)) ]

itself-first : (c : ℕ) (r : List ℕ) → ¬ (c ≡ code "\\") → is "\\" (byte_at (encoding c ++ r) 0) ≡ false
itself-first c r n = by_row c (λ u. is "\\" (byte_at (u ++ r) 0) ≡ false)
    (λ p. ne_eqb c 92 n)
    (λ g p. ne_eqb (0xc0 + c / 64) 92 (λ k. omega arith))
    (λ g p. ne_eqb (0xe0 + c / 4096) 92 (λ k. omega arith))
    (λ g. ne_eqb (0xf0 + c / 262144) 92 (λ k. omega arith))

module _ (c : ℕ) (a r : List ℕ) where
  taken-itself : AsItself c a → Taken c a r
  taken-itself (s, g, q, n, e) =
      let p = itself-plain c n in
      record {
        text = ap (λ (u : List ℕ). undone (u ++ r)) e ∙ plain-front (encoding c) r p;
        lone = ap (λ (u : List ℕ). has_lone (u ++ r)) e ∙ lone-front (encoding c) r p ∙ rw (not-half c s);
      }

  taken-two : InTwo c a → Taken c a r
  taken-two (b, i, e) =
      let p = popular-rows b c i in
      record {
        text = ap (λ (u : List ℕ). undone (u ++ r)) e ∙ undone-short b r p.other ∙ rw p.means;
        lone = ap (λ (u : List ℕ). has_lone (u ++ r)) e ∙ lone-short b r p.other ∙ rw p.means;
      }

  taken-six : (High c → low_at r 0 ≡ false) → InSix c a → Taken c a r
  taken-six f h =
      let (w, x, y, z, e, n) = six-text c a h in
      let p : (is_high c && low_at r 0) ≡ false = split (is_high c) (λ k. rw (k, f (range 0xd800 0xdbff c k))) (λ k. rw k) in
      let q : (is_high (four w x y z) && low_at r 0) ≡ false = rw n at p in
      record {
        text = ap (λ (u : List ℕ). undone (u ++ r)) e ∙ undone-six w x y z r q ∙ ap (λ (m : ℕ). encoding m ++ undone r) (sym n);
        lone = ap (λ (u : List ℕ). has_lone (u ++ r)) e ∙ lone-six w x y z r q ∙ ap (λ (m : ℕ). is_half m || has_lone r) (sym n);
      }

  taken-twelve : InTwelve c a → Taken c a r
  taken-twelve (h, l, lh, ll, e, (a₁, a₂, ea, s₁, s₂)) =
      let (w, x, y, z, e₁, n₁) = six-text (0xd800 + h) a₁ s₁ in
      let (w', x', y', z', e₂, n₂) = six-text (0xdc00 + l) a₂ s₂ in
      let high : is_high (four w x y z) ≡ true = rw n₁ at (and_both (le-leb 0xd800 (0xd800 + h) (omega arith)) (le-leb (0xd800 + h) 0xdbff (omega arith))) in
      let low : is_low (four w' x' y' z') ≡ true = rw n₂ at (and_both (le-leb 0xdc00 (0xdc00 + l) (omega arith)) (le-leb (0xdc00 + l) 0xdfff (omega arith))) in
      let q : pair (four w x y z) (four w' x' y' z') ≡ c = omega arith in
      let k : a ≡ six_of w x y z (six_of w' x' y' z' []) = ea ∙ ap₂ (λ (u v : List ℕ). u ++ v) e₁ e₂ in
      record {
        text = ap (λ (u : List ℕ). undone (u ++ r)) k ∙ undone-twelve w x y z w' x' y' z' r c high low q;
        lone = ap (λ (u : List ℕ). has_lone (u ++ r)) k ∙ lone-twelve w x y z w' x' y' z' r c high low q;
      }

  pub taken : (High c → low_at r 0 ≡ false) → Spells c a → Taken c a r
  taken f = ⊎_elim taken-itself (⊎_elim taken-two (⊎_elim (taken-six f) taken-twelve))

-- ---- an escaped low half at the head of a text is the character there
module _ (c : ℕ) (a r : List ℕ) (l : low_at (a ++ r) 0 ≡ true) where
  low-mark : is "\\" (byte_at (a ++ r) 0) ≡ true
  unfolding low_at
  low-mark = and_left (is "\\" (byte_at (a ++ r) 0)) _ l

  low-u : is "u" (byte_at (a ++ r) 1) ≡ true
  unfolding low_at
  low-u = and_left (is "u" (byte_at (a ++ r) 1)) _ (and_right (is "\\" (byte_at (a ++ r) 0)) _ l)

  low-itself : AsItself c a → Low c
  low-itself (s, g, q, n, e) =
      clash low-mark (ap (λ (u : List ℕ). is "\\" (byte_at (u ++ r) 0)) e ∙ itself-first c r n)

  low-two : InTwo c a → Low c
  low-two (b, i, e) = clash low-u (ap (λ (u : List ℕ). is "u" (byte_at (u ++ r) 1)) e ∙ (popular-rows b c i).other)

  low-number : (n w x y z : ℕ) (v : List ℕ) → n ≡ four w x y z → a ≡ six_of w x y z v → Low n
  low-number n w x y z v e k =
      range 0xdc00 0xdfff n (ap is_low e ∙ sym (low-six w x y z (v ++ r)) ∙ ap (λ (u : List ℕ). low_at (u ++ r) 0) (sym k) ∙ l)

  pub low_first : Spells c a → Low c
  low_first (inl h) = low-itself h
  low_first (inr (inl h)) = low-two h
  low_first (inr (inr (inl h))) = let (w, x, y, z, e, n) = six-text c a h in low-number c w x y z [] n e
  low_first (inr (inr (inr (h, m, lh, lm, e, (a₁, a₂, ea, s₁, s₂))))) =
      let (w, x, y, z, e₁, n) = six-text (0xd800 + h) a₁ s₁ in
      let k = low-number (0xd800 + h) w x y z a₂ n (ea ∙ ap (λ (u : List ℕ). u ++ a₂) e₁) in
      absurd (omega arith)
