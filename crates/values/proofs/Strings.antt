-- JSON strings: a text that was written is taken up to its closing quote, and undone to itself. Assumes nothing.
use Rattle.std.specs.Prelude.{Some}
use Prim.Native.Nat.{ℕ, zero, suc, ◌+◌, ◌-◌, ◌/◌, ◌%◌, ◌≤◌, ◌<◌}
use mathlib.Core.Bool.{true, false}
use mathlib.Core.List.{List, [], ◌∷◌, ◌++◌, append_assoc}
use mathlib.Core.Path.{◌≡◌, refl, ap, subst, sym, ◌∙◌}
use native.Mathlib.Omega.{arith}
use borrow.Author.Tests.{lt-leb, le-leb, lt-ltb, ltb-true, ltb-false, eqb-true}
use lib.Dec.{ltb}
use lib.ListN.{length, length-append}
use Rattle.seq.specs.Bytes.{is, byte_at, part}
use Rattle.seq.specs.Lists.{joined}
use Rattle.seq.proofs.Logic.{split, or-false, or_right, cond-case}
use Rattle.lex.specs.Lex.{is_hex, hex4, is_escape, escape, char, string, quoted}
use Rattle.utf8.specs.Table.{encoding}
use Rattle.strings.specs.Strings.{digit, unit, short, spelled as character, escape as unescape, undone_after, undone, lone_after, has_lone, is_marked}
use Rattle.strings.proofs.Steps.{undone-plain, undone-escape, undone-short, lone-plain, lone-escape, lone-short}
use Rattle.values.specs.Read.Read.{Gives}
use Rattle.values.specs.Write.{hex_digit, spelled, quoted_text}
use Rattle.values.specs.Stands.{quoted_at}
use Rattle.seq.proofs.Holds.{Holds, holds-end, holds-left, holds-right, holds-part}

-- ---- hex digits
-- a hex digit is one, and has its number
is-hex : (n : ℕ) → n < 16 → is_hex (hex_digit n) ≡ true
unfolding hex_digit
is-hex n l =
    split (ltb n 10)
    (λ t. let m = ltb-true n 10 t in rw (t, le-leb 48 (48 + n) (omega arith), le-leb (48 + n) 57 (omega arith)))
    (λ t.
    let m = ltb-false n 10 t in
    rw (
      t,
      le-leb 48 (97 + (n - 10)) (omega arith),
      lt-leb (97 + (n - 10)) 57 (omega arith),
      le-leb 65 (97 + (n - 10)) (omega arith),
      lt-leb (97 + (n - 10)) 70 (omega arith),
      le-leb 97 (97 + (n - 10)) (omega arith),
      le-leb (97 + (n - 10)) 102 (omega arith),
    ))

hex-number : (n : ℕ) → n < 16 → digit (hex_digit n) ≡ n
unfolding hex_digit digit
hex-number n l =
    split (ltb n 10)
    (λ t.
    let m = ltb-true n 10 t in
    let e : 48 + n - 48 ≡ n = omega arith in
    rw (t, le-leb 48 (48 + n) (omega arith), le-leb (48 + n) 57 (omega arith), e))
    (λ t.
    let m = ltb-false n 10 t in
    let e : 97 + (n - 10) - 97 + 10 ≡ n = omega arith in
    rw (
      t,
      le-leb 48 (97 + (n - 10)) (omega arith),
      lt-leb (97 + (n - 10)) 57 (omega arith),
      le-leb 65 (97 + (n - 10)) (omega arith),
      lt-leb (97 + (n - 10)) 70 (omega arith),
      le-leb 97 (97 + (n - 10)) (omega arith),
      le-leb (97 + (n - 10)) 102 (omega arith),
      e,
    ))

zero_number : digit 48 ≡ 0
unfolding digit
zero_number = refl

-- ---- one character is taken
-- neither the closing quote nor a control character stands there
record Goes (s : List ℕ) (at e : ℕ) : Type 0 where
  pub more : is "\"" (byte_at s at) ≡ false
  pub clean : ltb (byte_at s at) 0x20 ≡ false
  pub char : char s at ≡ Some e

-- behind \u
hex-over : (s : List ℕ) (a b c d at : ℕ) → is_hex a ≡ true → is_hex b ≡ true → is_hex c ≡ true → is_hex d ≡ true → Holds s at (a ∷ b ∷ c ∷ d ∷ [])
    → hex4 s at ≡ Some (at + 4)
unfolding hex4
hex-over s a b c d at p q r t h =
    let two : at + 1 + 1 ≡ at + 2 = omega arith in
    let three : at + 1 + 1 + 1 ≡ at + 3 = omega arith in
    let h2 : byte_at s (at + 2) ≡ c = rw two at h.2.2.0 in
    let h3 : byte_at s (at + 3) ≡ d = rw three at h.2.2.2.0 in
    rw (h.0, h.2.0, h2, h3, p, q, r, t)

module _ (s : List ℕ) (b at : ℕ) where
  control-over : b < 0x20 → Holds s at (92 ∷ 117 ∷ 48 ∷ 48 ∷ hex_digit (b / 16) ∷ hex_digit (b % 16) ∷ []) → Goes s at (at + 6)
  unfolding char escape is_escape
  control-over l h =
      let six : at + 1 + 1 + 4 ≡ at + 6 = omega arith in
      let k = hex-over s 48 48 (hex_digit (b / 16)) (hex_digit (b % 16)) (at + 1 + 1) refl refl (is-hex (b / 16) (omega arith))
      (is-hex (b % 16) (omega arith)) h.2.2 in
      record { more = rw h.0; clean = rw h.0; char = rw (h.0, h.2.0, k, six) }

  mark-over : is_marked b ≡ true → Holds s at (92 ∷ b ∷ []) → Goes s at (at + 2)
  unfolding char escape is_escape
  mark-over t h =
      let two : at + 1 + 1 ≡ at + 2 = omega arith in
      split (is "\"" b)
      (λ u.
      let g : byte_at s (at + 1) ≡ 34 = h.2.0 ∙ eqb-true b 34 u in
      record { more = rw h.0; clean = rw h.0; char = rw (h.0, g, two) })
      (λ u.
      let g : byte_at s (at + 1) ≡ 92 = h.2.0 ∙ eqb-true b 92 (or_right (is "\"" b) (is "\\" b) t u) in
      record { more = rw h.0; clean = rw h.0; char = rw (h.0, g, two) })

  plain_over : is_marked b ≡ false → ltb b 0x20 ≡ false → Holds s at (b ∷ []) → Goes s at (at + 1)
  unfolding char
  plain_over t u h =
      let n = or-false (is "\"" b) (is "\\" b) t in
      record { more = rw (h.0, n.0); clean = rw (h.0, u); char = rw (h.0, n.1) }

  char-over : Holds s at (spelled b) → Goes s at (at + length (spelled b))
  unfolding spelled
  char-over =
      cond-case P (is_marked b) _ _ mark-over
      (λ t. cond-case P (ltb b 0x20) _ _ (λ u. control-over (ltb-true b 0x20 u)) (λ u. plain_over t u))
    where
      P : List ℕ → Type 0
      P w = Holds s at w → Goes s at (at + length w)

-- ---- a string is taken
spelled-some : (b : ℕ) → 1 ≤ length (spelled b)
unfolding spelled
spelled-some b =
    split (is_marked b) (λ t. rw t (omega arith)) (λ t. rw t (split (ltb b 0x20) (λ u. rw u (omega arith)) (λ u. rw u (omega arith))))

spelled-long : (t : List ℕ) → length t ≤ length (joined spelled t)
spelled-long [] = omega arith
spelled-long (b ∷ t) = simp length-append (let p = spelled-some b in let q = spelled-long t in omega arith)

-- from behind the opening quote on
string-over : (s t : List ℕ) (fuel at : ℕ) → length t < fuel → Holds s at (joined spelled t ++ (34 ∷ []))
    → string fuel s at ≡ Some (at + length (joined spelled t) + 1)
unfolding string
string-over s t zero at l h = absurd (omega arith)
string-over s [] (suc fuel) at l h = let e : at + 0 + 1 ≡ at + 1 = omega arith in rw (h.0, e)
string-over s (b ∷ t) (suc fuel) at l h =
    let w : List ℕ = joined spelled t ++ (34 ∷ []) in
    let g : Holds s at (spelled b ++ w) = rw (append_assoc (spelled b) (joined spelled t) (34 ∷ [])) at h in
    let r = char-over s b at (holds-left s at (spelled b) w g) in
    let k = string-over s t fuel (at + length (spelled b)) (omega arith) (holds-right s at (spelled b) w g) in
    let e : at + length (spelled b) + length (joined spelled t) + 1 ≡ at + length (spelled b ++ joined spelled t) + 1 =
    simp length-append (omega arith) in
    rw (r.more, r.clean, r.char, k, e)

quoted-over : (s t : List ℕ) (at : ℕ) → Holds s at (quoted_text t) → quoted s at ≡ Some (at + 1 + length (joined spelled t) + 1)
unfolding quoted_text quoted
quoted-over s t at h =
    let l = holds-end s (at + 1) (joined spelled t ++ (34 ∷ [])) h.2 in
    let m : length t < length s = (let q = spelled-long t in let r = length-append (joined spelled t) (34 ∷ []) in omega arith) in
    rw (h.0, string-over s t (length s) (at + 1) m h.2)

-- ---- what was written is undone
module _ (b : ℕ) (l : b < 0x20) (t : List ℕ) where
  abbrev control : List ℕ
  control = 92 ∷ 117 ∷ 48 ∷ 48 ∷ hex_digit (b / 16) ∷ hex_digit (b % 16) ∷ t

  control-unit : unit control 2 ≡ b
  unfolding unit
  control-unit = rw (zero_number, hex-number (b / 16) (omega arith), hex-number (b % 16) (omega arith)) (omega arith)

  control-is : unescape control ≡ character b 6
  unfolding unescape
  control-is = rw (control-unit, lt-leb 0xd800 b (omega arith))

  control-undone : undone control ≡ b ∷ undone t
  unfolding encoding
  control-undone = undone-escape 92 _ refl ∙ rw (control-is, lt-ltb b 0x80 (omega arith))

  control-lone : has_lone control ≡ has_lone t
  control-lone = lone-escape 92 _ refl ∙ rw (control-is, lt-leb 0xd800 b (omega arith))

module _ (b : ℕ) (t : List ℕ) where
  by-mark : (P : ℕ → Type 0) → is_marked b ≡ true → P 34 → P 92 → P b
  by-mark P h q s = split (is "\"" b)
      (λ e. subst P (sym (eqb-true b 34 e)) q)
      (λ e. subst P (sym (eqb-true b 92 (or_right (is "\"" b) (is "\\" b) h e))) s)

  mark-undone : is_marked b ≡ true → undone (92 ∷ b ∷ t) ≡ b ∷ undone t
  unfolding encoding short
  mark-undone h = by-mark (λ (b : ℕ). undone (92 ∷ b ∷ t) ≡ b ∷ undone t) h (undone-short 34 t refl) (undone-short 92 t refl)

  mark-lone : is_marked b ≡ true → has_lone (92 ∷ b ∷ t) ≡ has_lone t
  unfolding short
  mark-lone h = by-mark (λ (b : ℕ). has_lone (92 ∷ b ∷ t) ≡ has_lone t) h (lone-short 34 t refl) (lone-short 92 t refl)

  one-undone : undone (spelled b ++ t) ≡ b ∷ undone t
  unfolding spelled
  one-undone =
      cond-case (λ w. undone (w ++ t) ≡ b ∷ undone t) (is_marked b) _ _ mark-undone
      (λ m. cond-case (λ w. undone (w ++ t) ≡ b ∷ undone t) (ltb b 0x20) _ _ (λ c. control-undone b (ltb-true b 0x20 c) t)
      (λ c. undone-plain b t (or-false (is "\"" b) (is "\\" b) m).1))

  one-lone : has_lone (spelled b ++ t) ≡ has_lone t
  unfolding spelled
  one-lone =
      cond-case (λ w. has_lone (w ++ t) ≡ has_lone t) (is_marked b) _ _ mark-lone
      (λ m. cond-case (λ w. has_lone (w ++ t) ≡ has_lone t) (ltb b 0x20) _ _ (λ c. control-lone b (ltb-true b 0x20 c) t)
      (λ c. lone-plain b t (or-false (is "\"" b) (is "\\" b) m).1))

pub undone-spelled : (t : List ℕ) → undone (joined spelled t) ≡ t
unfolding undone_after
undone-spelled [] = refl
undone-spelled (b ∷ t) = one-undone b (joined spelled t) ∙ ap (λ (u : List ℕ). b ∷ u) (undone-spelled t)

pub lone-spelled : (t : List ℕ) → has_lone (joined spelled t) ≡ false
unfolding lone_after
lone-spelled [] = refl
lone-spelled (b ∷ t) = one-lone b (joined spelled t) ∙ lone-spelled t

-- ---- a string reads back
between : (s t : List ℕ) (at : ℕ) → Holds s at (quoted_text t)
    → part (at + 1) (at + 1 + length (joined spelled t) + 1 - 1) s ≡ joined spelled t
unfolding quoted_text
between s t at h =
    let e : at + 1 + length (joined spelled t) + 1 - 1 ≡ at + 1 + length (joined spelled t) = omega arith in
    rw e (holds-part s (at + 1) (joined spelled t) (holds-left s (at + 1) (joined spelled t) (34 ∷ []) h.2))

quoted-length : (t : List ℕ) (at : ℕ) → at + 1 + length (joined spelled t) + 1 ≡ at + length (quoted_text t)
unfolding quoted_text
quoted-length t at = simp length-append (omega arith)

pub quoted-back : (s t : List ℕ) (at : ℕ) → Holds s at (quoted_text t) → quoted_at s at ≡ Gives t (at + length (quoted_text t))
unfolding quoted_at
quoted-back s t at h = rw (quoted-over s t at h, between s t at h, lone-spelled t, undone-spelled t, quoted-length t at)
