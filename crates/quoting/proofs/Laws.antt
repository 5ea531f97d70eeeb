-- Laws of the definitions that the code is held to. Assumes nothing.
use Prim.Native.Nat.{ℕ, suc, ◌+◌, ◌-◌, ◌/◌, ◌%◌, ◌≤◌, ◌<◌}
use mathlib.Core.Bool.{Bool, true, false, not, ◌&&◌}
use mathlib.Core.List.{List, [], ◌∷◌, ◌++◌}
use mathlib.Core.Path.{◌≡◌, refl, ap, ◌∙◌}
use native.Mathlib.Numerals.{add-one}
use borrow.Author.Tests.{lt-ltb, le-ltb}
use lib.Dec.{ltb}
use lib.ListN.{length, drop, get_or}
use lib.Seq.{drop-cons}
use Rattle.seq.specs.Lists.{every, joined}
use Rattle.seq.proofs.Lists.{every-end}
use Rattle.seq.proofs.Logic.{and_left, and_right, and-true, not_is, or-false}
use Rattle.strings.specs.Strings.{is_marked}
use Rattle.values.specs.Write.{hex_digit, spelled, quoted_text}
use Rattle.quoting.specs.Quoting.{is_escaped, is_bare, comma}

-- ---- hexadecimal digits
pub hex-low : (n : ℕ) → n < 10 → 48 + n ≡ hex_digit n
unfolding hex_digit
hex-low n l = rw (lt-ltb n 10 l)

pub hex-high : (n : ℕ) → 10 ≤ n → 97 + (n - 10) ≡ hex_digit n
unfolding hex_digit
hex-high n l = rw (le-ltb n 10 l)

-- ---- a byte of a string
module _ (b : ℕ) where
  pub spelled-marked : is_marked b ≡ true → 92 ∷ b ∷ [] ≡ spelled b
  unfolding spelled
  spelled-marked e = rw e

  pub spelled-control : is_marked b ≡ false → b < 0x20 → (h l : ℕ) → h ≡ hex_digit (b / 16) → l ≡ hex_digit (b % 16)
      → 92 ∷ 117 ∷ 48 ∷ 48 ∷ h ∷ l ∷ [] ≡ spelled b
  unfolding spelled
  spelled-control e m h l eh el = rw (e, lt-ltb b 0x20 m, eh, el)

  spelled-itself : is_marked b ≡ false → ltb b 0x20 ≡ false → b ∷ [] ≡ spelled b
  unfolding spelled
  spelled-itself e m = rw (e, m)

  pub spelled-plain : is_marked b ≡ false → 0x20 ≤ b → b ∷ [] ≡ spelled b
  spelled-plain e m = spelled-itself e (le-ltb b 0x20 m)

  pub escaped-marked : is_marked b ≡ true → is_escaped b ≡ true
  escaped-marked e = rw e

  pub escaped-low : (t : Bool) → is_marked b ≡ false → t ≡ ltb b 0x20 → t ≡ is_escaped b
  escaped-low t e m = m ∙ rw e

-- ---- a string
and_assoc : (a b c : Bool) → (a && (b && c)) ≡ ((a && b) && c)
and_assoc true b c = refl
and_assoc false b c = refl

-- a text without a byte to be escaped is written as it is
pub bare-spelled : (t : List ℕ) → is_bare t ≡ true → t ≡ joined spelled t
unfolding every
bare-spelled [] e = refl
bare-spelled (b ∷ t) e =
    let n = or-false (is_marked b) (ltb b 0x20) (not_is (is_escaped b) (and_left (not (is_escaped b)) (is_bare t) e)) in
    ap (λ (l : List ℕ). b ∷ l) (bare-spelled t (and_right (not (is_escaped b)) (is_bare t) e))
    ∙ ap (λ (l : List ℕ). l ++ joined spelled t) (spelled-itself b n.0 n.1)

-- the loop that tests a text: one byte more, and the end
module _ (t : List ℕ) (i : ℕ) (bare : Bool) where
  pub bare-turn : i < length t → (e : Bool) → e ≡ is_escaped (get_or t i 0)
      → (bare && is_bare (drop i t)) ≡ ((bare && not e) && is_bare (drop (i + 1) t))
  unfolding every
  bare-turn h e q = rw (add-one, drop-cons t i 0 h, q) (and_assoc bare (not (is_escaped (get_or t i 0))) (is_bare (drop (suc i) t)))

  pub bare-end : length t ≤ i → (bare && is_bare (drop i t)) ≡ bare
  bare-end h = and-true bare _ (every-end (λ b. not (is_escaped b)) t i h)

pub quoted-is : (t : List ℕ) → (34 ∷ joined spelled t) ++ (34 ∷ []) ≡ quoted_text t
unfolding quoted_text
quoted-is t = refl

-- ---- a comma
pub comma-yes : (m : Bool) → m ≡ true → 44 ∷ [] ≡ comma m
unfolding comma
comma-yes m e = rw e

pub comma-no : (m : Bool) → m ≡ false → [] ≡ comma m
unfolding comma
comma-no m e = rw e
