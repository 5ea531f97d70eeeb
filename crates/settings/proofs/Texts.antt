-- A text's bytes, and a rule's: from the value to its bytes and back, and from well-formed bytes to the value and back. Assumes nothing.
use Prim.Native.Nat.{ℕ, zero, suc, ◌-◌, ◌≤◌, ◌<◌}
use mathlib.Core.Bool.{true, false}
use mathlib.Core.List.{List, [], ◌∷◌, ◌++◌, append_assoc, append-nil}
use mathlib.Core.Path.{◌≡◌, refl, sym, ap, ◌∙◌}
use native.Mathlib.Omega.{arith}
use borrow.Author.Tests.{eqb-true, leb-true, le-leb, ne_eqb}
use lib.Dec.{leb}
use lib.ListN.{length, take, drop, replicate, length-append, length-drop, length-replicate, take-append-drop}
use lib.Seq.{take_at, drop_at, take-take, length-take-le}
use Rattle.seq.specs.Lists.{every}
use Rattle.seq.specs.Bytes.{is_zero, byte_at}
use Rattle.seq.proofs.Lists.{every-replicate}
use Rattle.seq.proofs.Logic.{and_left, and_right, and_both}
use Rattle.uri.specs.Uri.{longest}
use Rattle.settings.specs.Settings.{Rule}
use Rattle.settings.specs.Lent.{rule_size, rules_at, text_in, padded, text_bytes, rule_of, rule_bytes, unused, row_formed}

pub zeros-pass : (n : ℕ) → every is_zero (replicate n 0) ≡ true
unfolding every
zeros-pass zero = refl
zeros-pass (suc n) = zeros-pass n

pub zeros-only : (s : List ℕ) (n : ℕ) → length s ≡ n → every is_zero s ≡ true → s ≡ replicate n 0
zeros-only s n l e = every-replicate is_zero 0 (λ b. eqb-true b 0) s e ∙ ap (λ m. replicate m 0) l

-- ---- from a text to its bytes
module _ (t : List ℕ) where
  pub text-back : (q : List ℕ) → text_in (text_bytes t ++ q) ≡ t
  unfolding text_in text_bytes
  text-back q = rw (append_assoc t (replicate (longest - length t) 0) q) (take_at t (replicate (longest - length t) 0 ++ q) (length t) refl)

  text-alone : text_in (text_bytes t) ≡ t
  text-alone = ap text_in (sym (append-nil (text_bytes t))) ∙ text-back []

  module _ (h : length t ≤ longest) where
    pub text-size : length (text_bytes t) ≡ rules_at
    unfolding text_bytes
    text-size =
        let z : List ℕ = replicate (longest - length t) 0 in
        let b : length z ≡ longest - length t = length-replicate (longest - length t) 0 in
        omega (arith, length-append t z)

    pub text-padded : padded (text_bytes t) ≡ true
    unfolding padded text_bytes
    text-padded =
        and_both (le-leb (length t) longest h)
        (rw (drop_at t (replicate (longest - length t) 0) (length t) refl) (zeros-pass (longest - length t)))

-- ---- from bytes to their text
module _ (s : List ℕ) (e : padded s ≡ true) where
  text-room : byte_at s 0 ≤ longest
  unfolding padded
  text-room = leb-true (byte_at s 0) longest (and_left (leb (byte_at s 0) longest) _ e)

  zeros-behind : every is_zero (drop (byte_at s 0) (drop 1 s)) ≡ true
  unfolding padded
  zeros-behind = and_right (leb (byte_at s 0) longest) _ e

pub text_same : (s : List ℕ) → length s ≡ rules_at → padded s ≡ true → text_bytes (text_in s) ≡ s
unfolding text_in text_bytes
text_same [] l e = absurd (omega arith)
text_same (b ∷ r) l e =
    let h : b ≤ longest = text-room (b ∷ r) e in
    let n : length (take b r) ≡ b = length-take-le b r (omega arith) in
    let z : drop b r ≡ replicate (longest - b) 0 = zeros-only (drop b r) (longest - b) (simp length-drop (omega arith)) (zeros-behind (b ∷ r) e) in
    rw (n, ← z) (ap (λ l. b ∷ l) (take-append-drop b r))

-- the text stands within the first bytes
pub text-first : (s : List ℕ) → padded (take rules_at s) ≡ true → text_in (take rules_at s) ≡ text_in s
unfolding text_in
text-first [] e = refl
text-first (b ∷ r) e = take-take b longest r (text-room (take rules_at (b ∷ r)) e)

-- ---- rules
module _ (r : Rule) where
  pub rule-back : rule_of (rule_bytes r) ≡ r
  unfolding rule_of rule_bytes
  rule-back = rw (text-alone r.prefix)

  pub rule-used : 0 < length r.prefix → unused (rule_bytes r) ≡ false
  unfolding unused rule_bytes text_bytes
  rule-used h = ne_eqb (length r.prefix) 0 (λ e. omega arith)

  module _ (h : length r.prefix ≤ longest) where
    pub rule-size : length (rule_bytes r) ≡ rule_size
    unfolding rule_bytes
    rule-size = omega (arith, text-size r.prefix h)

    pub rule-formed : row_formed (rule_bytes r) ≡ true
    unfolding row_formed rule_bytes
    rule-formed = text-padded r.prefix h

pub rule-same : (b : List ℕ) → length b ≡ rule_size → row_formed b ≡ true → rule_bytes (rule_of b) ≡ b
unfolding row_formed rule_of rule_bytes
rule-same [] l e = absurd (omega arith)
rule-same (x ∷ []) l e = absurd (omega arith)
rule-same (x ∷ (y ∷ [])) l e = absurd (omega arith)
rule-same (x ∷ (y ∷ (z ∷ b))) l e = ap (λ p. x ∷ y ∷ z ∷ p) (text_same b (omega arith) e)
