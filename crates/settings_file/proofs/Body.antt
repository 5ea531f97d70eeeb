-- Laws of a body of permissions, for loops that go from rule to rule: the rules from a place on are the one there and those behind it.
-- Assumes nothing.
use Prim.Native.Nat.{ℕ, zero, suc, ◌+◌, ◌-◌, ◌≤◌, ◌<◌}
use mathlib.Core.Bool.{Bool, true, false, ◌&&◌}
use mathlib.Core.List.{List, [], ◌∷◌}
use mathlib.Core.Path.{◌≡◌, refl, sym, ap, ◌∙◌}
use native.Mathlib.Omega.{arith}
use borrow.Author.Tests.{leb-true}
use lib.Dec.{leb}
use lib.ListN.{length, drop, length-drop, drop_of_length-le}
use lib.Seq.{drop-drop}
use Rattle.seq.specs.Lists.{is_empty, every, pairwise}
use Rattle.seq.proofs.Logic.{split, and_left, and_right}
use Rattle.settings.specs.Settings.{Rule}
use Rattle.settings.specs.Lent.{rule_of}
use Rattle.settings_file.specs.File.{rule_length, rules_from, whole_from, rules_in, whole_rules}

-- a rule has 4 bytes and more
pub rule-long : (b : List ℕ) → 4 ≤ rule_length b
unfolding rule_length
rule-long b = omega arith

pub behind : (n : ℕ) (b : List ℕ) → length b ≤ suc n → length (drop (rule_length b) b) ≤ n
behind n b h = let l = rule-long b in simp length-drop (omega arith)

-- ---- how many rules are looked for does not matter, once they are as many as the bytes
rules-any : (n m : ℕ) (b : List ℕ) → length b ≤ n → length b ≤ m → rules_from n b ≡ rules_from m b
unfolding rules_from
rules-any zero zero b h k = refl
rules-any zero (suc m) [] h k = refl
rules-any zero (suc m) (x ∷ b) h k = absurd (omega arith)
rules-any (suc n) zero [] h k = refl
rules-any (suc n) zero (x ∷ b) h k = absurd (omega arith)
rules-any (suc n) (suc m) b h k =
    split (is_empty b)
    (λ t. rw t)
    (λ t. rw t (ap (λ l. rule_of b ∷ l) (rules-any n m (drop (rule_length b) b) (behind n b h) (behind m b k))))

whole-any : (n m : ℕ) (b : List ℕ) → length b ≤ n → length b ≤ m → whole_from n b ≡ whole_from m b
unfolding whole_from
whole-any zero zero b h k = refl
whole-any zero (suc m) [] h k = refl
whole-any zero (suc m) (x ∷ b) h k = absurd (omega arith)
whole-any (suc n) zero [] h k = refl
whole-any (suc n) zero (x ∷ b) h k = absurd (omega arith)
whole-any (suc n) (suc m) b h k =
    split (is_empty b)
    (λ t. rw t)
    (λ t. rw t (ap (λ l. leb (rule_length b) (length b) && l) (whole-any n m (drop (rule_length b) b) (behind n b h) (behind m b k))))

-- ---- the first rule, and those behind it
pub rules-first : (b : List ℕ) → 0 < length b → rules_in b ≡ rule_of b ∷ rules_in (drop (rule_length b) b)
unfolding rules_in rules_from
rules-first [] h = absurd (omega arith)
rules-first (x ∷ b) h =
    ap (λ l. rule_of (x ∷ b) ∷ l) (rules-any (length b) (length (drop (rule_length (x ∷ b)) (x ∷ b))) (drop (rule_length (x ∷ b)) (x ∷ b)) (behind (length b) (x ∷ b) (omega arith)) (omega arith))

pub whole-first : (b : List ℕ) → 0 < length b → whole_rules b ≡ (leb (rule_length b) (length b) && whole_rules (drop (rule_length b) b))
unfolding whole_rules whole_from
whole-first [] h = absurd (omega arith)
whole-first (x ∷ b) h =
    ap (λ l. leb (rule_length (x ∷ b)) (length (x ∷ b)) && l)
    (whole-any (length b) (length (drop (rule_length (x ∷ b)) (x ∷ b))) (drop (rule_length (x ∷ b)) (x ∷ b)) (behind (length b) (x ∷ b) (omega arith)) (omega arith))

-- ---- from a place on
module _ (b : List ℕ) (at : ℕ) where
  -- where the next rule stands
  abbrev next : ℕ
  next = at + rule_length (drop at b)

  pub rules-past : length b ≤ at → rules_in (drop at b) ≡ []
  unfolding rules_in rules_from
  rules-past h = rw (drop_of_length-le b h) refl

  pub whole-past : length b ≤ at → whole_rules (drop at b) ≡ true
  unfolding whole_rules whole_from
  whole-past h = rw (drop_of_length-le b h) refl

  module _ (h : at < length b) where
    pub rules-at : rules_in (drop at b) ≡ rule_of (drop at b) ∷ rules_in (drop next b)
    rules-at = rules-first (drop at b) (simp length-drop (omega arith)) ∙ rw (drop-drop (rule_length (drop at b)) at b) refl

    pub whole-at : whole_rules (drop at b) ≡ (leb (rule_length (drop at b)) (length b - at) && whole_rules (drop next b))
    whole-at =
        whole-first (drop at b) (simp length-drop (omega arith))
        ∙ rw (drop-drop (rule_length (drop at b)) at b, length-drop at b) refl

    pub whole-next : whole_rules (drop at b) ≡ true → (next ≤ length b) × (whole_rules (drop next b) ≡ true)
    whole-next w =
        let t = leb (rule_length (drop at b)) (length b - at) in
        let r = whole_rules (drop next b) in
        let e : (t && r) ≡ true = sym whole-at ∙ w in
        let l = leb-true (rule_length (drop at b)) (length b - at) (and_left t r e) in
        (omega arith, and_right t r e)

-- ---- a test of every rule, or of every two, from a place on
module _ (p : Rule → Bool) (b : List ℕ) (at : ℕ) where
  pub every-past : length b ≤ at → every p (rules_in (drop at b)) ≡ true
  unfolding every
  every-past h = rw (rules-past b at h) refl

  module _ (h : at < length b) where
    pub every-passed : p (rule_of (drop at b)) ≡ true
        → every p (rules_in (drop at b)) ≡ every p (rules_in (drop (at + rule_length (drop at b)) b))
    unfolding every
    every-passed t = rw (rules-at b at h, t) refl

    pub every-failed : p (rule_of (drop at b)) ≡ false → every p (rules_in (drop at b)) ≡ false
    unfolding every
    every-failed t = rw (rules-at b at h, t) refl

module _ (q : Rule → Rule → Bool) (b : List ℕ) (at : ℕ) where
  pub pairs-past : length b ≤ at → pairwise q (rules_in (drop at b)) ≡ true
  unfolding pairwise
  pairs-past h = rw (rules-past b at h) refl

  module _ (h : at < length b) where
    pub pairs-passed : every (q (rule_of (drop at b))) (rules_in (drop (at + rule_length (drop at b)) b)) ≡ true
        → pairwise q (rules_in (drop at b)) ≡ pairwise q (rules_in (drop (at + rule_length (drop at b)) b))
    unfolding pairwise
    pairs-passed t = rw (rules-at b at h, t) refl

    pub pairs-failed : every (q (rule_of (drop at b))) (rules_in (drop (at + rule_length (drop at b)) b)) ≡ false
        → pairwise q (rules_in (drop at b)) ≡ false
    unfolding pairwise
    pairs-failed t = rw (rules-at b at h, t) refl
