-- A body as it is written, and as it is read: rules one after the other, and the realm behind its length. Assumes nothing.
use Prim.Native.Nat.{ℕ, zero, suc, ◌+◌, ◌*◌, ◌≤◌}
use mathlib.Core.Bool.{true}
use mathlib.Core.List.{List, [], ◌∷◌, ◌++◌}
use mathlib.Core.Path.{◌≡◌, refl, sym, ap, ◌∙◌}
use native.Mathlib.Omega.{arith}
use borrow.Author.Tests.{le-leb, leb-true}
use lib.Dec.{leb}
use lib.ListN.{length, take, drop, length-append, take-append-drop}
use lib.Seq.{take_at, drop_at, take_all, length-take-le}
use Rattle.seq.specs.Lists.{is_empty, joined, All}
use Rattle.seq.proofs.Logic.{split, and_left, and_right, and_both}
use Rattle.seq.proofs.Lists.{empty-is}
use Rattle.settings.specs.Settings.{Rule}
use Rattle.settings.specs.Lent.{text_in, rule_of}
use Rattle.settings.proofs.Kept.{RuleKept}
use Rattle.settings_file.specs.File.{rule_length, rules_from, whole_from, rules_in, whole_rules, file_rule}
use Rattle.settings_file.proofs.Body.{behind, rules-first, whole-first}

-- ---- a rule that stands first
module _ (r : Rule) (q : List ℕ) where
  length_back : rule_length (file_rule r ++ q) ≡ length (file_rule r)
  unfolding rule_length file_rule
  length_back = omega arith

  rule-back : rule_of (file_rule r ++ q) ≡ r
  unfolding rule_of text_in file_rule
  rule-back = rw (take_at r.prefix q (length r.prefix) refl)

  behind-back : drop (rule_length (file_rule r ++ q)) (file_rule r ++ q) ≡ q
  behind-back = drop_at (file_rule r) q (rule_length (file_rule r ++ q)) (sym length_back)

  some_back : 4 ≤ length (file_rule r ++ q)
  unfolding file_rule
  some_back = omega arith

-- ---- rules written, and read
pub rules-back : (rs : List Rule) → rules_in (joined file_rule rs) ≡ rs
unfolding rules_in rules_from
rules-back [] = refl
rules-back (r ∷ rs) =
    let q = joined file_rule rs in
    let l = some_back r q in
    rules-first (file_rule r ++ q) (omega arith) ∙ rw (rule-back r q, behind-back r q) (ap (λ l. r ∷ l) (rules-back rs))

pub whole_back : (rs : List Rule) → whole_rules (joined file_rule rs) ≡ true
unfolding whole_rules whole_from
whole_back [] = refl
whole_back (r ∷ rs) =
    let q = joined file_rule rs in
    let l = some_back r q in
    let f = le-leb (rule_length (file_rule r ++ q)) (length (file_rule r ++ q)) (omega (arith, length_back r q, length-append (file_rule r) q)) in
    whole-first (file_rule r ++ q) (omega arith) ∙ and_both f (rw (behind-back r q) (whole_back rs))

-- ---- whole rules read, and written: the same bytes
rule-same : (b : List ℕ) → rule_length b ≤ length b → file_rule (rule_of b) ≡ take (rule_length b) b
unfolding rule_length file_rule rule_of text_in
rule-same [] h = absurd (omega arith)
rule-same (x ∷ []) h = absurd (omega arith)
rule-same (x ∷ (y ∷ [])) h = absurd (omega arith)
rule-same (x ∷ (y ∷ (z ∷ []))) h = absurd (omega arith)
rule-same (x ∷ (y ∷ (z ∷ (n ∷ t)))) h =
    let e : 4 + n ≡ suc (suc (suc (suc n))) = omega arith in
    let l : length (take n t) ≡ n = length-take-le n t (omega arith) in
    rw (e, l)

same_from : (n : ℕ) (b : List ℕ) → length b ≤ n → whole_from n b ≡ true → joined file_rule (rules_from n b) ≡ b
unfolding whole_from rules_from
same_from zero [] h w = refl
same_from zero (x ∷ b) h w = absurd (omega arith)
same_from (suc n) b h w =
    split (is_empty b)
    (λ t. rw t (sym (empty-is b t)))
    (λ t.
    let rest = drop (rule_length b) b in
    let u = rw t at w in
    let l = leb-true (rule_length b) (length b) (and_left (leb (rule_length b) (length b)) (whole_from n rest) u) in
    let r = same_from n rest (behind n b h) (and_right (leb (rule_length b) (length b)) (whole_from n rest) u) in
    rw (t, rule-same b l, r) (take-append-drop (rule_length b) b))

pub rules-same : (b : List ℕ) → whole_rules b ≡ true → joined file_rule (rules_in b) ≡ b
unfolding whole_rules rules_in
rules-same b w = same_from (length b) b (omega arith) w

-- ---- a text behind its length
pub text-back : (t : List ℕ) → text_in (length t ∷ t) ≡ t
unfolding text_in
text-back t = take_all (length t) t (omega arith)

-- ---- how long
pub rules-short : (rs : List Rule) → All RuleKept rs → length (joined file_rule rs) ≤ length rs * 132
unfolding file_rule
rules-short [] h = omega arith
rules-short (r ∷ rs) h =
    let k = h.0.prefix.short in
    let l = rules-short rs h.1 in
    omega (arith, length-append (file_rule r) (joined file_rule rs))
