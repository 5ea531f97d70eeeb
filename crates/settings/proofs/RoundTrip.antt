-- Settings that keep the rules, as bytes and back; and bytes that keep them, as settings and back. Assumes nothing.
use Prim.Native.Nat.{ℕ, zero, suc, ◌+◌, ◌-◌, ◌*◌, ◌≤◌}
use mathlib.Core.Bool.{true, ◌&&◌}
use mathlib.Core.List.{List, [], ◌∷◌, ◌++◌, map, append_assoc, append-nil}
use mathlib.Core.Path.{◌≡◌, refl, sym, ap, ap₂, ◌∙◌}
use native.Mathlib.Nat.{suc-mul}
use native.Mathlib.Omega.{arith}
use borrow.Author.Tests.{eqb-true, eq-eqb}
use lib.Dec.{eqb}
use lib.ListN.{length, take, drop, replicate, length-append, length-drop, length-map, length-replicate, take-append-drop}
use lib.Seq.{take_at, drop_at, take-add, take_all, drop-drop, get_or-take, length-take-le}
use Rattle.seq.specs.Lists.{every, joined, first_part, All}
use Rattle.seq.specs.Bytes.{is_zero, part}
use Rattle.seq.specs.BigEndian.{number, digits, cut}
use Rattle.seq.proofs.Logic.{split, and_left, and_right, and_both}
use Rattle.seq.proofs.BigEndian.{Bytes, bytes_drop, length_digits, number_digits, digits_number}
use Rattle.settings.specs.Settings.{Rule, Settings, most_rules, keeps_rules}
use Rattle.settings.specs.Lent.{rule_size, rules_at, wait_at, settings_size, text_in, padded, text_bytes, rule_of, rule_bytes, unused, rows, used_rows, row_formed, settings_of, formed, lawful, lent}
use Rattle.settings.proofs.Laws.{used-most, rules-count}
use Rattle.settings.proofs.Kept.{RuleKept, few-rules, realm-sized, rules-kept, wait-low}
use Rattle.settings.proofs.Texts.{zeros-pass, zeros-only, text-back, text-size, text-padded, text_same, text-first, rule-back, rule-used, rule-size, rule-formed, rule-same}

-- ---- rules, one after the other
length-rules : (rs : List Rule) → All RuleKept rs → length (joined rule_bytes rs) ≡ length rs * rule_size
length-rules [] k = omega arith
length-rules (r ∷ rs) k =
    let a = rule-size r k.0.prefix.short in
    let b = length-rules rs k.1 in
    length-append (rule_bytes r) (joined rule_bytes rs) ∙ omega (arith, suc-mul (length rs) rule_size)

rules-back : (rs : List Rule) → map rule_of (map rule_bytes rs) ≡ rs
rules-back [] = refl
rules-back (r ∷ rs) = ap₂ ◌∷◌ (rule-back r) (rules-back rs)

rules-formed : (rs : List Rule) → All RuleKept rs → every row_formed (map rule_bytes rs) ≡ true
unfolding every
rules-formed [] k = refl
rules-formed (r ∷ rs) k = and_both (rule-formed r k.0.prefix.short) (rules-formed rs k.1)

-- a row of zeros is unused
zero-row : (n : ℕ) (q : List ℕ) → unused (take rule_size (replicate ((suc n - 0) * rule_size) 0 ++ q)) ≡ true
unfolding unused
zero-row n q =
    let e : (suc n - 0) * rule_size ≡ suc (suc (suc (suc (n * rule_size + 128)))) = omega (arith, suc-mul n rule_size) in
    rw (get_or-take rule_size (replicate ((suc n - 0) * rule_size) 0 ++ q) 3 0 (omega arith), e)

-- of n rows, the rules stand in the used ones
rules-cut : (n : ℕ) (rs : List Rule) (q : List ℕ) → length rs ≤ n → All RuleKept rs
    → first_part unused (cut rule_size n (joined rule_bytes rs ++ (replicate ((n - length rs) * rule_size) 0 ++ q))) ≡ map rule_bytes rs
unfolding first_part cut
rules-cut zero [] q h k = refl
rules-cut (suc n) [] q h k = rw (zero-row n q)
rules-cut zero (r ∷ rs) q h k = absurd (omega arith)
rules-cut (suc n) (r ∷ rs) q h k =
    let z : suc n - suc (length rs) ≡ n - length rs = omega arith in
    let l = rule-size r k.0.prefix.short in
    let p = replicate ((n - length rs) * rule_size) 0 ++ q in
    rw (
      z,
      append_assoc (rule_bytes r) (joined rule_bytes rs) p,
      take_at (rule_bytes r) (joined rule_bytes rs ++ p) rule_size l,
      drop_at (rule_bytes r) (joined rule_bytes rs ++ p) rule_size l,
      rule-used r k.0.prefix.some,
    )
    (ap (λ m. rule_bytes r ∷ m) (rules-cut n rs q (omega arith) k.1))

-- the used rows' bytes are those of the rules that they stand for
rules-same : (n : ℕ) (s : List ℕ) → n * rule_size ≤ length s → every row_formed (first_part unused (cut rule_size n s)) ≡ true
    → joined rule_bytes (map rule_of (first_part unused (cut rule_size n s))) ≡ take (length (first_part unused (cut rule_size n s)) * rule_size) s
unfolding first_part cut every
rules-same zero s h e = refl
rules-same (suc n) s h e =
    split (unused (take rule_size s))
    (λ t. rw t)
    (λ t.
    let g = rw t at e in
    let m = length (first_part unused (cut rule_size n (drop rule_size s))) in
    let z : suc m * rule_size ≡ rule_size + m * rule_size = omega (arith, suc-mul m rule_size) in
    let l : rule_size ≤ length s = omega (arith, suc-mul n rule_size) in
    let u = and_left (row_formed (take rule_size s)) _ g in
    let v = and_right (row_formed (take rule_size s)) _ g in
    rw (t, z, rule-same (take rule_size s) (length-take-le rule_size s l) u, take-add rule_size (m * rule_size) s)
    (ap (λ r. take rule_size s ++ r) (rules-same n (drop rule_size s) (simp length-drop (omega (arith, suc-mul n rule_size))) v)))

-- ---- from settings to their bytes
-- the bytes of the unused rows; and what stands behind the used ones, and behind the realm
abbrev unset : Settings → List ℕ
unset x = replicate ((most_rules - length x.rules) * rule_size) 0

abbrev behind_rules : Settings → List ℕ
behind_rules x = unset x ++ digits 4 x.wait

abbrev behind_realm : Settings → List ℕ
behind_realm x = joined rule_bytes x.rules ++ behind_rules x

module _ (x : Settings) (e : keeps_rules x ≡ true) where
  few : length x.rules ≤ most_rules
  few = few-rules x e

  head-size : length (text_bytes x.realm) ≡ rules_at
  head-size = text-size x.realm (realm-sized x e).short

  rules-size : length (joined rule_bytes x.rules) ≡ length x.rules * rule_size
  rules-size = length-rules x.rules (rules-kept x e)

  lent-parts : lent x ≡ text_bytes x.realm ++ behind_realm x
  unfolding lent
  lent-parts = refl

  after-realm : drop rules_at (lent x) ≡ behind_realm x
  after-realm = rw lent-parts (drop_at (text_bytes x.realm) (behind_realm x) rules_at head-size)

  after-rules : drop (rules_at + length x.rules * rule_size) (lent x) ≡ behind_rules x
  after-rules =
      sym (drop-drop (length x.rules * rule_size) rules_at (lent x))
      ∙ rw after-realm (drop_at (joined rule_bytes x.rules) (behind_rules x) (length x.rules * rule_size) rules-size)

  unset-size : length (unset x) ≡ (most_rules - length x.rules) * rule_size
  unset-size = length-replicate ((most_rules - length x.rules) * rule_size) 0

  after-zeros : drop wait_at (lent x) ≡ digits 4 x.wait
  after-zeros =
      let m = (most_rules - length x.rules) * rule_size in
      let w : wait_at ≡ rules_at + length x.rules * rule_size + m = (let f = few in omega arith) in
      ap (λ n. drop n (lent x)) w ∙ sym (drop-drop m (rules_at + length x.rules * rule_size) (lent x)) ∙ rw after-rules (drop_at (unset x) (digits 4 x.wait) m unset-size)

  pub size_is : length (lent x) ≡ settings_size
  size_is =
      let f = few in
      let a = length-append (text_bytes x.realm) (behind_realm x) in
      let b = length-append (joined rule_bytes x.rules) (behind_rules x) in
      let c = length-append (unset x) (digits 4 x.wait) in
      let d = length_digits 4 x.wait in
      ap length lent-parts ∙ omega (arith, head-size, rules-size, unset-size)

  used-are : used_rows (lent x) ≡ map rule_bytes x.rules
  unfolding used_rows rows
  used-are = rw after-realm (rules-cut most_rules x.rules (digits 4 x.wait) few (rules-kept x e))

  pub back_is : settings_of (lent x) ≡ x
  unfolding settings_of
  back_is =
      let a : text_in (lent x) ≡ x.realm = rw lent-parts (text-back x.realm (behind_realm x)) in
      let b : map rule_of (used_rows (lent x)) ≡ x.rules = rw used-are (rules-back x.rules) in
      let w = wait-low x e in
      let c : number 4 (drop wait_at (lent x)) ≡ x.wait =
      rw (after-zeros, ← append-nil (digits 4 x.wait)) (number_digits 4 x.wait [] (omega arith)) in
      rw (a, b, c)

  unset-zero : every is_zero (part (rules_at + length (used_rows (lent x)) * rule_size) wait_at (lent x)) ≡ true
  unset-zero =
      let f = few in
      let n : length (used_rows (lent x)) ≡ length x.rules = ap length used-are ∙ length-map x.rules rule_bytes in
      let m : wait_at - (rules_at + length x.rules * rule_size) ≡ (most_rules - length x.rules) * rule_size = omega arith in
      rw (n, after-rules, m, take_at (unset x) (digits 4 x.wait) ((most_rules - length x.rules) * rule_size) unset-size)
      (zeros-pass ((most_rules - length x.rules) * rule_size))

  pub keeps-is : lawful (lent x) ≡ true
  unfolding lawful formed
  keeps-is =
      let p : padded (take rules_at (lent x)) ≡ true =
      rw (lent-parts, take_at (text_bytes x.realm) (behind_realm x) rules_at head-size) (text-padded x.realm (realm-sized x e).short) in
      let r : every row_formed (used_rows (lent x)) ≡ true = rw used-are (rules-formed x.rules (rules-kept x e)) in
      let k : keeps_rules (settings_of (lent x)) ≡ true = rw back_is e in
      and_both (and_both (eq-eqb (length (lent x)) settings_size size_is) (and_both p (and_both r unset-zero))) k

-- ---- from bytes to their settings
join-part : (a n b : ℕ) (s : List ℕ) → a + n ≡ b → take n (drop a s) ++ drop b s ≡ drop a s
join-part a n b s e = rw (← e, ← drop-drop n a s) (take-append-drop n (drop a s))

module _ (s : List ℕ) (e : formed s ≡ true) where
  sized : length s ≡ settings_size
  unfolding formed
  sized = eqb-true (length s) settings_size (and_left (eqb (length s) settings_size) _ e)

  realm-padded : padded (take rules_at s) ≡ true
  unfolding formed
  realm-padded = and_left (padded (take rules_at s)) _ (and_right (eqb (length s) settings_size) _ e)

  rest-formed : (every row_formed (used_rows s) && every is_zero (part (rules_at + length (used_rows s) * rule_size) wait_at s)) ≡ true
  unfolding formed
  rest-formed = and_right (padded (take rules_at s)) _ (and_right (eqb (length s) settings_size) _ e)

  realm-same : text_bytes (settings_of s).realm ≡ take rules_at s
  unfolding settings_of
  realm-same =
      let l = sized in
      rw (← text-first s realm-padded) (text_same (take rules_at s) (length-take-le rules_at s (omega arith)) realm-padded)

  used-same : joined rule_bytes (settings_of s).rules ≡ take (length (used_rows s) * rule_size) (drop rules_at s)
  unfolding settings_of used_rows rows
  used-same =
      let l = sized in
      rules-same most_rules (drop rules_at s) (simp length-drop (omega arith)) (and_left (every row_formed (used_rows s)) _ rest-formed)

  zeros-same : replicate ((most_rules - length (settings_of s).rules) * rule_size) 0
      ≡ take ((most_rules - length (settings_of s).rules) * rule_size) (drop (rules_at + length (used_rows s) * rule_size) s)
  zeros-same =
      let l = sized in
      let f = used-most s in
      let n = rules-count s in
      let m : wait_at - (rules_at + length (used_rows s) * rule_size) ≡ (most_rules - length (settings_of s).rules) * rule_size = omega arith in
      let z = rw m at (and_right (every row_formed (used_rows s)) _ rest-formed) in
      let k = (most_rules - length (settings_of s).rules) * rule_size in
      sym (zeros-only (take k (drop (rules_at + length (used_rows s) * rule_size) s)) k (length-take-le k (drop (rules_at + length (used_rows s) * rule_size) s) (simp length-drop (omega arith))) z)

  wait-same : Bytes s → digits 4 (settings_of s).wait ≡ drop wait_at s
  unfolding settings_of
  wait-same b =
      let l = sized in
      digits_number 4 (drop wait_at s) (bytes_drop wait_at s b) (simp length-drop (omega arith))
      ∙ take_all 4 (drop wait_at s) (simp length-drop (omega arith))

  pub same-is : Bytes s → lent (settings_of s) ≡ s
  unfolding lent
  same-is b =
      let f = used-most s in
      let n = rules-count s in
      let u = length (used_rows s) * rule_size in
      let m = (most_rules - length (settings_of s).rules) * rule_size in
      rw (
        realm-same,
        used-same,
        zeros-same,
        wait-same b,
        join-part (rules_at + u) m wait_at s (omega arith),
        join-part rules_at u (rules_at + u) s refl,
      )
      (take-append-drop rules_at s)
