-- The rows of lent settings, as loops go through them. Assumes nothing.
use Prim.Native.Nat.{ℕ, ◌+◌, ◌≤◌, ◌<◌}
use mathlib.Core.Bool.{Bool, true, false, ◌&&◌}
use mathlib.Core.List.{List, [], ◌∷◌, map}
use mathlib.Core.Path.{◌≡◌, refl, ap, ◌∙◌}
use native.Mathlib.Numerals.{add-one}
use native.Mathlib.Omega.{arith}
use lib.Dec.{eqb, ltb}
use lib.ListN.{length, take, drop, get_or, drop_of_length-le, length-map}
use lib.Seq.{drop-cons, get_or-take}
use Rattle.seq.specs.Lists.{first_part}
use Rattle.seq.proofs.BigEndian.{row_at, length_cut, cut-row}
use Rattle.seq.proofs.Lists.{first-take, first_short}
use Rattle.seq.proofs.Loops.{map-at}
use Rattle.settings.specs.Settings.{Rule, most_rules, decided}
use Rattle.settings.specs.Lent.{rule_size, rules_at, rule_of, unused, rows, used_rows, settings_of}

-- ---- the first part of a list, for a loop that stands at place i
module _ {A : Type 0} (p : A → Bool) (xs : List A) (i : ℕ) (d : A) (h : i < length xs) where
  part-hit : p (get_or xs i d) ≡ true → first_part p (drop i xs) ≡ []
  unfolding first_part
  part-hit t = rw (drop-cons xs i d h, t)

  part-miss : p (get_or xs i d) ≡ false → first_part p (drop i xs) ≡ get_or xs i d ∷ first_part p (drop (i + 1) xs)
  unfolding first_part
  part-miss t = rw (add-one, drop-cons xs i d h, t)

part-end : {A : Type 0} (p : A → Bool) (xs : List A) (i : ℕ) → length xs ≤ i → first_part p (drop i xs) ≡ []
unfolding first_part
part-end p xs i h = rw (drop_of_length-le xs h)

-- ---- rows
-- the k-th row
abbrev pub rule_row : List ℕ → ℕ → List ℕ
rule_row s k = row_at rule_size k (drop rules_at s)

rows-count : (s : List ℕ) → length (rows s) ≡ most_rules
unfolding rows
rows-count s = length_cut rule_size most_rules (drop rules_at s)

row-at : (s : List ℕ) (k : ℕ) → k < most_rules → get_or (rows s) k [] ≡ rule_row s k
unfolding rows
row-at s k h = cut-row rule_size most_rules (drop rules_at s) k h

-- the used rows from row k on, where those before are used
abbrev pub used_from : List ℕ → ℕ → List (List ℕ)
used_from s k = first_part unused (drop k (rows s))

pub used_start : (s : List ℕ) → used_rows s ≡ used_from s 0
unfolding used_rows
used_start s = refl

module _ (s : List ℕ) (k : ℕ) (h : k < most_rules) where
  inside : k < length (rows s)
  inside = rw (rows-count s) h

  pub used-hit : unused (rule_row s k) ≡ true → used_from s k ≡ []
  used-hit t = part-hit unused (rows s) k [] inside (ap unused (row-at s k h) ∙ t)

  pub used-miss : unused (rule_row s k) ≡ false → used_from s k ≡ rule_row s k ∷ used_from s (k + 1)
  used-miss t =
      part-miss unused (rows s) k [] inside (ap unused (row-at s k h) ∙ t)
      ∙ ap (λ r. r ∷ used_from s (k + 1)) (row-at s k h)

pub used-end : (s : List ℕ) (k : ℕ) → most_rules ≤ k → used_from s k ≡ []
used-end s k h = part-end unused (rows s) k (rw (rows-count s) h)

-- ---- used rows, and the rules that they stand for
pub used-most : (s : List ℕ) → length (used_rows s) ≤ most_rules
unfolding used_rows
used-most s = omega (arith, first_short unused (rows s), rows-count s)

pub rules-count : (s : List ℕ) → length (settings_of s).rules ≡ length (used_rows s)
unfolding settings_of
rules-count s = length-map (used_rows s) rule_of

module _ (s : List ℕ) (k : ℕ) (h : k < length (used_rows s)) where
  pub used-row : get_or (used_rows s) k [] ≡ rule_row s k
  unfolding used_rows
  used-row =
      let e : used_rows s ≡ take (length (used_rows s)) (rows s) = first-take unused (rows s) in
      ap (λ l. get_or l k []) e ∙ get_or-take (length (used_rows s)) (rows s) k [] h
      ∙ row-at s k (omega (arith, used-most s))

  pub used-rule : get_or (settings_of s).rules k (rule_of []) ≡ rule_of (rule_row s k)
  unfolding settings_of
  used-rule = map-at rule_of [] (used_rows s) k h ∙ ap rule_of used-row

-- ---- the rules from row k on, of which the longest that fits decides
pub rules-start : (s : List ℕ) → (settings_of s).rules ≡ map rule_of (used_from s 0)
unfolding settings_of used_rows
rules-start s = refl

module _ (fit : Rule → Bool) (best : ℕ) (said : Bool) (s : List ℕ) (k : ℕ) where
  pub decided-end : used_from s k ≡ [] → decided fit best said (map rule_of (used_from s k)) ≡ said
  unfolding decided
  decided-end e = rw e

  module _ (h : k < most_rules) (u : unused (rule_row s k) ≡ false) where
    pub decided-new : (fit (rule_of (rule_row s k)) && ltb best (length (rule_of (rule_row s k)).prefix)) ≡ true
        → decided fit best said (map rule_of (used_from s k))
        ≡ decided fit (length (rule_of (rule_row s k)).prefix) (eqb (rule_of (rule_row s k)).verdict 1) (map rule_of (used_from s (k + 1)))
    unfolding decided
    decided-new t = rw (used-miss s k h u, t)

    pub decided-old : (fit (rule_of (rule_row s k)) && ltb best (length (rule_of (rule_row s k)).prefix)) ≡ false
        → decided fit best said (map rule_of (used_from s k)) ≡ decided fit best said (map rule_of (used_from s (k + 1)))
    unfolding decided
    decided-old t = rw (used-miss s k h u, t)
