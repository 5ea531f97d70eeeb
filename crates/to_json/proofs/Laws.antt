-- Laws of `plain`, and of kinds. Assumes nothing.
use Prim.Native.Nat.{ℕ, ◌+◌, ◌≤◌, ◌<◌}
use mathlib.Core.List.{[], ◌∷◌, ◌++◌}
use mathlib.Core.Path.{◌≡◌}
use native.Mathlib.Omega.{arith}
use Rattle.seq.specs.Bytes.{chars}
use Rattle.seq.specs.Decimal.{decimal}
use Rattle.msgpack.specs.Head.{nil, no, yes, whole, below, str}
use Rattle.values.specs.Write.{json_scalar}
use Rattle.to_json.specs.Plain.{plain}

-- ---- a value with no bytes behind its head
module _ (k n : ℕ) where
  pub plain-nil : k ≡ nil → chars "null" ≡ json_scalar (plain k n)
  unfolding json_scalar plain
  plain-nil e = rw e

  pub plain-no : k ≡ no → chars "false" ≡ json_scalar (plain k n)
  unfolding json_scalar plain
  plain-no e = rw e

  pub plain-yes : k ≡ yes → chars "true" ≡ json_scalar (plain k n)
  unfolding json_scalar plain
  plain-yes e = rw e

  pub plain-whole : k ≡ whole → decimal n ≡ json_scalar (plain k n)
  unfolding json_scalar plain
  plain-whole e = rw e

  pub plain-below : k ≡ below → (45 ∷ []) ++ decimal (n + 1) ≡ json_scalar (plain k n)
  unfolding json_scalar plain
  plain-below e = rw e

  above : (j : ℕ) → j ≤ k → (k ≡ j → ⊥) → j < k
  above j l h = omega arith

  pub is_below : k < 5 → (k ≡ nil → ⊥) → (k ≡ no → ⊥) → (k ≡ yes → ⊥) → (k ≡ whole → ⊥) → k ≡ below
  is_below l a b c d = last (above whole (above yes (above no (above nil (omega arith) a) b) c) d)
    where
      last : whole < k → k ≡ below
      last m = omega arith

-- a kind behind that of a str
pub past-str : (k : ℕ) → str ≤ k → (k ≡ str → ⊥) → str < k
past-str k l n = omega arith
