-- Tests of the code, and those of specs/File.antt. Assumes nothing.
use Prim.Native.Nat.{ℕ}
use mathlib.Core.Bool.{true, false, not, ◌&&◌}
use mathlib.Core.List.{List}
use mathlib.Core.Path.{◌≡◌, refl}
use native.Mathlib.Omega.{arith}
use borrow.Author.Tests.{leb-true, leb-false, le-leb, le-ltb, lt-ltb, not-false}
use lib.Dec.{leb, ltb}
use Rattle.seq.proofs.Logic.{split, and_left, and_right}
use Rattle.contents.specs.Contents.{body_of}
use Rattle.settings_file.specs.File.{realm_kind, rules_kind, whole_rules, realm_fits, wait_fits, wrong_length}

-- a version that is not 0 is above the last known one, or known
pub above : (b n : ℕ) → (b ≡ 0 → ⊥) → ltb n b ≡ not (leb 1 b && leb b n)
above b n h =
    rw (le-leb 1 b (omega arith))
    (split (leb b n)
    (λ t. rw (t, le-ltb n b (leb-true b n t)) refl)
    (λ t. rw (t, lt-ltb n b (leb-false b n t)) refl))

-- where every body is as long as what it holds, the rules are whole
pub whole-fits : (s : List ℕ) → wrong_length s ≡ false → whole_rules (body_of rules_kind s) ≡ true
unfolding wrong_length
whole-fits s h =
    let a = realm_fits (body_of realm_kind s) in
    let b = whole_rules (body_of rules_kind s) in
    and_left b (wait_fits s) (and_right a (b && wait_fits s) (not-false (a && (b && wait_fits s)) h))
