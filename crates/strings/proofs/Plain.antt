-- A text without a backslash stands for itself. Assumes nothing.
use Prim.Native.Nat.{ℕ}
use mathlib.Core.Path.{◌≡◌, refl, sym, ap, ◌∙◌}
use mathlib.Core.List.{List, [], ◌∷◌, ◌++◌, append-nil}
use mathlib.Core.Bool.{true, false, not}
use Rattle.seq.specs.Bytes.{is}
use Rattle.seq.specs.Lists.{every}
use Rattle.seq.proofs.Logic.{and_left, and_right, not_is}
use Rattle.strings.specs.Strings.{undone_after, undone, lone_after, has_lone, is_plain}
use Rattle.strings.proofs.Steps.{undone-plain, lone-plain}

module _ (b : ℕ) (t : List ℕ) where
  first_plain : is_plain (b ∷ t) ≡ true → is "\\" b ≡ false
  unfolding every
  first_plain h = not_is (is "\\" b) (and_left (not (is "\\" b)) (is_plain t) h)

  rest_plain : is_plain (b ∷ t) ≡ true → is_plain t ≡ true
  unfolding every
  rest_plain h = and_right (not (is "\\" b)) (is_plain t) h

-- before another text too
pub plain-front : (t r : List ℕ) → is_plain t ≡ true → undone (t ++ r) ≡ t ++ undone r
plain-front [] r h = refl
plain-front (b ∷ t) r h = undone-plain b (t ++ r) (first_plain b t h) ∙ ap (λ (u : List ℕ). b ∷ u) (plain-front t r (rest_plain b t h))

pub lone-front : (t r : List ℕ) → is_plain t ≡ true → has_lone (t ++ r) ≡ has_lone r
lone-front [] r h = refl
lone-front (b ∷ t) r h = lone-plain b (t ++ r) (first_plain b t h) ∙ lone-front t r (rest_plain b t h)

pub plain : (t : List ℕ) → is_plain t ≡ true → undone t ≡ t
unfolding undone_after
plain t h = ap undone (sym (append-nil t)) ∙ plain-front t [] h ∙ append-nil t

pub plain-lone : (t : List ℕ) → is_plain t ≡ true → has_lone t ≡ false
unfolding lone_after
plain-lone t h = ap has_lone (sym (append-nil t)) ∙ lone-front t [] h
