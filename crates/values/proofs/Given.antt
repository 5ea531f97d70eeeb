-- What an answer of `stands` tells of its parts: a value was given, so each part that it is made of was. Assumes nothing.
use Rattle.std.specs.Prelude.{Some, None, Option}
use Prim.Native.Nat.{ℕ}
use mathlib.Core.Bool.{Bool, true, false, cond}
use mathlib.Core.List.{List, [], ◌∷◌}
use mathlib.Core.Logic.{◌⊎◌, inl, inr}
use mathlib.Core.Path.{◌≡◌, refl, ap}
use native.Mathlib.Omega.{arith}
use Rattle.seq.specs.Bytes.{same, among}
use Rattle.seq.specs.Lists.{All}
use Rattle.seq.proofs.Bytes.{among-here}
use Rattle.seq.proofs.Logic.{clash, or-false}
use Rattle.lex.specs.declared.Mark.{Mark}
use Rattle.lex.specs.declared.Mark.TheVariants.{Item, End, Neither}
use Rattle.lex.proofs.Stands.{to-bad}
use Rattle.values.specs.Value.{Member}
use Rattle.values.specs.Read.{Read, then, made, past}
use Rattle.values.specs.Read.Read.{Gives, Not}
use Rattle.values.specs.Stands.{onward}

-- ---- two answers that are one
pub same-value : {A : Type 0} {r : Read A} {u v : A} {d e : ℕ} → r ≡ Gives u d → r ≡ Gives v e → u ≡ v
same-value p q = cc

pub same_place : {A : Type 0} {r : Read A} {u v : A} {d e : ℕ} → r ≡ Gives u d → r ≡ Gives v e → d ≡ e
same_place p q = cc

pub gives-not : {A : Type 0} {B : Type 0} {r : Read A} {v : A} {e : ℕ} → r ≡ Gives v e → r ≡ Not → B
gives-not p q = let z : ◌≡◌ {A = ℕ} 0 1 = cc in absurd (omega arith)

-- ---- parts
module _ {A B : Type 0} where
  pub then-gives : (r : Read A) (next : A → ℕ → Read B) (v : B) (e : ℕ) → then r next ≡ Gives v e
      → (u : A) × (m : ℕ) × (r ≡ Gives u m) × (next u m ≡ Gives v e)
  then-gives (Gives u m) next v e h = (u, m, refl, h)
  then-gives Not next v e h = gives-not h refl

  pub made-gives : (g : A → B) (r : Read A) (v : B) (e : ℕ) → made g r ≡ Gives v e → (u : A) × (r ≡ Gives u e) × (v ≡ g u)
  made-gives g (Gives u m) v e h = (u, ap (λ (i : ℕ). Gives u i) (same_place refl h), same-value h refl)
  made-gives g Not v e h = gives-not h refl

module _ {A : Type 0} where
  pub past-gives : (k : Option ℕ) (next : ℕ → Read A) (v : A) (e : ℕ) → past k next ≡ Gives v e → (m : ℕ) × (k ≡ Some m) × (next m ≡ Gives v e)
  past-gives (Some m) next v e h = (m, refl, h)
  past-gives None next v e h = gives-not h refl

  -- the pick of a test, where the other is no answer
  pub picked : (t : Bool) (r : Read A) (v : A) (e : ℕ) → cond t r Not ≡ Gives v e → (t ≡ true) × (r ≡ Gives v e)
  picked true r v e h = (refl, h)
  picked false r v e h = gives-not h refl

  pub passed : (t : Bool) (r : Read A) (v : A) (e : ℕ) → cond t Not r ≡ Gives v e → (t ≡ false) × (r ≡ Gives v e)
  passed true r v e h = gives-not h refl
  passed false r v e h = (refl, h)

  pub onward-gives : (m : Mark) (more : ℕ → Read (List A)) (vs : List A) (e : ℕ) → onward m more ≡ Gives vs e
      → ((m ≡ End e) × (vs ≡ [])) ⊎ ((a : ℕ) × (m ≡ Item a) × (more a ≡ Gives vs e))
  onward-gives (Item a) more vs e h = inr (a, refl, h)
  onward-gives (End z) more vs e h = inl (ap End (same_place refl h), same-value h refl)
  onward-gives Neither more vs e h = gives-not h refl

-- ---- beside the reader of messages: where both took a value they end at the same place, and the rule P holds of it
abbrev pub Sound : {A : Type 0} → (ℕ → Read A) → (ℕ → Option ℕ) → (A → Type 0) → Type 0
Sound {A} item skip P = (at e z : ℕ) (v : A) → item at ≡ Gives v e → skip at ≡ Some z → (e ≡ z) × P v

pub unrefused : (t : Bool) (k : Option ℕ) (z : ℕ) → cond t None k ≡ Some z → (t ≡ false) × (k ≡ Some z)
unrefused true k z h = to-bad h refl
unrefused false k z h = (refl, h)

-- ---- a dict's keys
-- none of them was seen before
abbrev pub New : {A : Type 0} → List (List ℕ) → List (Member A) → Type 0
New seen ms = All (λ m. among m.key seen ≡ false) ms

module _ {A : Type 0} (k : List ℕ) (seen : List (List ℕ)) where
  pub new_apart : (ms : List (Member A)) → New (k ∷ seen) ms → All (λ m. k ≡ m.key → ⊥) ms
  new_apart [] n = tt
  new_apart (m ∷ ms) n = ((λ e. clash (among-here m.key k seen e) n.0), new_apart ms n.1)

  pub new-before : (ms : List (Member A)) → New (k ∷ seen) ms → New seen ms
  unfolding among
  new-before [] n = tt
  new-before (m ∷ ms) n = ((or-false (same k m.key) (among m.key seen) n.0).1, new-before ms n.1)
