-- Which texts fit and which of two is better (specs/Match.antt) mean what specs/Fit.antt says of bytes and components. Assumes nothing.
use Prim.Native.Nat.{ℕ, zero, suc, ◌<◌}
use mathlib.Core.Bool.{true, false, not}
use mathlib.Core.List.{List, [], ◌∷◌, ◌++◌, cons≢nil}
use mathlib.Core.Logic.{◌↔◌, ◌⊎◌, inl, inr}
use mathlib.Core.Path.{◌≡◌, refl, sym, ap, ◌∙◌}
use native.Mathlib.Omega.{arith}
use borrow.Author.Tests.{ne_eqb, eq-eqb, not-true}
use lib.Dec.{eqb}
use lib.ListN.{length, take, drop, get_or, take-append-drop}
use lib.Seq.{take_at}
use Rattle.seq.specs.Lists.{is_empty}
use Rattle.seq.specs.Bytes.{same}
use Rattle.seq.proofs.Logic.{split, clash, and_left, and_right, and_both}
use Rattle.seq.proofs.Lists.{empty-is}
use Rattle.seq.proofs.Bytes.{same-eq, same_refl}
use Rattle.uri.specs.declared.Policy.{Policy}
use Rattle.uri.specs.Uri.{same_policy, components}
use Rattle.uri.proofs.Laws.{policy-same, policy-refl}
use Rattle.pattern.specs.declared.Row.{Row}
use Rattle.pattern.specs.Choice.{fits_row, candidate}
use Rattle.pattern.specs.Match.{starts_with, covers, fits_parts, fits_text, counts, greater, beats_text}
use Rattle.pattern.specs.Fit.{FitsEach, OpensLater}
use Rattle.uri.specs.declared.Policy.TheVariants.{Exact, Prefix, Wildcard}
use Rattle.pattern.proofs.Counts.{wild-wild, literal-literal, wild-literal, literal-wild, greater-same}

-- ---- equal bytes
same-is : (t u : List ℕ) → t ≡ u → same t u ≡ true
same-is t u e = ap (same t) (sym e) ∙ same_refl t

starts-with : (t u : List ℕ) → starts_with t u ≡ true → (w : List ℕ) × (t ++ w ≡ u)
unfolding starts_with
starts-with t u e =
    (drop (length t) u, ap (λ l. l ++ drop (length t) u) (same-eq t (take (length t) u) e) ∙ take-append-drop (length t) u)

with-starts : (t u : List ℕ) → (w : List ℕ) × (t ++ w ≡ u) → starts_with t u ≡ true
unfolding starts_with
with-starts t u p = same-is t (take (length t) u) (sym (take_at t p.0 (length t) refl) ∙ ap (take (length t)) p.1)

-- ---- components, each empty or equal
covers-or : (c u : List ℕ) → covers c u ≡ true → (c ≡ []) ⊎ (c ≡ u)
unfolding covers
covers-or [] u e = inl refl
covers-or (x ∷ c) u e = inr (same-eq (x ∷ c) u e)

or-covers : (c u : List ℕ) → (c ≡ []) ⊎ (c ≡ u) → covers c u ≡ true
unfolding covers
or-covers [] u e = refl
or-covers (x ∷ c) u (inl e) = absurd (cons≢nil e)
or-covers (x ∷ c) u (inr e) = same-is (x ∷ c) u e

-- the component at a place, of components
at : List (List ℕ) → ℕ → List ℕ
at cs k = get_or cs k []

Each : List (List ℕ) → List (List ℕ) → Type 0
Each cs us = (length cs ≡ length us) × ((k : ℕ) → k < length cs → (at cs k ≡ []) ⊎ (at cs k ≡ at us k))

parts-each : (cs us : List (List ℕ)) → fits_parts cs us ≡ true → Each cs us
unfolding fits_parts Each at
parts-each [] [] e = (refl, λ k h. inl refl)
parts-each [] (u ∷ us) e = clash refl (sym e)
parts-each (c ∷ cs) [] e = clash refl (sym e)
parts-each (c ∷ cs) (u ∷ us) e =
    let r : Each cs us = parts-each cs us (and_right (covers c u) _ e) in
    (ap suc r.0, λ k. elim k as (λ k. k < suc (length cs) → (at (c ∷ cs) k ≡ []) ⊎ (at (c ∷ cs) k ≡ at (u ∷ us) k)) [ zero ↦ λ h. covers-or c u (and_left (covers c u) _ e) | suc k ↦ λ h. r.1 k (omega arith) ])

each-parts : (cs us : List (List ℕ)) → Each cs us → fits_parts cs us ≡ true
unfolding fits_parts Each at
each-parts [] [] r = refl
each-parts [] (u ∷ us) r = absurd (omega (arith, r.0))
each-parts (c ∷ cs) [] r = absurd (omega (arith, r.0))
each-parts (c ∷ cs) (u ∷ us) r =
    and_both (or-covers c u (r.1 0 (omega arith))) (each-parts cs us (omega (arith, r.0), λ k h. r.1 (suc k) (omega arith)))

-- ---- the better one
Later : List (List ℕ) → List (List ℕ) → Type 0
Later cs ds = (k : ℕ) × (k < length cs) × ¬ (at cs k ≡ []) × (at ds k ≡ []) × ((j : ℕ) → j < k → (at cs j ≡ []) ↔ (at ds j ≡ []))

filled-not : (c : List ℕ) → is_empty c ≡ false → ¬ (c ≡ [])
filled-not c e q = clash (ap is_empty q) e

-- where both begin alike, what is after that decides
module _ (c d : List ℕ) (cs ds : List (List ℕ)) where
  later-on : (c ≡ []) ↔ (d ≡ []) → Later cs ds → Later (c ∷ cs) (d ∷ ds)
  unfolding Later at
  later-on e (k, h, n, w, b) = (suc k, omega arith, n, w, λ j. elim j as (λ j. j < suc k → (at (c ∷ cs) j ≡ []) ↔ (at (d ∷ ds) j ≡ [])) [ zero ↦ λ g. e | suc j ↦ λ g. b j (omega arith) ])

  later-back : (c ≡ []) ↔ (d ≡ []) → Later (c ∷ cs) (d ∷ ds) → Later cs ds
  unfolding Later at
  later-back e (zero, h, n, w, b) = absurd (n (e.1 w))
  later-back e (suc k, h, n, w, b) = (k, omega arith, n, w, λ j g. b (suc j) (omega arith))

  goes-on :
      (c ≡ []) ↔ (d ≡ []) → greater (counts (c ∷ cs)) (counts (d ∷ ds)) ≡ greater (counts cs) (counts ds)
      → greater (counts cs) (counts ds) ≡ true ↔ Later cs ds → greater (counts (c ∷ cs)) (counts (d ∷ ds)) ≡ true ↔ Later (c ∷ cs) (d ∷ ds)
  goes-on e q r = (λ g. later-on e (r.0 (sym q ∙ g)), λ p. q ∙ r.1 (later-back e p))

  never-later : is_empty c ≡ true → is_empty d ≡ false → ¬ (Later (c ∷ cs) (d ∷ ds))
  unfolding Later at
  never-later e f (zero, h, n, w, b) = n (empty-is c e)
  never-later e f (suc k, h, n, w, b) = filled-not d f ((b 0 (omega arith)).0 (empty-is c e))

greater-later : (cs ds : List (List ℕ)) → length cs ≡ length ds → greater (counts cs) (counts ds) ≡ true ↔ Later cs ds
unfolding Later at
greater-later [] [] l = (λ g. clash g (greater-same (counts [])), λ p. absurd (omega (arith, p.1)))
greater-later [] (d ∷ ds) l = absurd (omega arith)
greater-later (c ∷ cs) [] l = absurd (omega arith)
greater-later (c ∷ cs) (d ∷ ds) l =
    let r : greater (counts cs) (counts ds) ≡ true ↔ Later cs ds = greater-later cs ds (omega arith) in
    split (is_empty c)
    (λ e.
    split (is_empty d)
    (λ f. goes-on c d cs ds (λ q. empty-is d f, λ q. empty-is c e) (wild-wild c d cs ds e f) r)
    (λ f. (λ g. clash g (wild-literal c d cs ds e f), λ p. absurd (never-later c d cs ds e f p))))
    (λ e.
    split (is_empty d)
    (λ f. (λ g. (0, omega arith, filled-not c e, empty-is d f, λ j h. absurd (omega arith)), λ p. literal-wild c d cs ds e f))
    (λ f.
    goes-on c d cs ds (λ q. absurd (filled-not c e q), λ q. absurd (filled-not d f q)) (literal-literal c d cs ds e f) r))

-- ---- rows
row_fits : (u : List ℕ) (r : Row) → fits_row u r ≡ true ↔ (¬ (r.number ≡ 0) × (fits_text r.policy (take r.len r.text) u ≡ true))
unfolding fits_row
row_fits u r = (
  λ t. (λ e. clash (eq-eqb _ 0 e) (not-true _ (and_left (not (eqb r.number 0)) _ t)), and_right (not (eqb r.number 0)) _ t),
  λ (n, f). and_both (ap not (ne_eqb _ 0 n)) f,
)

row-candidate : (p : Policy) (u : List ℕ) (r : Row) → candidate p u r ≡ true ↔ ((r.policy ≡ p) × (fits_row u r ≡ true))
unfolding candidate
row-candidate p u r = (
  λ t. (policy-same r.policy p (and_left (same_policy r.policy p) _ t), and_right (same_policy r.policy p) _ t),
  λ (e, f). and_both (ap (λ q. same_policy q p) e ∙ policy-refl p) f,
)

-- ---- the statements, of every text and URI
pub record Fit : Type 0 where
  pub exact : (t u : List ℕ) → fits_text Exact t u ≡ true ↔ (t ≡ u)
  pub prefix : (t u : List ℕ) → fits_text Prefix t u ≡ true ↔ ((w : List ℕ) × (t ++ w ≡ u))
  pub wildcard : (t u : List ℕ) → fits_text Wildcard t u ≡ true ↔ FitsEach t u
  pub order :
      (a b u : List ℕ) → fits_text Wildcard a u ≡ true → fits_text Wildcard b u ≡ true → beats_text a b ≡ true ↔ OpensLater a b
  pub row : (u : List ℕ) (r : Row) → fits_row u r ≡ true ↔ (¬ (r.number ≡ 0) × (fits_text r.policy (take r.len r.text) u ≡ true))
  pub candidate : (p : Policy) (u : List ℕ) (r : Row) → candidate p u r ≡ true ↔ ((r.policy ≡ p) × (fits_row u r ≡ true))

pub fit : Fit
unfolding fits_text beats_text Each Later at
fit = record {
  exact = λ t u. (same-eq t u, same-is t u);
  prefix = λ t u. (starts-with t u, with-starts t u);
  wildcard = λ t u. (parts-each (components t) (components u), each-parts (components t) (components u));
  order = λ a b u f g. greater-later (components a) (components b)
      ((parts-each (components a) (components u) f).0 ∙ sym (parts-each (components b) (components u) g).0);
  row = row_fits;
  candidate = row-candidate;
}
