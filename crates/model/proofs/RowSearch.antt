-- The searches of a lawful table: a row of a policy and text, or of an ID that a slot holds, is the one found, since no other row is like
-- it; the lowest free row is found; where there is none, nothing is. A registration's only holder is its owner. Assumes nothing.
use Rattle.std.specs.Prelude.{Some, None}
use Prim.Native.Nat.{ℕ, ◌<◌}
use mathlib.Core.Path.{◌≡◌, refl, sym, ◌∙◌}
use mathlib.Core.Logic.{inl, inr}
use mathlib.Core.Bool.{true, false, not, ◌&&◌}
use mathlib.Core.List.{List}
use native.Mathlib.Omega.{arith}
use lib.ListN.{length, get_or}
use lib.Dec.{eqb}
use borrow.Author.Tests.{eqb-true, eqb-false, eq-eqb, lt-ltb, le-ltb}
use Rattle.seq.specs.Lists.{first, Pairs}
use Rattle.seq.specs.Bytes.{same}
use Rattle.seq.proofs.Logic.{split, clash, and_left, and_right, not_is}
use Rattle.seq.proofs.Rules.{pairs-at}
use Rattle.seq.proofs.Search.{first-is, first-none, first-only, pass-inside}
use Rattle.seq.proofs.Bytes.{same_refl, same-eq}
use Rattle.uri.specs.declared.Policy.{Policy}
use Rattle.uri.specs.Uri.{same_policy}
use Rattle.uri.proofs.Laws.{policy-same, policy-refl}
use Rattle.pattern.specs.declared.Row.{Row}
use Rattle.pattern.specs.Choice.{no_row, row_text}
use Rattle.model.specs.declared.Table.{Table}
use Rattle.seq.specs.Numbers.{last_id}
use Rattle.model.specs.State.{unused, holds, is_holder, is_of, is_held_by, row_at}
use Rattle.model.specs.Rules.{RowsApart}
use Rattle.model.specs.Step.{Next, has_number, on_place}
use Rattle.model.specs.Demands.{RowOf, NoRowOf, RowHeld, LowestFree, Full}

-- ---- rows at two places
turned : (r s : Row) → RowsApart r s → RowsApart s r
turned r s a =
    record {
      numbers = λ u v e. a.numbers v u (sym e);
      texts = λ u v e f. a.texts v u (sym e) (sym f);
    }

no-row-apart : (s : Row) → RowsApart no_row s
no-row-apart s = record { numbers = λ u v e. clash refl u; texts = λ u v e f. clash refl u }

-- used rows with one number are one row, and so are those with one policy and text
module _ (rows : List Row) (apart : Pairs RowsApart rows) (j k : ℕ) (u : unused (get_or rows j no_row) ≡ false) (v : unused (get_or rows k no_row) ≡ false) where
  other_row : eqb j k ≡ false → RowsApart (get_or rows j no_row) (get_or rows k no_row)
  other_row t = pairs-at RowsApart no_row turned no-row-apart rows apart j k (eqb-false j k t)

  one_number : (get_or rows j no_row).number ≡ (get_or rows k no_row).number → j ≡ k
  one_number e = split (eqb j k) (eqb-true j k) (λ t. absurd ((other_row t).numbers u v e))

  pub one-text : (get_or rows j no_row).policy ≡ (get_or rows k no_row).policy → row_text (get_or rows j no_row) ≡ row_text (get_or rows k no_row) → j ≡ k
  one-text e f = split (eqb j k) (eqb-true j k) (λ t. absurd ((other_row t).texts u v e f))

-- ---- the tests of a row, taken apart
module _ (p : Policy) (s : List ℕ) (r : Row) where
  pub is-of : unused r ≡ false → r.policy ≡ p → row_text r ≡ s → is_of p s r ≡ true
  unfolding is_of
  is-of u e f = rw (u, e, f, policy-refl p) (same_refl s)

  pub of_is : is_of p s r ≡ true → (unused r ≡ false) × (r.policy ≡ p) × (row_text r ≡ s)
  unfolding is_of
  of_is t =
      let q : (same_policy r.policy p && same (row_text r) s) ≡ true = and_right (not (unused r)) _ t in (
        not_is (unused r) (and_left (not (unused r)) _ t),
        policy-same r.policy p (and_left (same_policy r.policy p) _ q),
        same-eq (row_text r) s (and_right (same_policy r.policy p) _ q),
      )

module _ (i id : ℕ) (r : Row) where
  pub is_held : unused r ≡ false → r.number ≡ id → holds i r ≡ true → is_held_by i id r ≡ true
  unfolding is_held_by
  is_held u e f = rw (u, f, eq-eqb r.number id e)

  pub held-is : is_held_by i id r ≡ true → (unused r ≡ false) × (r.number ≡ id) × (holds i r ≡ true)
  unfolding is_held_by
  held-is t =
      let q : (eqb r.number id && holds i r) ≡ true = and_right (not (unused r)) _ t in (
        not_is (unused r) (and_left (not (unused r)) _ t),
        eqb-true r.number id (and_left (eqb r.number id) _ q),
        and_right (eqb r.number id) _ q,
      )

-- ---- the searches
module _ (t : Table) where
  -- a row of this policy and text
  pub row-found : (p : Policy) (s : List ℕ) (k : ℕ) → Pairs RowsApart t.rows → RowOf t p s k → first (is_of p s) t.rows ≡ Some k
  row-found p s k apart a =
      first-only (is_of p s) no_row t.rows k a.0.0 (is-of p s (row_at t k) a.0.1 a.1 a.2)
      (λ j q.
      let o = of_is p s (row_at t j) q in
      one-text t.rows apart j k o.0 a.0.1 (o.1 ∙ sym a.1) (o.2 ∙ sym a.2))

  pub row-none : (p : Policy) (s : List ℕ) → NoRowOf t p s → first (is_of p s) t.rows ≡ None
  row-none p s f =
      first-none (is_of p s) no_row t.rows
      (λ j l.
      split (is_of p s (row_at t j))
      (λ q. let o = of_is p s (row_at t j) q in absurd (f j ((l, o.0), o.1, o.2)))
      (λ q. q))

  -- a row that the slot holds under this ID
  pub held_found : (i id k : ℕ) → Pairs RowsApart t.rows → RowHeld t i id k → first (is_held_by i id) t.rows ≡ Some k
  held_found i id k apart a =
      first-only (is_held_by i id) no_row t.rows k a.0.0 (is_held i id (row_at t k) a.0.1 a.1 a.2)
      (λ j q. let o = held-is i id (row_at t j) q in one_number t.rows apart j k o.0 a.0.1 (o.1 ∙ sym a.1))

  pub held_none : (i id : ℕ) → ((k : ℕ) → ¬ (RowHeld t i id k)) → first (is_held_by i id) t.rows ≡ None
  held_none i id f =
      first-none (is_held_by i id) no_row t.rows
      (λ j l.
      split (is_held_by i id (row_at t j))
      (λ q. let o = held-is i id (row_at t j) q in absurd (f j ((l, o.0), o.1, o.2)))
      (λ q. q))

  -- a place for a new row
  pub place-found : (k : ℕ) (found : ℕ → Next) (none : Next) → LowestFree t k → t.counter < last_id → on_place t found none ≡ found k
  unfolding on_place has_number
  place-found k found none a l =
      rw (lt-ltb t.counter last_id l, first-is unused no_row t.rows k a.inside a.free a.lowest)

  no_number : t.counter ≡ last_id → has_number t ≡ false
  unfolding has_number
  no_number e = le-ltb t.counter last_id (omega arith)

  pub place_none : (found : ℕ → Next) (none : Next) → Full t → on_place t found none ≡ none
  unfolding on_place
  place_none found none (inl f) =
      rw (first-none unused no_row t.rows f) (split (has_number t) (λ e. rw e) (λ e. rw e))
  place_none found none (inr e) = rw no_number

pub holder-inside : (r : Row) (j : ℕ) → holds j r ≡ true → j < length r.holders
holder-inside r j e = pass-inside is_holder false r.holders j refl e
