-- What the changes of a table do to its rows: a new row, a slot that joins a row, and one that leaves it, which frees the row of a last
-- holder. Assumes nothing.
use Prim.Native.Nat.{ℕ, zero, suc, ◌+◌, ◌<◌}
use mathlib.Core.Path.{◌≡◌, refl, sym, ◌∙◌}
use mathlib.Core.Bool.{Bool, true, false, ◌||◌}
use mathlib.Core.List.{List}
use lib.ListN.{length, get_or, set, replicate}
use lib.Seq.{get_or-set_same, get_or-set_other, take-append_seam}
use lib.Dec.{eqb}
use borrow.Author.Tests.{eqb-true, eqb-false, ne_eqb}
use Rattle.seq.proofs.Logic.{split, clash}
use Rattle.seq.proofs.Rules.{all-at}
use Rattle.seq.proofs.Search.{tally-one, tally-only}
use Rattle.uri.specs.declared.Policy.{Policy}
use Rattle.pattern.specs.declared.Row.{Row}
use Rattle.pattern.specs.Choice.{no_row, row_text}
use Rattle.model.specs.declared.Table.{Table}
use Rattle.model.specs.declared.Hub.{Hub}
use Rattle.model.specs.State.{slots, holds, is_holder, holder_count, padded, new_row, with_holders, joined, left, row_at, with_row, added}
use Rattle.model.specs.Rules.{SizedRow, Sized}
use Rattle.model.specs.Demands.{Took, SameBut, Joined, LeftRow, LeftTable}
use Rattle.model.proofs.RowSearch.{holder-inside}

-- ---- holders
pub none-holds : (n j : ℕ) → get_or (replicate n false) j false ≡ false
none-holds zero j = refl
none-holds (suc n) zero = refl
none-holds (suc n) (suc j) = none-holds n j

set_holds : (hs : List Bool) (i j : ℕ) → i < length hs → get_or (set hs i true) j false ≡ (eqb j i || get_or hs j false)
set_holds hs i j l =
    split (eqb j i)
    (λ t. rw (t, eqb-true j i t) (get_or-set_same hs i true false l))
    (λ t. rw t (get_or-set_other hs i j true false (eqb-false j i t)))

-- a subscription row has a place for each slot
pub member-places : (h : Hub) → Sized h → (k i : ℕ) → i < slots → i < length (row_at h.subscriptions k).holders
member-places h sized k i inside =
    let r : SizedRow (row_at h.subscriptions k) =
    all-at SizedRow no_row h.subscriptions.rows k (record { holders = refl; text = refl }) sized.members
    in
    rw r.holders inside

-- ---- a new row
module _ (number : ℕ) (p : Policy) (i : ℕ) (s : List ℕ) where
  new-text : row_text (new_row number p i s) ≡ s
  unfolding new_row padded
  new-text = take-append_seam s _

  new-holders : i < slots → (j : ℕ) → holds j (new_row number p i s) ≡ eqb j i
  unfolding new_row
  new-holders l j = set_holds (replicate slots false) i j l ∙ rw (none-holds slots j) (or-none (eqb j i))
    where
      or-none : (b : Bool) → (b || false) ≡ b
      or-none true = refl
      or-none false = refl

module _ (t : Table) (k : ℕ) (inside : k < length t.rows) where
  -- the row at the place that was set
  set-row : (r : Row) → get_or (set t.rows k r) k no_row ≡ r
  set-row r = get_or-set_same t.rows k r no_row inside

  other_row : (r : Row) (j : ℕ) → (j ≡ k → ⊥) → get_or (set t.rows k r) j no_row ≡ row_at t j
  other_row r j n = get_or-set_other t.rows k j r no_row n

  pub took : (p : Policy) (i : ℕ) (s : List ℕ) → i < slots → Took t (added t k p i s) k p i s
  unfolding added
  took p i s l =
      let r = new_row (t.counter + 1) p i s in
      record {
        counter = refl;
        number = rw (set-row r) (unfold new_row in refl);
        policy = rw (set-row r) (unfold new_row in refl);
        text = rw (set-row r) (new-text (t.counter + 1) p i s);
        holders = λ j. rw (set-row r) (new-holders (t.counter + 1) p i s l j);
        others = other_row r;
      }

  -- slot i joins row k
  pub joins : (i : ℕ) → i < length (row_at t k).holders → Joined t (with_row t k (joined i (row_at t k))) k i
  unfolding with_row joined with_holders
  joins i l =
      let r = joined i (row_at t k) in
      record {
        counter = refl;
        row = (rw (set-row r), rw (set-row r), rw (set-row r));
        holders = λ j. rw (set-row r) (set_holds (row_at t k).holders i j l);
        others = other_row r;
      }

-- ---- a slot leaves a row that it holds
module _ (r : Row) (i : ℕ) (e : holds i r ≡ true) where
  -- the last holder's leaving frees the row; another's does not
  pub left-last : holder_count r ≡ 1 → left i r ≡ no_row
  unfolding left
  left-last c = rw (e, c)

  two-holders : (j : ℕ) → (j ≡ i → ⊥) → holds j r ≡ true → eqb (holder_count r) 1 ≡ false
  two-holders j n f =
      ne_eqb (holder_count r) 1 (λ c. n (tally-one is_holder false refl r.holders c j i f e))

  -- every other slot holds the row exactly if it did
  leaves-others : (j : ℕ) → (j ≡ i → ⊥) → holds j (left i r) ≡ holds j r
  unfolding left with_holders
  leaves-others j n =
      rw e
      (split (eqb (holder_count r) 1)
      (λ c. rw c (none-holds slots j ∙ split (holds j r) (λ f. clash c (two-holders j n f)) sym))
      (λ c. rw c (get_or-set_other r.holders i j false false n)))

  left-kept : eqb (holder_count r) 1 ≡ false → left i r ≡ with_holders r (set r.holders i false)
  unfolding left
  left-kept c = rw (e, c)

  leaves-gone : holds i (left i r) ≡ false
  leaves-gone =
      split (eqb (holder_count r) 1)
      (λ c. rw (left-last (eqb-true (holder_count r) 1 c)) (none-holds slots i))
      (λ c. rw (left-kept c) (unfold with_holders in get_or-set_same r.holders i false false (holder-inside r i e)))

  leaves_kept : (j : ℕ) → (j ≡ i → ⊥) → holds j r ≡ true → SameBut r (left i r) × (holds j (left i r) ≡ true)
  unfolding with_holders
  leaves_kept j n f =
      rw (left-kept (two-holders j n f))
      ((refl, refl, refl), get_or-set_other r.holders i j false false n ∙ f)

  pub leaves-row : LeftRow r (left i r) i
  leaves-row =
      record {
        freed = λ f. left-last (tally-only is_holder false r.holders i (holder-inside r i e) e (λ j l u. f j u));
        kept = leaves_kept;
        gone = leaves-gone;
        others = leaves-others;
      }

pub leaves : (t : Table) (k i : ℕ) → k < length t.rows → holds i (row_at t k) ≡ true → LeftTable t (with_row t k (left i (row_at t k))) k i
unfolding with_row
leaves t k i inside e =
    record {
      counter = refl;
      row = rw (set-row t k inside (left i (row_at t k))) (leaves-row (row_at t k) i e);
      others = other_row t k inside (left i (row_at t k));
    }

-- the row of an only holder is free after it
pub leaves_free : (t : Table) (k i : ℕ) → k < length t.rows → holds i (row_at t k) ≡ true → holder_count (row_at t k) ≡ 1
    → row_at (with_row t k (left i (row_at t k))) k ≡ no_row
unfolding with_row
leaves_free t k i inside e c = set-row t k inside (left i (row_at t k)) ∙ left-last (row_at t k) i e c
