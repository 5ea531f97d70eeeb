-- A row's change keeps the row's rules, in a subscription's and a registration's table alike: a new row, a holder that joins, one that
-- leaves. A row that only changes its holders, or is freed, stays apart from the others. Assumes nothing.
use Prim.Native.Nat.{ℕ, suc, ◌+◌, ◌-◌, ◌≤◌, ◌<◌}
use mathlib.Core.Bool.{Bool, true, false}
use mathlib.Core.List.{List}
use mathlib.Core.Path.{◌≡◌, refl, sym, ap, ◌∙◌}
use native.Mathlib.Omega.{arith}
use borrow.Author.Tests.{eqb-true, eqb-false}
use lib.Dec.{eqb}
use lib.ListN.{length, get_or, set, replicate, length-append, length-set, length-replicate, get_or-replicate}
use lib.Seq.{get_or-set_same, get_or-set_other, take-append_seam, drop-append_seam}
use Rattle.seq.specs.Lists.{tally}
use Rattle.seq.specs.Bytes.{same}
use Rattle.seq.proofs.Logic.{split, clash}
use Rattle.seq.proofs.Rules.{at_set, all-at, all-every, all_replicate}
use Rattle.seq.proofs.Search.{bit-low, tally-set, tally-none}
use Rattle.uri.specs.declared.Policy.{Policy}
use Rattle.uri.specs.Uri.{longest, TextRule}
use Rattle.uri.proofs.Uses.{Short}
use Rattle.pattern.specs.declared.Row.{Row}
use Rattle.pattern.specs.Choice.{no_row, row_text}
use Rattle.model.specs.declared.Hub.{Hub}
use Rattle.model.specs.State.{slots, unused, holds, is_holder, holder_count, padded, new_row, with_holders, joined, left}
use Rattle.model.specs.Rules.{is_zero, OpenAt, UsedRow, RowsApart, SomeMember, OneOwner}
use Rattle.model.proofs.Lawful.{zero-past}
use Rattle.model.proofs.Parts.{RowLaw}

-- ---- how many holders a row has
-- one is enough, and where they are more than one they may be one fewer
pub record Counts (Wanted : ℕ → Type 0) : Type 0 where
  pub one : Wanted 1
  pub fewer : (n : ℕ) → Wanted (suc n) → (n ≡ 0 → ⊥) → Wanted n

pub some-counts : Counts SomeMember
some-counts = record { one = omega arith; fewer = λ n w q. omega arith }

pub one-counts : Counts OneOwner
one-counts = record { one = refl; fewer = λ n w q. absurd (q (omega arith)) }

-- ---- rows that are the same but for their holders, or freed
abbrev pub Kin : Row → Row → Type 0
Kin r s = unused s ≡ false → (s.number ≡ r.number) × (s.policy ≡ r.policy) × (row_text s ≡ row_text r)

pub kin-refl : (r : Row) → Kin r r
kin-refl r u = (refl, refl, refl)

pub kin-held : (r : Row) (hs : List Bool) → Kin r (with_holders r hs)
unfolding with_holders
kin-held r hs u = (refl, refl, refl)

kin-none : (r : Row) → Kin r no_row
kin-none r u = clash refl u

pub kin-left : (i : ℕ) (r : Row) → Kin r (left i r)
unfolding left
kin-left i r =
    split (holds i r)
    (λ t. rw t (split (eqb (holder_count r) 1) (λ c. rw c (kin-none r)) (λ c. rw c (kin-held r _))))
    (λ t. rw t (kin-refl r))

-- kin of rows that stand apart stand apart
pub apart-kin : (r s a b : Row) → Kin r a → Kin s b → RowsApart r s → RowsApart a b
apart-kin r s a b p q d =
    record {
      numbers =
          λ u v e.
          let x = p u in
          let y = q v in
          let m : r.number ≡ a.number = sym x.0 in
          let n : s.number ≡ b.number = sym y.0 in
          d.numbers (rw m u) (rw n v) (omega arith);
      texts =
          λ u v e f.
          let x = p u in
          let y = q v in
          let m : r.number ≡ a.number = sym x.0 in
          let n : s.number ≡ b.number = sym y.0 in
          d.texts (rw m u) (rw n v) (sym x.1 ∙ e ∙ y.1) (sym x.2 ∙ f ∙ y.2);
    }

-- ---- an unused row keeps the rules
pub free_law : (h : Hub) (counter : ℕ) (rule : TextRule) (Wanted : ℕ → Type 0) → RowLaw h counter rule Wanted no_row
free_law h counter rule Wanted = record { used = λ u. clash refl u; free = λ _. refl; sized = record { holders = refl; text = refl } }

-- other holders, all of them open, and as many as are wanted
reheld : (h g : Hub) (counter : ℕ) (rule : TextRule) (Wanted : ℕ → Type 0) (r : Row) (hs : List Bool) → UsedRow h counter rule Wanted r
    → ((j : ℕ) → get_or hs j false ≡ true → OpenAt g j) → Wanted (tally is_holder hs) → UsedRow g counter rule Wanted (with_holders r hs)
unfolding with_holders
reheld h g counter rule Wanted r hs u o w =
    record { number = u.number; len = u.len; text = u.text; zero = u.zero; holding = o; wanted = w }

-- ---- a holder joins a subscription's row
joins-count : (r : Row) (i : ℕ) → i < length r.holders → 1 ≤ holder_count r → 1 ≤ tally is_holder (set r.holders i true)
joins-count r i b w = omega (arith, tally-set is_holder false r.holders i true b, bit-low (holds i r))

pub joined-law : (h : Hub) (counter : ℕ) (rule : TextRule) (i : ℕ) (r : Row) → OpenAt h i → i < slots → unused r ≡ false
    → RowLaw h counter rule SomeMember r → RowLaw h counter rule SomeMember (joined i r)
unfolding joined with_holders
joined-law h counter rule i r o b q l =
    record {
      used =
          λ _.
          reheld h h counter rule SomeMember r (set r.holders i true) (l.used q)
          (at_set (λ j t. t ≡ true → OpenAt h j) false r.holders i true inside (λ _. o) (l.used q).holding)
          (joins-count r i inside (l.used q).wanted);
      free = λ e. clash e q;
      sized = record { holders = length-set r.holders i true ∙ l.sized.holders; text = l.sized.text };
    }
  where
    inside : i < length r.holders
    inside = let n = l.sized.holders in omega arith

-- ---- a holder leaves
-- a row that a slot holds is used
pub held-used : (h : Hub) (counter : ℕ) (rule : TextRule) (Wanted : ℕ → Type 0) (i : ℕ) (r : Row) → i < slots → holds i r ≡ true
    → RowLaw h counter rule Wanted r → unused r ≡ false
held-used h counter rule Wanted i r b e l =
    split (unused r)
    (λ u. clash e (ap (holds i) (l.free u) ∙ get_or-replicate slots i false false b))
    (λ u. u)

-- the slots that hold the row after slot i has left
others : (r : Row) (i j : ℕ) → i < length r.holders → get_or (set r.holders i false) j false ≡ true → (holds j r ≡ true) × (j ≡ i → ⊥)
others r i j b e =
    split (eqb j i)
    (λ t. clash e (ap (λ k. get_or (set r.holders i false) k false) (eqb-true j i t) ∙ get_or-set_same r.holders i false false b))
    (λ t. (sym (get_or-set_other r.holders i j false false (eqb-false j i t)) ∙ e, eqb-false j i t))

-- the other holders are as many as wanted
leaves-count : (Wanted : ℕ → Type 0) → Counts Wanted → (r : Row) (i : ℕ) → i < length r.holders → holds i r ≡ true
    → (holder_count r ≡ 1 → ⊥) → Wanted (holder_count r) → Wanted (tally is_holder (set r.holders i false))
leaves-count Wanted k r i b e q w =
    let n : ℕ = tally is_holder (set r.holders i false) in
    let s : n + 1 ≡ holder_count r + 0 = rw e at (tally-set is_holder false r.holders i false b) in
    let t : holder_count r ≡ suc n = omega arith in
    k.fewer n (rw t at w) (λ z. q (omega arith))

module _ (h g : Hub) (counter : ℕ) (rule : TextRule) (Wanted : ℕ → Type 0) (counts : Counts Wanted) (i : ℕ) (inside : i < slots)
    (stay : (j : ℕ) → OpenAt h j → (j ≡ i → ⊥) → OpenAt g j) (r : Row) (l : RowLaw h counter rule Wanted r) where
  within : i < length r.holders
  within = let n = l.sized.holders in omega arith

  some-leave : holds i r ≡ true → (holder_count r ≡ 1 → ⊥) → RowLaw g counter rule Wanted (with_holders r (set r.holders i false))
  unfolding with_holders
  some-leave e q =
      let u : unused r ≡ false = held-used h counter rule Wanted i r inside e l in
      record {
        used =
            λ _.
            reheld h g counter rule Wanted r (set r.holders i false) (l.used u)
            (λ j t. let o = others r i j within t in stay j ((l.used u).holding j o.0) o.1)
            (leaves-count Wanted counts r i within e q (l.used u).wanted);
        free = λ f. clash f u;
        sized = record { holders = length-set r.holders i false ∙ l.sized.holders; text = l.sized.text };
      }

  none-leaves : holds i r ≡ false → RowLaw g counter rule Wanted r
  unfolding with_holders
  none-leaves e =
      record {
        used =
            λ u.
            reheld h g counter rule Wanted r r.holders (l.used u)
            (λ j t. stay j ((l.used u).holding j t) (λ q. clash (ap (λ k. holds k r) (sym q) ∙ t) e))
            (l.used u).wanted;
        free = l.free;
        sized = l.sized;
      }

  -- slot i leaves the row, and every other open session stays open
  pub left-law : RowLaw g counter rule Wanted (left i r)
  unfolding left
  left-law =
      split (holds i r)
      (λ t. rw t
      (split (eqb (holder_count r) 1)
      (λ c. rw c (free_law g counter rule Wanted))
      (λ c. rw c (some-leave t (eqb-false (holder_count r) 1 c)))))
      (λ t. rw t (none-leaves t))

-- ---- a new row
-- a new row's text, its size, and its zeros past the text
pub new-text : (number : ℕ) (policy : Policy) (i : ℕ) (s : List ℕ) → row_text (new_row number policy i s) ≡ s
unfolding new_row padded
new-text number policy i s = take-append_seam s _

new-size : (s : List ℕ) → length s ≤ longest → length (padded s) ≡ longest
unfolding padded
new-size s b = length-append s _ ∙ simp length-replicate (omega arith)

new-padding : (s : List ℕ) (k : ℕ) → length s ≤ k → get_or (padded s) k 0 ≡ 0
unfolding padded
new-padding s =
    zero-past (length s) (padded s)
    (rw (drop-append_seam s) (all-every is_zero _ (all_replicate (λ n. is_zero n ≡ true) (longest - length s) 0 refl)))

-- one holder among n slots
new-count : (n i : ℕ) → i < n → tally is_holder (set (replicate n false) i true) ≡ 1
new-count n i b =
    let k : i < length (replicate n false) = rw length-replicate b in
    let e : tally is_holder (set (replicate n false) i true) + 0 ≡ 0 + 1 =
    rw (get_or-replicate n i false false b, tally-none is_holder false n refl) at (tally-set is_holder false (replicate n false) i true k) in
    omega arith

new-holder : (P : ℕ → Type 0) (n i : ℕ) → i < n → P i → (j : ℕ) → get_or (set (replicate n false) i true) j false ≡ true → P j
new-holder P n i b p = at_set (λ j t. t ≡ true → P j) false (replicate n false) i true (rw length-replicate b) (λ _. p) none
  where
    none : (j : ℕ) → get_or (replicate n false) j false ≡ true → P j
    none j e = clash e (all-at (λ t. t ≡ false) false (replicate n false) j refl (all_replicate (λ t. t ≡ false) n false refl))

-- the next number's row, with one holder, an open session
pub new-law : (h : Hub) (counter : ℕ) (rule : TextRule) (short : Short rule) (Wanted : ℕ → Type 0) (counts : Counts Wanted) (policy : Policy) (i : ℕ) (s : List ℕ)
    → OpenAt h i → i < slots → rule s policy ≡ true → RowLaw h (counter + 1) rule Wanted (new_row (counter + 1) policy i s)
unfolding new_row
new-law h counter rule short Wanted counts policy i s o b v =
    record {
      used =
          λ _.
          record {
            number = omega arith;
            len = short s policy v;
            text = rw (new-text (counter + 1) policy i s) v;
            zero = new-padding s;
            holding = new-holder (OpenAt h) slots i b o;
            wanted = rw (new-count slots i b) counts.one;
          };
      free = λ e. absurd (let z = eqb-true (counter + 1) 0 e in omega arith);
      sized = record { holders = length-set (replicate slots false) i true; text = new-size s (short s policy v) };
    }

-- a row's rules under the next number
pub next-law : (h : Hub) (counter : ℕ) (rule : TextRule) (Wanted : ℕ → Type 0) (r : Row) → RowLaw h counter rule Wanted r
    → RowLaw h (counter + 1) rule Wanted r
next-law h counter rule Wanted r l =
    record {
      used =
          λ u.
          let k = l.used u in
          record { number = omega arith; len = k.len; text = k.text; zero = k.zero; holding = k.holding; wanted = k.wanted };
      free = l.free;
      sized = l.sized;
    }
