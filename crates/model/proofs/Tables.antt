-- A table's change keeps its rules: a row is added, a holder joins a row or leaves it, a slot leaves every row. With such a table in place
-- of the subscriptions or the registrations the state keeps its rules. Assumes nothing.
use Prim.Native.Nat.{ℕ, ◌+◌, ◌<◌}
use mathlib.Core.Bool.{true, false}
use mathlib.Core.List.{List}
use mathlib.Core.Path.{◌≡◌, refl, sym, ◌∙◌}
use native.Mathlib.Omega.{arith}
use lib.ListN.{length-set, length-map}
use Rattle.seq.specs.Lists.{All}
use Rattle.seq.specs.Bytes.{same}
use Rattle.seq.proofs.Logic.{clash}
use Rattle.seq.proofs.Rules.{all_map, all_both, all_set, all-image, all-swap, pairs_set, pairs-swap, pairs-image}
use Rattle.uri.specs.declared.Policy.{Policy}
use Rattle.uri.specs.Uri.{valid_topic, valid_procedure, TextRule}
use Rattle.uri.proofs.Uses.{Short}
use Rattle.pattern.specs.declared.Row.{Row}
use Rattle.pattern.specs.Choice.{no_row}
use Rattle.model.specs.declared.Table.{Table}
use Rattle.model.specs.declared.Hub.{Hub}
use Rattle.seq.specs.Numbers.{last_id}
use Rattle.model.specs.State.{slots, unused, new_row, joined, left, is_of, row_at, with_row, added, left_by, with_subscriptions, with_registrations}
use Rattle.model.specs.Rules.{OpenAt, RowsApart, SomeMember, OneOwner}
use Rattle.model.proofs.Parts.{RowLaw, TableLaw, Sound, Grows, grows_same, table-grows, calls-grow}
use Rattle.model.proofs.RowSearch.{is-of}
use Rattle.model.proofs.Rows.{Counts, Kin, kin-refl, kin-held, kin-left, apart-kin, joined-law, left-law, new-text, new-law, next-law}

-- ---- a new row stands apart from the others
apart-sym : (r s : Row) → RowsApart r s → RowsApart s r
apart-sym r s d = record { numbers = λ u v e. d.numbers v u (sym e); texts = λ u v e f. d.texts v u (sym e) (sym f) }

module _ (h : Hub) (rule : TextRule) (Wanted : ℕ → Type 0) (t : Table) (l : TableLaw h rule Wanted t) where
  -- the next number and a text and policy without a row
  new_apart : (policy : Policy) (i : ℕ) (s : List ℕ) → rule s policy ≡ true
      → (r : Row) → RowLaw h t.counter rule Wanted r → is_of policy s r ≡ false → RowsApart (new_row (t.counter + 1) policy i s) r
  unfolding new_row
  new_apart policy i s v r k e =
      record {
        numbers = λ _ u q. let n = (k.used u).number in omega arith;
        texts =
            λ _ u p q.
            clash
            (is-of policy s r u (sym p) (sym q ∙ new-text (t.counter + 1) policy i s))
            e;
      }

  -- a text and policy without a row gets one under the next number
  pub added-table : Short rule → Counts Wanted → (k : ℕ) (policy : Policy) (i : ℕ) (s : List ℕ) → OpenAt h i → i < slots → rule s policy ≡ true
      → t.counter < last_id → All (λ r. is_of policy s r ≡ false) t.rows → TableLaw h rule Wanted (added t k policy i s)
  unfolding added
  added-table short counts k policy i s o b v c none =
      record {
        size = length-set t.rows k _ ∙ l.size;
        each =
            all_set (RowLaw h (t.counter + 1) rule Wanted) t.rows k (new_row (t.counter + 1) policy i s)
            (new-law h t.counter rule short Wanted counts policy i s o b v)
            (all_map (RowLaw h t.counter rule Wanted) _ (next-law h t.counter rule Wanted) t.rows l.each);
        apart =
            pairs_set RowsApart t.rows k _ apart
            (all_map (RowsApart (new_row (t.counter + 1) policy i s)) _ (apart-sym _) t.rows apart)
            l.apart;
        counter = omega arith;
      }
    where
      apart : All (RowsApart (new_row (t.counter + 1) policy i s)) t.rows
      apart = all_both (RowLaw h t.counter rule Wanted) (λ r. is_of policy s r ≡ false) _ (new_apart policy i s v) t.rows l.each none

  -- a row is replaced by one with the same number, policy and text, or freed
  replaced : (k : ℕ) (r : Row) → (RowLaw h t.counter rule Wanted (row_at t k) → RowLaw h t.counter rule Wanted r)
      → Kin (row_at t k) r → TableLaw h rule Wanted (with_row t k r)
  unfolding with_row
  replaced k r f kin =
      record {
        size = length-set t.rows k r ∙ l.size;
        each = all-swap (RowLaw h t.counter rule Wanted) no_row t.rows k r f l.each;
        apart =
            pairs-swap RowsApart no_row t.rows k r
            (λ x. apart-kin (row_at t k) x r x kin (kin-refl x))
            (λ x. apart-kin x (row_at t k) x r (kin-refl x) kin)
            l.apart;
        counter = l.counter;
      }

  -- slot i leaves a row
  pub left-table : Counts Wanted → (k i : ℕ) → i < slots → TableLaw h rule Wanted (with_row t k (left i (row_at t k)))
  left-table counts k i b =
      replaced k (left i (row_at t k))
      (left-law h h t.counter rule Wanted counts i b (λ j o _. o) (row_at t k))
      (kin-left i (row_at t k))

  -- slot i leaves every row, and every other open session stays open
  pub left-by : (g : Hub) → Counts Wanted → (i : ℕ) → i < slots → ((j : ℕ) → OpenAt h j → (j ≡ i → ⊥) → OpenAt g j)
      → TableLaw g rule Wanted (left_by i t)
  unfolding left_by
  left-by g counts i b stay =
      record {
        size = length-map t.rows (left i) ∙ l.size;
        each =
            all-image (RowLaw h t.counter rule Wanted) (RowLaw g t.counter rule Wanted) (left i)
            (left-law h g t.counter rule Wanted counts i b stay)
            t.rows l.each;
        apart = pairs-image RowsApart (left i) (λ x y. apart-kin x y (left i x) (left i y) (kin-left i x) (kin-left i y)) t.rows l.apart;
        counter = l.counter;
      }

-- an open session joins a used row of the subscriptions
pub joined-table : (h : Hub) (rule : TextRule) (t : Table) → TableLaw h rule SomeMember t → (k i : ℕ) → OpenAt h i → i < slots
    → unused (row_at t k) ≡ false → TableLaw h rule SomeMember (with_row t k (joined i (row_at t k)))
unfolding joined
joined-table h rule t l k i o b u =
    replaced h rule SomeMember t l k (joined i (row_at t k))
    (joined-law h t.counter rule i (row_at t k) o b u)
    (kin-held (row_at t k) _)

-- ---- the state with another table
module _ (h : Hub) (l : Sound h) (t : Table) where
  pub subscriptions-sound : TableLaw h valid_topic SomeMember t → Sound (with_subscriptions h t)
  unfolding with_subscriptions
  subscriptions-sound k =
      let g : Hub = with_subscriptions h t in
      let same : Grows h g = grows_same h g refl in
      record {
        sessions = l.sessions;
        subscriptions = table-grows h g same valid_topic SomeMember t k;
        registrations = table-grows h g same valid_procedure OneOwner h.registrations l.registrations;
        calls = calls-grow h g same h.calls l.calls;
      }

  pub registrations-sound : TableLaw h valid_procedure OneOwner t → Sound (with_registrations h t)
  unfolding with_registrations
  registrations-sound k =
      let g : Hub = with_registrations h t in
      let same : Grows h g = grows_same h g refl in
      record {
        sessions = l.sessions;
        subscriptions = table-grows h g same valid_topic SomeMember h.subscriptions l.subscriptions;
        registrations = table-grows h g same valid_procedure OneOwner t k;
        calls = calls-grow h g same h.calls l.calls;
      }
