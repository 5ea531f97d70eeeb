-- Laws of specs/Keep.antt for the code: bytes put where others lie, and rows changed one after the other. Assumes nothing.
use Prim.Native.Nat.{ℕ, ◌+◌, ◌*◌, ◌≤◌, ◌<◌}
use mathlib.Core.Bool.{true, false}
use mathlib.Core.List.{List, ◌++◌, append_assoc}
use mathlib.Core.Path.{◌≡◌, refl, sym, ap, ◌∙◌}
use native.Mathlib.Nat.{suc-mul}
use native.Mathlib.Numerals.{add-one}
use native.Mathlib.Omega.{arith}
use borrow.Author.Tests.{eq-eqb, lt-ltb, le-ltb}
use lib.Dec.{eqb}
use lib.ListN.{length, take, drop, length-append, length-drop, length-set, take-append-drop, get_or}
use lib.Seq.{drop_at, drop-drop, length-take-le}
use Rattle.seq.specs.Lists.{joined}
use Rattle.seq.proofs.Lists.{joined_snoc}
use Rattle.seq.proofs.Logic.{cond-case}
use Rattle.uri.specs.Uri.{longest}
use Rattle.pattern.specs.declared.Row.{Row}
use Rattle.pattern.specs.Choice.{no_row}
use Rattle.model.specs.declared.HeldCall.{HeldCall}
use Rattle.model.specs.State.{slots, row_count, row_at, holds, holder_count, left, with_holders, dropped}
use Rattle.image.specs.declared.Kind.{Kind}
use Rattle.image.specs.declared.Kind.TheVariants.{Members, Owner}
use Rattle.image.specs.Image.{row_size, call_size, image_size, calls_at, cut, held, hub_of, call_of, put, row_of, row_bytes, row_part, table_in, digits, table_at}
use Rattle.image.proofs.Laws.{cut-snoc, length-row, length-call, put_on}
use Rattle.image.proofs.Laws as laws
use Rattle.image.proofs.Parts.{table-low, held_of, cut_at, row-found}
use Rattle.image.proofs.Rows.{join-part}
use Rattle.keep.specs.Keep.{row_start, kept_row, is_among, left_bytes, left_row, dropped_bytes, left_table, dropped_calls, ended_bytes}

-- ---- what a step changes: the bytes after each store
module _ (s : List ℕ) (e : length s ≡ image_size) where
  pub row-stored : (kind : Kind) (k counter : ℕ) (r : Row) (s₁ s₂ : List ℕ) → k < row_count
      → s₁ ≡ put s (table_at kind) (digits 8 counter) → s₂ ≡ put s₁ (row_start kind k) (row_bytes kind r) → s₂ ≡ kept_row s kind k counter r
  unfolding kept_row
  row-stored kind k counter r s₁ s₂ h a b = rw (eq-eqb _ _ e, lt-ltb _ _ h, ← a) b

  pub row-unstored : (kind : Kind) (k counter : ℕ) (r : Row) (s₁ : List ℕ) → row_count ≤ k
      → s₁ ≡ put s (table_at kind) (digits 8 counter) → s₁ ≡ kept_row s kind k counter r
  unfolding kept_row
  row-unstored kind k counter r s₁ h a = rw (eq-eqb _ _ e, le-ltb _ _ h) a

  pub end-stored : (slot : ℕ) (s₁ s₂ s₃ : List ℕ)
      → s₁ ≡ left_table Members slot s → s₂ ≡ left_table Owner slot s₁ → s₃ ≡ dropped_calls slot s₂ → s₃ ≡ ended_bytes slot s
  unfolding ended_bytes
  end-stored slot s₁ s₂ s₃ a b c = rw (eq-eqb _ _ e, ← a, ← b) c

-- ---- bytes put where others lie
-- the bytes that lie there
pub put_same : (s : List ℕ) (at w : ℕ) → at + w ≤ length s → put s at (take w (drop at s)) ≡ s
unfolding put
put_same s at w h =
    let l : length (take w (drop at s)) ≡ w = length-take-le w (drop at s) (simp length-drop (omega arith)) in
    rw (l, join-part at w s) (take-append-drop at s)

-- what lies behind stays
pub drop-put : (s : List ℕ) (at p : ℕ) (b : List ℕ) → p ≡ at + length b → p ≤ length s → drop p (put s at b) ≡ drop p s
unfolding put
drop-put s at p b e h =
    let r : List ℕ = drop (at + length b) s in
    let l : length (take at s ++ b) ≡ p =
    length-append (take at s) b ∙ omega (arith, length-take-le at s (omega arith)) in
    ap (drop p) (sym (append_assoc (take at s) b r)) ∙ (drop_at (take at s ++ b) r p l ∙ ap (λ k. drop k s) (sym e))

-- ---- rows of w bytes, of which i are changed yet
module _ (f : List ℕ → List ℕ) (w at i : ℕ) (s : List ℕ) (l : length (joined f (cut w i (drop at s))) ≡ i * w) (h : at + i * w + w ≤ length s) where
  -- row i is as it was
  pub row-there : take w (drop (at + i * w) (put s at (joined f (cut w i (drop at s))))) ≡ laws.row_at w i (drop at s)
  row-there =
      ap (take w)
      (drop-put s at (at + i * w) (joined f (cut w i (drop at s))) (omega arith) (omega arith) ∙ sym (drop-drop (i * w) at s))

  pub change-more : put (put s at (joined f (cut w i (drop at s)))) (at + i * w) (f (laws.row_at w i (drop at s)))
      ≡ put s at (joined f (cut w (i + 1) (drop at s)))
  change-more =
      rw (add-one i, cut-snoc w i (drop at s), joined_snoc f (cut w i (drop at s)) (laws.row_at w i (drop at s)))
      (put_on s at (at + i * w) (joined f (cut w i (drop at s))) (f (laws.row_at w i (drop at s))) (omega arith) (omega arith))

  pub change-length : length (f (laws.row_at w i (drop at s))) ≡ w → length (joined f (cut w (i + 1) (drop at s))) ≡ (i + 1) * w
  change-length e =
      rw (
        add-one i,
        cut-snoc w i (drop at s),
        joined_snoc f (cut w i (drop at s)) (laws.row_at w i (drop at s)),
        length-append (joined f (cut w i (drop at s))) (f (laws.row_at w i (drop at s))),
      )
      (omega (arith, suc-mul i w))

-- ---- a row without a slot
pub left-text : (slot : ℕ) (r : Row) → length r.text ≡ longest → length (left slot r).text ≡ longest
unfolding left with_holders
left-text slot r l =
    cond-case (λ x. length x.text ≡ longest) (holds slot r) _ r
    (λ _. cond-case (λ x. length x.text ≡ longest) (eqb (holder_count r) 1) no_row _ (λ _. refl) (λ _. l))
    (λ _. l)

pub left-holders : (slot : ℕ) (r : Row) → length r.holders ≡ slots → length (left slot r).holders ≡ slots
unfolding left with_holders
left-holders slot r l =
    cond-case (λ x. length x.holders ≡ slots) (holds slot r) _ r
    (λ _. cond-case (λ x. length x.holders ≡ slots) (eqb (holder_count r) 1) no_row _ (λ _. refl) (λ _. length-set r.holders slot false ∙ l))
    (λ _. l)

pub length-left : (kind : Kind) (slot : ℕ) (s : List ℕ) → length s ≡ row_size → length (left_bytes kind slot s) ≡ row_size
unfolding left_bytes row_of
length-left kind slot s e =
    let l : length (drop 11 s) ≡ longest = length-drop 11 s ∙ omega arith in
    cond-case (λ x. length x ≡ row_size) (holds slot (row_of kind s)) (row_bytes kind (left slot (row_of kind s))) s
    (λ _. length-row kind (left slot (row_of kind s)) (left-text slot (row_of kind s) l))
    (λ _. e)

-- ---- a held call without a slot
pub length-dropped : (slot : ℕ) (s : List ℕ) → length (dropped_bytes slot s) ≡ call_size
unfolding dropped_bytes
length-dropped slot s = length-call (dropped slot (call_of s))

-- held call k, where it lies
pub call-there : (s : List ℕ) (k : ℕ) (d : HeldCall) → length s ≡ image_size → k < row_count
    → get_or (held s).calls k d ≡ call_of (laws.row_at call_size k (drop calls_at s))
unfolding hub_of
call-there s k d e h = rw (held_of s e) (cut_at call_of call_size row_count (drop calls_at s) k d h)

-- ---- a row where it lies
module _ (kind : Kind) (s : List ℕ) (k : ℕ) (e : length s ≡ image_size) (h : k < row_count) where
  part-is : row_part kind s k ≡ take row_size (drop (row_start kind k) s)
  unfolding row_part
  part-is = rw (eq-eqb _ _ e, lt-ltb _ _ h)

  pub row_inside : row_start kind k + row_size ≤ length s
  row_inside = omega (arith, table-low kind)

  length_part : length (take row_size (drop (row_start kind k) s)) ≡ row_size
  length_part = length-take-le row_size (drop (row_start kind k) s) (simp length-drop (let i = row_inside in omega arith))

  pub row-of : row_at (table_in kind (held s)) k ≡ row_of kind (take row_size (drop (row_start kind k) s))
  row-of = row-found kind s k (ap length part-is ∙ length_part) ∙ ap (row_of kind) part-is

  module _ (slot : ℕ) where
    pub left-stays : is_among slot (row_at (table_in kind (held s)) k).holders ≡ false
        → s ≡ left_row kind slot k s
    unfolding left_bytes
    left-stays t =
        let u : holds slot (row_of kind (take row_size (drop (row_start kind k) s))) ≡ false = rw row-of at t in
        rw u (sym (put_same s (row_start kind k) row_size row_inside))

    pub left-stored : is_among slot (row_at (table_in kind (held s)) k).holders ≡ true
        → put s (row_start kind k) (row_bytes kind (left slot (row_at (table_in kind (held s)) k)))
        ≡ left_row kind slot k s
    unfolding left_bytes
    left-stored t =
        let u : holds slot (row_of kind (take row_size (drop (row_start kind k) s))) ≡ true = rw row-of at t in
        rw (row-of, u)
