-- The parts of lent bytes, as the code reads them. Assumes nothing.
use Prim.Native.Nat.{ℕ, zero, suc, ◌+◌, ◌*◌, ◌≤◌, ◌<◌}
use mathlib.Core.Bool.{true}
use mathlib.Core.List.{List, [], ◌∷◌, map}
use mathlib.Core.Path.{◌≡◌, refl, sym, ap, ap₂, ◌∙◌}
use native.Mathlib.Decide.{dec_lt}
use native.Mathlib.Nat.{suc-mul}
use native.Mathlib.Omega.{arith}
use borrow.Author.Tests.{eqb-true, eq-eqb, ne_eqb, lt-ltb, le-ltb}
use lib.Dec.{eqb, ltb}
use lib.ListN.{length, take, drop, get_or, replicate, length-map, length-drop, get_or-eq_default}
use lib.Seq.{drop-drop, length-take-le}
use Rattle.seq.specs.Lists.{every}
use Rattle.seq.proofs.Lists.{get_d-replicate-same}
use Rattle.seq.proofs.Logic.{split, clash, and_left, and_right}
use Rattle.pattern.specs.Choice.{no_row}
use Rattle.model.specs.Rules.{is_zero}
use Rattle.model.specs.State.{row_count, no_table, empty_hub, row_at}
use Rattle.model.specs.declared.Session.{Session}
use Rattle.model.specs.declared.Hub.{Hub}
use Rattle.image.specs.declared.Kind.{Kind}
use Rattle.image.specs.declared.Kind.TheVariants.{Members, Owner}
use Rattle.image.specs.Image.{row_size, image_size, number, cut, bits_of, owner_of, holders_of, row_of, table_of, hub_of, load, held, table_in, table_at, row_part, with_sessions}
use Rattle.image.proofs.Laws.{length_cut}
use Rattle.image.proofs.Laws as laws

pub table-low : (kind : Kind) → table_at kind ≤ 4656
table-low Members = omega arith
table-low Owner = omega arith

-- ---- as many bytes as a state has, or another number
pub held_of : (s : List ℕ) → length s ≡ image_size → held s ≡ hub_of s
unfolding load
held_of s e = rw (held, eq-eqb _ _ e)

pub held_none : (s : List ℕ) → (length s ≡ image_size → ⊥) → held s ≡ empty_hub
unfolding load
held_none s n = rw (held, ne_eqb _ _ n)

pub table-of : (kind : Kind) (s : List ℕ) → length s ≡ image_size → table_in kind (held s) ≡ table_of kind (drop (table_at kind) s)
unfolding hub_of
table-of Members s e = rw (held_of s e)
table-of Owner s e = rw (held_of s e)

pub table_none : (kind : Kind) (s : List ℕ) → (length s ≡ image_size → ⊥) → table_in kind (held s) ≡ no_table
unfolding empty_hub
table_none Members s n = rw (held_none s n)
table_none Owner s n = rw (held_none s n)

-- ---- a row where it lies
pub cut_at : {A : Type 0} (f : List ℕ → A) (w n : ℕ) (s : List ℕ) (k : ℕ) (d : A) → k < n → get_or (map f (cut w n s)) k d ≡ f (laws.row_at w k s)
unfolding cut
cut_at f w zero s k d h = absurd (omega arith)
cut_at f w (suc n) s zero d h = let e : 0 * w ≡ 0 = omega arith in rw e
cut_at f w (suc n) s (suc k) d h =
    let e : w + k * w ≡ suc k * w = omega (arith, suc-mul k w) in
    cut_at f w n (drop w s) k d (omega arith) ∙ ap (λ l. f (take w l)) (drop-drop (k * w) w s ∙ ap (λ i. drop i s) e)

cut-past : {A : Type 0} (f : List ℕ → A) (w n : ℕ) (s : List ℕ) (k : ℕ) (d : A) → n ≤ k → get_or (map f (cut w n s)) k d ≡ d
cut-past f w n s k d h = get_or-eq_default (map f (cut w n s)) d (omega (arith, length-map (cut w n s) f, length_cut w n s))

place : (kind : Kind) (s : List ℕ) (k : ℕ) → laws.row_at row_size k (drop 8 (drop (table_at kind) s)) ≡ take row_size (drop (table_at kind + 8 + k * row_size) s)
place kind s k = ap (take row_size) (ap (drop (k * row_size)) (drop-drop 8 (table_at kind) s) ∙ drop-drop (k * row_size) (table_at kind + 8) s)

inside : (kind : Kind) (s : List ℕ) (k : ℕ) → length s ≡ image_size → k < row_count
    → row_at (table_in kind (held s)) k ≡ row_of kind (row_part kind s k)
unfolding row_part table_of
inside kind s k e h =
    rw (table-of kind s e, eq-eqb _ _ e, lt-ltb _ _ h) (cut_at (row_of kind) row_size row_count (drop 8 (drop (table_at kind) s)) k no_row h ∙ ap (row_of kind) (place kind s k))

part-inside : (kind : Kind) (s : List ℕ) (k : ℕ) → length s ≡ image_size → k < row_count → length (row_part kind s k) ≡ row_size
unfolding row_part
part-inside kind s k e h =
    rw (eq-eqb _ _ e, lt-ltb _ _ h)
    (length-take-le row_size (drop (table_at kind + 8 + k * row_size) s) (simp length-drop (omega (arith, table-low kind))))

part_none : (kind : Kind) (s : List ℕ) (k : ℕ) → (length s ≡ image_size → ⊥) → row_part kind s k ≡ []
unfolding row_part
part_none kind s k n = rw (ne_eqb _ _ n)

part-past : (kind : Kind) (s : List ℕ) (k : ℕ) → length s ≡ image_size → row_count ≤ k → row_part kind s k ≡ []
unfolding row_part
part-past kind s k e h = rw (eq-eqb _ _ e, le-ltb _ _ h)

-- the row's bytes are there, and the row is theirs; or they are not, and it is an unused one
pub row-found : (kind : Kind) (s : List ℕ) (k : ℕ) → length (row_part kind s k) ≡ row_size → row_at (table_in kind (held s)) k ≡ row_of kind (row_part kind s k)
row-found kind s k l =
    split (eqb (length s) image_size)
    (λ t. elim (dec_lt k row_count) [
      | yes h ↦ inside kind s k (eqb-true _ _ t) h
      | no h ↦ absurd (let e = ap length (part-past kind s k (eqb-true _ _ t) (omega arith)) in omega arith)
    ])
    (λ t. absurd (let e = ap length (part_none kind s k (λ e. clash (eq-eqb _ _ e) t)) in omega arith))

pub row-none : (kind : Kind) (s : List ℕ) (k : ℕ) → (length (row_part kind s k) ≡ row_size → ⊥) → row_at (table_in kind (held s)) k ≡ no_row
unfolding table_of
row-none kind s k n =
    split (eqb (length s) image_size)
    (λ t. elim (dec_lt k row_count) [
      | yes h ↦ absurd (n (part-inside kind s k (eqb-true _ _ t) h))
      | no h ↦ rw (table-of kind s (eqb-true _ _ t)) (cut-past (row_of kind) row_size row_count (drop 8 (drop (table_at kind) s)) k no_row (omega arith))
    ])
    (λ t. rw (table_none kind s (λ e. clash (eq-eqb _ _ e) t)) (get_d-replicate-same row_count k no_row))

-- the same of bytes p that are the row's
pub found-by : (kind : Kind) (s : List ℕ) (k : ℕ) (p : List ℕ) → p ≡ row_part kind s k → length p ≡ row_size → row_at (table_in kind (held s)) k ≡ row_of kind p
found-by kind s k p e l = row-found kind s k (sym (ap length e) ∙ l) ∙ ap (row_of kind) (sym e)

pub none-by : (kind : Kind) (s : List ℕ) (k : ℕ) (p : List ℕ) → p ≡ row_part kind s k → (length p ≡ row_size → ⊥) → row_at (table_in kind (held s)) k ≡ no_row
none-by kind s k p e n = row-none kind s k (λ l. n (ap length e ∙ l))

pub empty-by : (kind : Kind) (s : List ℕ) (k : ℕ) (p : List ℕ) → p ≡ row_part kind s k → (length p ≡ row_size → ⊥) → p ≡ []
empty-by kind s k p e n =
    split (eqb (length s) image_size)
    (λ t. elim (dec_lt k row_count) [
      | yes h ↦ absurd (n (ap length e ∙ part-inside kind s k (eqb-true _ _ t) h))
      | no h ↦ e ∙ part-past kind s k (eqb-true _ _ t) (omega arith)
    ])
    (λ t. e ∙ part_none kind s k (λ q. clash (eq-eqb _ _ q) t))

-- ---- a row whose bytes are all zero
zeros : (p : List ℕ) → every is_zero p ≡ true → p ≡ replicate (length p) 0
unfolding every
zeros [] t = refl
zeros (b ∷ p) t = ap₂ ◌∷◌ (eqb-true b 0 (and_left (is_zero b) (every is_zero p) t)) (zeros p (and_right (is_zero b) (every is_zero p) t))

zero-row : (kind : Kind) → row_of kind (replicate row_size 0) ≡ no_row
unfolding row_of number holders_of bits_of owner_of
zero-row Members = refl
zero-row Owner = refl

pub blank-row : (kind : Kind) (s : List ℕ) (k : ℕ) → every is_zero (row_part kind s k) ≡ true → row_at (table_in kind (held s)) k ≡ no_row
blank-row kind s k t =
    split (eqb (length (row_part kind s k)) row_size)
    (λ l.
    let e = eqb-true _ _ l in
    row-found kind s k e ∙ (ap (row_of kind) (zeros (row_part kind s k) t ∙ ap (λ n. replicate n 0) e) ∙ zero-row kind))
    (λ l. row-none kind s k (λ e. clash (eq-eqb _ _ e) l))

-- ---- whatever the bytes, a table has 32 rows
pub rows-count : (kind : Kind) (s : List ℕ) → length (table_in kind (held s)).rows ≡ row_count
unfolding table_of
rows-count kind s =
    split (eqb (length s) image_size)
    (λ t.
    rw (table-of kind s (eqb-true _ _ t))
    (length-map (cut row_size row_count (drop 8 (drop (table_at kind) s))) (row_of kind) ∙ length_cut row_size row_count (drop 8 (drop (table_at kind) s))))
    (λ t. rw (table_none kind s (λ e. clash (eq-eqb _ _ e) t)))

-- the tables are the same under other sessions
pub table_kept : (kind : Kind) (h : Hub) (ss : List Session) → table_in kind (with_sessions h ss) ≡ table_in kind h
table_kept Members h ss = refl
table_kept Owner h ss = refl
