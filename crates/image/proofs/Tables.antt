-- The rows of a table, as bytes one after the other and back. Assumes nothing.
use Prim.Native.Nat.{ℕ, zero, suc, ◌+◌, ◌*◌, ◌≤◌}
use mathlib.Core.Bool.{Bool, true}
use mathlib.Core.List.{List, [], ◌∷◌, ◌++◌, map, append_assoc}
use mathlib.Core.Path.{◌≡◌, refl, sym, ap, ap₂, ◌∙◌}
use native.Mathlib.Nat.{suc-mul}
use native.Mathlib.Omega.{arith}
use lib.ListN.{length, take, drop, length-append, length-drop}
use lib.Seq.{take_at, drop_at, take-add, length-take-le}
use Rattle.seq.specs.Lists.{every, joined, All}
use Rattle.seq.proofs.Logic.{and_left, and_right, and_both}
use Rattle.model.specs.declared.Table.{Table}
use Rattle.seq.specs.Numbers.{last_id}
use Rattle.model.specs.State.{row_count}
use Rattle.image.specs.declared.Kind.{Kind}
use Rattle.image.specs.Image.{row_size, digits, cut, row_of, row_bytes, row_formed, table_of, table_bytes, table_formed}
use Rattle.image.proofs.Laws.{length_digits}
use Rattle.image.proofs.Numbers.{Bytes, bytes_drop, bytes_take, number_digits, digits_number}
use Rattle.image.proofs.Rows.{Trips, row_same}

-- n rows of w bytes, within the bytes
pub cut-sized : (w n : ℕ) (s : List ℕ) → n * w ≤ length s → All (λ r. length r ≡ w) (cut w n s)
unfolding cut
cut-sized w zero s h = tt
cut-sized w (suc n) s h =
    let k = suc-mul n w in
    (length-take-le w s (omega arith), cut-sized w n (drop w s) (simp length-drop (omega arith)))

module _ {A : Type 0} (f : List ℕ → A) (g : A → List ℕ) (p : List ℕ → Bool) (w : ℕ) where
  pub length-rows : (xs : List A) → All (Trips f g p w) xs → length (joined g xs) ≡ length xs * w
  length-rows [] t = omega arith
  length-rows (x ∷ xs) t =
      let e = t.0.size in
      let r = length-rows xs t.1 in
      length-append (g x) (joined g xs) ∙ omega (arith, suc-mul (length xs) w)

  -- the bytes of rows, cut into rows
  cut-rows : (xs : List A) (q : List ℕ) → All (Trips f g p w) xs → cut w (length xs) (joined g xs ++ q) ≡ map g xs
  unfolding cut
  cut-rows [] q t = refl
  cut-rows (x ∷ xs) q t =
      rw (append_assoc (g x) (joined g xs) q, take_at (g x) (joined g xs ++ q) w t.0.size, drop_at (g x) (joined g xs ++ q) w t.0.size)
      (ap (λ l. g x ∷ l) (cut-rows xs q t.1))

  map_rows : (xs : List A) → All (Trips f g p w) xs → map f (map g xs) ≡ xs
  map_rows [] t = refl
  map_rows (x ∷ xs) t = ap₂ ◌∷◌ t.0.back (map_rows xs t.1)

  every-row : (xs : List A) → All (Trips f g p w) xs → every p (map g xs) ≡ true
  unfolding every
  every-row [] t = refl
  every-row (x ∷ xs) t = and_both t.0.passes (every-row xs t.1)

  -- n rows are read back, and are well-formed
  pub rows_back : (n : ℕ) (xs : List A) (q : List ℕ) → length xs ≡ n → All (Trips f g p w) xs → map f (cut w n (joined g xs ++ q)) ≡ xs
  rows_back n xs q e t = rw (← e, cut-rows xs q t) (map_rows xs t)

  pub rows-formed : (n : ℕ) (xs : List A) (q : List ℕ) → length xs ≡ n → All (Trips f g p w) xs → every p (cut w n (joined g xs ++ q)) ≡ true
  rows-formed n xs q e t = rw (← e, cut-rows xs q t) (every-row xs t)

  -- the bytes of the rows that well-formed bytes stand for are those bytes
  pub rows_same : ((r : List ℕ) → Bytes r → length r ≡ w → p r ≡ true → g (f r) ≡ r)
      → (n : ℕ) (s : List ℕ) → Bytes s → n * w ≤ length s → every p (cut w n s) ≡ true → joined g (map f (cut w n s)) ≡ take (n * w) s
  unfolding cut every
  rows_same k zero s b h e = let z : 0 * w ≡ 0 = omega arith in rw z
  rows_same k (suc n) s b h e =
      let m = suc-mul n w in
      let z : suc n * w ≡ w + n * w = omega arith in
      let u = and_left (p (take w s)) (every p (cut w n (drop w s))) e in
      let v = and_right (p (take w s)) (every p (cut w n (drop w s))) e in
      rw (k (take w s) (bytes_take w s b) (length-take-le w s (omega arith)) u, z, take-add w (n * w) s)
      (ap (λ l. take w s ++ l) (rows_same k n (drop w s) (bytes_drop w s b) (simp length-drop (omega arith)) v))

-- ---- a table: its counter, and its rows
module _ (kind : Kind) (t : Table) (c : t.counter ≤ last_id) (n : length t.rows ≡ row_count)
    (r : All (Trips (row_of kind) (row_bytes kind) (row_formed kind) row_size) t.rows) where
  pub length-table : length (table_bytes kind t) ≡ 4456
  unfolding table_bytes
  length-table =
      let a = length_digits 8 t.counter in
      let b = length-rows (row_of kind) (row_bytes kind) (row_formed kind) row_size t.rows r in
      length-append (digits 8 t.counter) (joined (row_bytes kind) t.rows) ∙ omega arith

  pub table-back : (q : List ℕ) → table_of kind (table_bytes kind t ++ q) ≡ t
  unfolding table_of table_bytes
  table-back q =
      rw (
        append_assoc (digits 8 t.counter) (joined (row_bytes kind) t.rows) q,
        number_digits 8 t.counter (joined (row_bytes kind) t.rows ++ q) (omega arith),
        drop_at (digits 8 t.counter) (joined (row_bytes kind) t.rows ++ q) 8 (length_digits 8 t.counter),
        rows_back (row_of kind) (row_bytes kind) (row_formed kind) row_size row_count t.rows q n r,
      )

  pub table-formed : (q : List ℕ) → table_formed kind (table_bytes kind t ++ q) ≡ true
  unfolding table_formed table_bytes
  table-formed q =
      rw (
        append_assoc (digits 8 t.counter) (joined (row_bytes kind) t.rows) q,
        drop_at (digits 8 t.counter) (joined (row_bytes kind) t.rows ++ q) 8 (length_digits 8 t.counter),
      )
      (rows-formed (row_of kind) (row_bytes kind) (row_formed kind) row_size row_count t.rows q n r)

pub table_same : (kind : Kind) (s : List ℕ) → Bytes s → 4456 ≤ length s → table_formed kind s ≡ true → table_bytes kind (table_of kind s) ≡ take 4456 s
unfolding table_of table_bytes table_formed
table_same kind s b h e =
    rw (
      digits_number 8 s b (omega arith),
      rows_same (row_of kind) (row_bytes kind) (row_formed kind) row_size (λ r f l v. row_same r f kind l v) row_count (drop 8 s)
          (bytes_drop 8 s b) (simp length-drop (omega arith)) e,
    )
    (sym (take-add 8 4448 s))
