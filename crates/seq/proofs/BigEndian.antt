-- Laws of specs/BigEndian.antt: numbers and their bytes, rows cut from bytes. Assumes nothing.
use Prim.Native.Nat.{ℕ, zero, suc, ◌+◌, ◌-◌, ◌*◌, ◌/◌, ◌%◌, ◌≤◌, ◌<◌, ◌^◌}
use mathlib.Core.Bool.{Bool, true, false}
use mathlib.Core.List.{List, [], ◌∷◌, ◌++◌, map}
use mathlib.Core.Path.{◌≡◌, refl, sym, ap, ◌∙◌}
use native.Mathlib.Decide.{dec_lt}
use native.Mathlib.Numerals.{add-one}
use native.Mathlib.Nat.{suc-mul, add-zero, pow-suc, pow-le-pow_right, div-add-mod'}
use native.Mathlib.Omega.{arith}
use lib.Arith.{digits_div, digits_mod}
use lib.Dec.{lit<}
use lib.ListN.{length, take, drop, get_or, set, replicate, length-append, length-map, length-drop, length-take, get_or-eq_default}
use lib.Seq.{set_at, append_snoc, drop-drop, take-suc, length-take-le, get_or_at, get_or-take, get_or-drop}
use Rattle.seq.specs.Bytes.{byte_at}
use Rattle.seq.specs.Lists.{every, All}
use Rattle.seq.specs.BigEndian.{number, digits, cut}
use Rattle.seq.proofs.Lists.{map_snoc, every-snoc, every_front}
use Rattle.seq.proofs.Rules.{all-at}

-- ---- numbers
number-low : (s : List ℕ) → ((k : ℕ) → byte_at s k < 256) → (n : ℕ) → number n s < 256 ^ n
unfolding number
number-low s f zero = omega arith
number-low s f (suc n) = rw (pow-suc 256 n) (let h = number-low s f n in let k = f n in omega arith)

-- one byte more of at most 8 fits 8 bytes
pub number_fits : (s : List ℕ) → ((k : ℕ) → byte_at s k < 256) → (n : ℕ) → n < 8 → number n s * 256 + byte_at s n < 18446744073709551616
unfolding number
number_fits s f n h =
    let l : number (suc n) s < 256 ^ suc n = number-low s f (suc n) in
    let m : 256 ^ suc n ≤ 256 ^ 8 = pow-le-pow_right (lit< tt) {i = suc n} {j = 8} (omega arith) in
    omega arith

pub number_more : (s : List ℕ) (n : ℕ) → number n s * 256 + byte_at s n ≡ number (n + 1) s
unfolding number
number_more s n = rw (add-one n)

pub length_digits : (n x : ℕ) → length (digits n x) ≡ n
unfolding digits
length_digits zero x = refl
length_digits (suc n) x = omega (arith, length-append (digits n (x / 256)) (x % 256 ∷ []), length_digits n (x / 256))

-- ---- rows
pub length_cut : (w n : ℕ) (s : List ℕ) → length (cut w n s) ≡ n
unfolding cut
length_cut w zero s = refl
length_cut w (suc n) s = ap suc (length_cut w n (drop w s))

-- row i of w bytes
abbrev pub row_at : ℕ → ℕ → List ℕ → List ℕ
row_at w i s = take w (drop (i * w) s)

pub cut-snoc : (w i : ℕ) (s : List ℕ) → cut w (suc i) s ≡ cut w i s ++ (row_at w i s ∷ [])
unfolding cut
cut-snoc w zero s = let e : 0 * w ≡ 0 = omega arith in rw e
cut-snoc w (suc i) s =
    let e : w + i * w ≡ suc i * w = omega (arith, suc-mul i w) in
    ap (λ l. take w s ∷ l) (cut-snoc w i (drop w s) ∙ rw (drop-drop (i * w) w s, e))

pub cut-row : (w n : ℕ) (s : List ℕ) (k : ℕ) → k < n → get_or (cut w n s) k [] ≡ row_at w k s
unfolding cut
cut-row w zero s k h = absurd (omega arith)
cut-row w (suc n) s zero h = let e : 0 * w ≡ 0 = omega arith in rw e
cut-row w (suc n) s (suc k) h =
    let e : w + k * w ≡ suc k * w = omega (arith, suc-mul k w) in
    cut-row w n (drop w s) k (omega arith) ∙ ap (take w) (drop-drop (k * w) w s ∙ ap (λ i. drop i s) e)

pub cut_at : {A : Type 0} (f : List ℕ → A) (w n : ℕ) (s : List ℕ) (k : ℕ) (d : A) → k < n → get_or (map f (cut w n s)) k d ≡ f (row_at w k s)
unfolding cut
cut_at f w zero s k d h = absurd (omega arith)
cut_at f w (suc n) s zero d h = let e : 0 * w ≡ 0 = omega arith in rw e
cut_at f w (suc n) s (suc k) d h =
    let e : w + k * w ≡ suc k * w = omega (arith, suc-mul k w) in
    cut_at f w n (drop w s) k d (omega arith) ∙ ap (λ l. f (take w l)) (drop-drop (k * w) w s ∙ ap (λ i. drop i s) e)

pub cut-past : {A : Type 0} (f : List ℕ → A) (w n : ℕ) (s : List ℕ) (k : ℕ) (d : A) → n ≤ k → get_or (map f (cut w n s)) k d ≡ d
cut-past f w n s k d h = get_or-eq_default (map f (cut w n s)) d (omega (arith, length-map (cut w n s) f, length_cut w n s))

-- one row more of a table of n, whose other rows are z yet
pub rows_more : {A : Type 0} (f : List ℕ → A) (w : ℕ) (s : List ℕ) (n i : ℕ) (z : A) → i < n
    → set (map f (cut w i s) ++ replicate (n - i) z) i (f (row_at w i s)) ≡ map f (cut w (i + 1) s) ++ replicate (n - (i + 1)) z
rows_more f w s n i z h =
    let e : n - i ≡ suc (n - suc i) = omega arith in
    let l : length (map f (cut w i s)) ≡ i = length-map (cut w i s) f ∙ length_cut w i s in
    rw (add-one i, e, cut-snoc w i s, map_snoc f (cut w i s) (row_at w i s))
    (set_at (map f (cut w i s)) z (replicate (n - suc i) z) (f (row_at w i s)) i l
    ∙ sym (append_snoc (map f (cut w i s)) (f (row_at w i s)) (replicate (n - suc i) z)))

-- a loop over the rows that stands at row i
module _ (p : List ℕ → Bool) (w : ℕ) (s : List ℕ) (i : ℕ) (so_far : every p (cut w i s) ≡ true) where
  pub rows_pass : p (row_at w i s) ≡ true → every p (cut w (i + 1) s) ≡ true
  rows_pass t = rw (add-one i, cut-snoc w i s) (every-snoc p (cut w i s) (row_at w i s) so_far ∙ t)

  pub rows-fail : (n : ℕ) → i < n → p (row_at w i s) ≡ false → every p (cut w n s) ≡ false
  rows-fail zero h t = absurd (omega arith)
  rows-fail (suc n) h t = elim (dec_lt i n) [
    | yes l ↦ rw (cut-snoc w n s) (every_front p (cut w n s) (row_at w n s ∷ []) (rows-fail n l t))
    | no l ↦ (let e : n ≡ i = omega arith in rw (e, cut-snoc w i s) (every-snoc p (cut w i s) (row_at w i s) so_far ∙ t))
  ]

-- a row's bytes, where they stand in the whole
pub part-size : (a n : ℕ) → a + n - a ≡ n
part-size a n = omega arith

pub row-length : (w i : ℕ) (s : List ℕ) → i * w + w ≤ length s → length (row_at w i s) ≡ w
row-length w i s h = length-take-le w (drop (i * w) s) (simp length-drop (omega arith))

pub row_first : (w i : ℕ) (s : List ℕ) → 0 < w → byte_at (row_at w i s) 0 ≡ byte_at s (i * w)
row_first w i s h = get_or-take w (drop (i * w) s) 0 0 h ∙ get_or-drop (i * w) s 0 0 ∙ ap (byte_at s) (add-zero (i * w))

pub number_digits : (n x : ℕ) (q : List ℕ) → x < 256 ^ n → number n (digits n x ++ q) ≡ x
unfolding number digits
number_digits zero x q h = omega arith
number_digits (suc n) x q h =
    let k : x < 256 ^ n * 256 = rw (pow-suc 256 n) at h in
    let r = number_digits n (x / 256) (x % 256 ∷ q) (omega arith) in
    let b : byte_at (digits n (x / 256) ++ (x % 256 ∷ q)) n ≡ x % 256 = get_or_at (digits n (x / 256)) (x % 256) q 0 n (length_digits n (x / 256)) in
    rw (append_snoc (digits n (x / 256)) (x % 256) q, r, b) (div-add-mod' x 256)

-- ---- bytes
-- every byte is below 256
abbrev pub Bytes : List ℕ → Type 0
Bytes s = (k : ℕ) → byte_at s k < 256

pub bytes-all : (s : List ℕ) → All (λ b. b < 256) s → Bytes s
bytes-all s h k = all-at (λ b. b < 256) 0 s k (omega arith) h

pub bytes_drop : (a : ℕ) (s : List ℕ) → Bytes s → Bytes (drop a s)
bytes_drop a s h k = rw (get_or-drop a s k 0) (h (a + k))

pub bytes_take : (a : ℕ) (s : List ℕ) → Bytes s → Bytes (take a s)
bytes_take a s h k = elim (dec_lt k a) [
  | yes l ↦ rw (get_or-take a s k 0 l) (h k)
  | no l ↦ rw (get_or-eq_default (take a s) 0 {n = k} (rw (length-take a s) (omega arith))) (omega arith)
]

pub digits_number : (n : ℕ) (s : List ℕ) → Bytes s → n ≤ length s → digits n (number n s) ≡ take n s
unfolding number digits
digits_number zero s f h = refl
digits_number (suc n) s f h =
    let b = f n in
    rw (digits_div (number n s) {m = 256} {r = byte_at s n} b, digits_mod (number n s) {m = 256} {r = byte_at s n} b, take-suc s n 0 (omega arith))
    (ap (λ l. l ++ (byte_at s n ∷ [])) (digits_number n s f (omega arith)))
