-- Laws of specs/Image.antt for the loops of the code: numbers, rows cut from bytes, and bytes put from a place on. Assumes nothing.
use Prim.Native.Nat.{ℕ, zero, suc, ◌+◌, ◌-◌, ◌*◌, ◌/◌, ◌%◌, ◌≤◌, ◌<◌, ◌^◌}
use mathlib.Core.Bool.{Bool, true, false}
use mathlib.Core.List.{List, [], ◌∷◌, ◌++◌, map, append_assoc, append-nil}
use mathlib.Core.Path.{◌≡◌, refl, sym, ap, ◌∙◌}
use native.Mathlib.Decide.{dec_lt}
use native.Mathlib.Numerals.{add-one}
use native.Mathlib.Nat.{suc-mul, add-zero, pow-suc, pow-le-pow_right}
use native.Mathlib.Omega.{arith}
use borrow.Author.Tests.{eqb-true, ne_eqb}
use lib.Dec.{eqb, lit<}
use lib.ListN.{length, take, drop, get_or, set, replicate, length-append, length-map, length-drop, take-append-drop, drop_of_length-le}
use lib.Seq.{set_at, set_split, append_snoc, take_at, drop_at, drop-append-add, drop-drop, take-suc, length-take-le, take-set-le, drop-cons, take-suc-set, take_all, get_or-take, get_or-drop}
use Rattle.seq.specs.Bytes.{byte_at, text_of}
use Rattle.seq.specs.Lists.{every, bit, joined}
use Rattle.seq.proofs.Lists.{map_snoc, every-snoc, every_front, joined_snoc}
use Rattle.seq.proofs.Logic.{split}
use Rattle.seq.proofs.Search.{bit-low}
use Rattle.uri.specs.Uri.{longest}
use Rattle.pattern.specs.declared.Row.{Row}
use Rattle.model.specs.declared.Session.{Session}
use Rattle.model.specs.declared.HeldCall.{HeldCall}
use Rattle.model.specs.State.{slots}
use Rattle.image.specs.declared.Kind.{Kind}
use Rattle.image.specs.Image.{session_size, row_size, call_size, number, digits, cut, session_bytes, bits_of, bits_no, owner_of, row_head, row_bytes, call_bytes, put}

-- ---- numbers
number-low : (s : List ℕ) → ((k : ℕ) → byte_at s k < 256) → (n : ℕ) → number n s < 256 ^ n
unfolding number
number-low s f zero = omega arith
number-low s f (suc n) = rw (pow-suc 256 n) (let h = number-low s f n in let k = f n in omega arith)

-- one byte more of at most 8 fits 8 bytes
pub number_fits : (s : List ℕ) → ((k : ℕ) → byte_at s k < 256) → (n : ℕ) → n < 8 → number n s * 256 + byte_at s n < 18446744073709551616
unfolding number
number_fits s f n h =
    let l : number (suc n) s < 256 ^ suc n = number-low s f (suc n) in
    let m : 256 ^ suc n ≤ 256 ^ 8 = pow-le-pow_right (lit< tt) {i = suc n} {j = 8} (omega arith) in
    omega arith

pub number_more : (s : List ℕ) (n : ℕ) → number n s * 256 + byte_at s n ≡ number (n + 1) s
unfolding number
number_more s n = rw (add-one n)

pub length_digits : (n x : ℕ) → length (digits n x) ≡ n
unfolding digits
length_digits zero x = refl
length_digits (suc n) x = omega (arith, length-append (digits n (x / 256)) (x % 256 ∷ []), length_digits n (x / 256))

-- ---- rows
pub length_cut : (w n : ℕ) (s : List ℕ) → length (cut w n s) ≡ n
unfolding cut
length_cut w zero s = refl
length_cut w (suc n) s = ap suc (length_cut w n (drop w s))

-- row i of w bytes
abbrev pub row_at : ℕ → ℕ → List ℕ → List ℕ
row_at w i s = take w (drop (i * w) s)

pub cut-snoc : (w i : ℕ) (s : List ℕ) → cut w (suc i) s ≡ cut w i s ++ (row_at w i s ∷ [])
unfolding cut
cut-snoc w zero s = let e : 0 * w ≡ 0 = omega arith in rw e
cut-snoc w (suc i) s =
    let e : w + i * w ≡ suc i * w = omega (arith, suc-mul i w) in
    ap (λ l. take w s ∷ l) (cut-snoc w i (drop w s) ∙ rw (drop-drop (i * w) w s, e))

-- one row more of a table of n, whose other rows are z yet
pub rows_more : {A : Type 0} (f : List ℕ → A) (w : ℕ) (s : List ℕ) (n i : ℕ) (z : A) → i < n
    → set (map f (cut w i s) ++ replicate (n - i) z) i (f (row_at w i s)) ≡ map f (cut w (i + 1) s) ++ replicate (n - (i + 1)) z
rows_more f w s n i z h =
    let e : n - i ≡ suc (n - suc i) = omega arith in
    let l : length (map f (cut w i s)) ≡ i = length-map (cut w i s) f ∙ length_cut w i s in
    rw (add-one i, e, cut-snoc w i s, map_snoc f (cut w i s) (row_at w i s))
    (set_at (map f (cut w i s)) z (replicate (n - suc i) z) (f (row_at w i s)) i l
    ∙ sym (append_snoc (map f (cut w i s)) (f (row_at w i s)) (replicate (n - suc i) z)))

-- a loop over the rows that stands at row i
module _ (p : List ℕ → Bool) (w : ℕ) (s : List ℕ) (i : ℕ) (so_far : every p (cut w i s) ≡ true) where
  pub rows_pass : p (row_at w i s) ≡ true → every p (cut w (i + 1) s) ≡ true
  rows_pass t = rw (add-one i, cut-snoc w i s) (every-snoc p (cut w i s) (row_at w i s) so_far ∙ t)

  pub rows-fail : (n : ℕ) → i < n → p (row_at w i s) ≡ false → every p (cut w n s) ≡ false
  rows-fail zero h t = absurd (omega arith)
  rows-fail (suc n) h t = elim (dec_lt i n) [
    | yes l ↦ rw (cut-snoc w n s) (every_front p (cut w n s) (row_at w n s ∷ []) (rows-fail n l t))
    | no l ↦ (let e : n ≡ i = omega arith in rw (e, cut-snoc w i s) (every-snoc p (cut w i s) (row_at w i s) so_far ∙ t))
  ]

-- a row's bytes, where they stand in the whole
pub part-size : (a n : ℕ) → a + n - a ≡ n
part-size a n = omega arith

pub row-length : (w i : ℕ) (s : List ℕ) → i * w + w ≤ length s → length (row_at w i s) ≡ w
row-length w i s h = length-take-le w (drop (i * w) s) (simp length-drop (omega arith))

pub row_first : (w i : ℕ) (s : List ℕ) → 0 < w → byte_at (row_at w i s) 0 ≡ byte_at s (i * w)
row_first w i s h = get_or-take w (drop (i * w) s) 0 0 h ∙ get_or-drop (i * w) s 0 0 ∙ ap (byte_at s) (add-zero (i * w))

-- ---- holders
pub owner-none : (number b : ℕ) → number ≡ 0 → b ≡ 0 → owner_of number b ≡ replicate slots false
unfolding owner_of
owner-none number b e f = rw (e, f)

pub owner-alone : (number b : ℕ) → (number ≡ 0 → b ≡ 0 → ⊥) → owner_of number b ≡ set (replicate slots false) b true
unfolding owner_of
owner-alone number b n =
    split (eqb number 0)
    (λ t. rw (t, ne_eqb b 0 (n (eqb-true number 0 t))))
    (λ t. rw t)

-- ---- member bits
-- one bit more of n is read
pub bits-more : (n i x : ℕ) (hs : List Bool) → i < n → length hs ≡ n
    → take i hs ++ bits_of (n - i) x ≡ take (i + 1) (set hs i (eqb (x % 2) 1)) ++ bits_of (n - (i + 1)) (x / 2)
unfolding bits_of
bits-more n i x hs h l =
    let e : n - i ≡ suc (n - suc i) = omega arith in
    rw (add-one i, e, take-suc-set hs i (eqb (x % 2) 1) (omega arith))
    (sym (append_snoc (take i hs) (eqb (x % 2) 1) (bits_of (n - suc i) (x / 2))))

pub bits-low : (bs : List Bool) → bits_no bs < 2 ^ length bs
unfolding bits_no
bits-low [] = omega arith
bits-low (b ∷ bs) = rw (pow-suc 2 (length bs)) (let h = bits-low bs in let k = bit-low b in omega arith)

-- at most 7 bits, and one more, fit a byte
pub bits_fit : (bs : List Bool) → length bs < 8 → bits_no bs < 128
bits_fit bs h =
    let l = bits-low bs in
    let m : 2 ^ length bs ≤ 2 ^ 7 = pow-le-pow_right (lit< tt) {i = length bs} {j = 7} (omega arith) in
    omega arith

-- the bits from the place before i on
pub bits_back : (hs : List Bool) (i j : ℕ) → i ≡ suc j → j < length hs → bits_no (drop j hs) ≡ bits_no (drop i hs) * 2 + bit (get_or hs j false)
unfolding bits_no
bits_back hs i j e l = rw (e, drop-cons hs j false l)

-- ---- the lengths of rows
pub length-session : (x : Session) → length (session_bytes x) ≡ session_size
unfolding session_bytes digits
length-session x = refl

pub length-call : (x : HeldCall) → length (call_bytes x) ≡ call_size
unfolding call_bytes digits
length-call x = refl

pub length-head : (kind : Kind) (r : Row) → length (row_head kind r) ≡ 11
unfolding row_head digits
length-head kind r = refl

pub length-row : (kind : Kind) (r : Row) → length r.text ≡ longest → length (row_bytes kind r) ≡ row_size
unfolding row_bytes
length-row kind r e = rw (length-append (row_head kind r) r.text, length-head kind r, e)

-- ---- bytes put from a place on
pub put-nil : (s : List ℕ) (at : ℕ) → put s at [] ≡ s
unfolding put
put-nil s at = rw (add-zero at) (take-append-drop at s)

pub put_one : (s : List ℕ) (at b : ℕ) → at < length s → set s at b ≡ put s at (b ∷ [])
unfolding put
put_one s at b h = set_split s at b h ∙ rw (add-one at)

-- bytes put after bytes
put-put : (s : List ℕ) (at : ℕ) (b c : List ℕ) → at + length b ≤ length s → put (put s at b) (at + length b) c ≡ put s at (b ++ c)
unfolding put
put-put s at b c h =
    let p : List ℕ = take at s ++ b in
    let r : List ℕ = drop (at + length b) s in
    let l : length p ≡ at + length b = simp (length-append, length-take-le at s (omega arith)) in
    let a : take at s ++ (b ++ r) ≡ p ++ r = sym (append_assoc (take at s) b r) in
    let e : take (at + length b) (p ++ r) ≡ p = take_at p r (at + length b) l in
    let d : drop (at + length b + length c) (p ++ r) ≡ drop (at + length b + length c) s =
    ap (λ k. drop (k + length c) (p ++ r)) (sym l) ∙ drop-append-add p r (length c) ∙ drop-drop (length c) (at + length b) s in
    let q : at + length b + length c ≡ at + (length b + length c) = omega arith in
    rw (a, e, d) (simp (length-append, append_assoc) (rw q))

pub put_on : (s : List ℕ) (at p : ℕ) (b c : List ℕ) → p ≡ at + length b → p ≤ length s → put (put s at b) p c ≡ put s at (b ++ c)
put_on s at p b c e h = rw e (put-put s at b c (omega arith))

-- four parts, each where the one before ends
pub put_four : (s : List ℕ) (at p q r : ℕ) (a b c d : List ℕ)
    → p ≡ at + length a → q ≡ p + length b → r ≡ q + length c → r ≤ length s
    → put (put (put (put s at a) p b) q c) r d ≡ put s at (a ++ (b ++ (c ++ d)))
put_four s at p q r a b c d e f g h =
    let x : put (put s at a) p b ≡ put s at (a ++ b) = put_on s at p a b e (omega arith) in
    let y : put (put s at (a ++ b)) q c ≡ put s at ((a ++ b) ++ c) =
    put_on s at q (a ++ b) c (omega (arith, length-append a b)) (omega arith) in
    let z : put (put s at ((a ++ b) ++ c)) r d ≡ put s at (((a ++ b) ++ c) ++ d) =
    put_on s at r ((a ++ b) ++ c) d (omega (arith, length-append a b, length-append (a ++ b) c)) h in
    rw (x, y, z) (simp append_assoc)

-- bytes in the place of all
pub put_all : (s b : List ℕ) → length b ≡ length s → put s 0 b ≡ b
unfolding put
put_all s b e = rw (drop_of_length-le s {i = 0 + length b} (omega arith)) (append-nil b)

-- a number's bytes, put from the last to the first: the loop is at byte i, and j is the one before
pub number-back : (s : List ℕ) (at i j x : ℕ) → i ≡ suc j → at + i ≤ length s
    → take at s ++ (digits i x ++ drop (at + i) s)
    ≡ take at (set s (at + j) (x % 256)) ++ (digits j (x / 256) ++ drop (at + j) (set s (at + j) (x % 256)))
unfolding digits
number-back s at i j x e h =
    let q : at + suc j ≡ suc (at + j) = omega arith in
    let d : drop (at + j) (take (at + j) s ++ (x % 256 ∷ drop (suc (at + j)) s)) ≡ x % 256 ∷ drop (suc (at + j)) s =
    drop_at (take (at + j) s) (x % 256 ∷ drop (suc (at + j)) s) (at + j) (length-take-le (at + j) s (omega arith)) in
    rw (take-set-le at s (at + j) (x % 256) (omega arith), set_split s (at + j) (x % 256) (omega arith), d, e, q)
    (ap (λ l. take at s ++ l) (append_snoc (digits j (x / 256)) (x % 256) (drop (suc (at + j)) s)))

-- a loop that stands at row i of w bytes
module _ {A : Type 0} (g : A → List ℕ) (w : ℕ) (xs : List A) (i : ℕ) (d : A) (h : i < length xs) (l : length (joined g (take i xs)) ≡ i * w) where
  pub put-more : (s : List ℕ) (at : ℕ) → at + i * w ≤ length s
      → put (put s at (joined g (take i xs))) (at + i * w) (g (get_or xs i d)) ≡ put s at (joined g (take (i + 1) xs))
  put-more s at k =
      rw (add-one i, take-suc xs i d h, joined_snoc g (take i xs) (get_or xs i d))
      (put_on s at (at + i * w) (joined g (take i xs)) (g (get_or xs i d)) (omega arith) k)

  pub length_more : length (g (get_or xs i d)) ≡ w → length (joined g (take (i + 1) xs)) ≡ (i + 1) * w
  length_more e =
      rw (add-one i, take-suc xs i d h, joined_snoc g (take i xs) (get_or xs i d), length-append (joined g (take i xs)) (g (get_or xs i d)))
      (omega (arith, suc-mul i w))

-- ---- a row's text
pub past-text : (t : List ℕ) (n : ℕ) → length t ≡ longest → text_of t (record { from = n; to = longest }) ≡ drop n t
past-text t n l = take_all (longest - n) (drop n t) (simp length-drop (omega arith))
