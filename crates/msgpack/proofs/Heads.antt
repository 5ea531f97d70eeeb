-- Laws of specs/Head.antt: one step of each function that reads a head. Assumes nothing.
use mathlib.Core.Path.{◌≡◌, refl, sym, ◌∙◌}
use Prim.Native.Nat.{ℕ, zero, suc, ◌+◌, ◌*◌, ◌-◌, ◌^◌, ◌≤◌, ◌<◌}
use mathlib.Core.List.{List, [], ◌∷◌, map as list-map}
use mathlib.Core.Bool.{Bool, true, false, ◌&&◌, ◌||◌, not}
use native.Mathlib.Omega.{arith}
use native.Mathlib.Numerals.{add-one}
use native.Mathlib.Nat.{pow-suc, pow-le-pow_right}
use lib.ListN.{length, get_or, get_or-eq_default, drop, length-take, length-drop}
use lib.Seq.{get_or-take, get_or-drop}
use lib.Dec.{eqb, leb, ltb, lit≤, lit<}
use native.Mathlib.Decide.{dec_lt}
use borrow.Author.Tests.{le-leb, lt-leb, ne_eqb, eq-eqb, lt-ltb, le-ltb, leb-true, eqb-true, ltb-true, ltb-false}
use Rattle.seq.specs.Bytes.{byte_at, part}
use Rattle.seq.specs.Lists.{every}
use Rattle.seq.proofs.Lists.{every-at}
use Rattle.seq.proofs.Logic.{split, and_left, and_right, cond-case}
use Rattle.msgpack.specs.declared.Form.{Form}
use Rattle.msgpack.specs.Head.{form, forms, form_of, number, half, head, signed_head, head_of, head_at, Placed}
use Rattle.msgpack.specs.Head.{whole, below, str, array, map, none, signed}

-- ---- half
pub half-1 : (w : ℕ) → w ≡ 1 → 0x80 ≡ half w
unfolding half
half-1 w e = rw e

pub half-2 : (w : ℕ) → w ≡ 2 → 0x8000 ≡ half w
unfolding half
half-2 w e = rw e

pub half-4 : (w : ℕ) → w ≡ 4 → 0x80000000 ≡ half w
unfolding half
half-4 w e = rw e

pub half-8 : (w : ℕ) → (w ≡ 1 → ⊥) → (w ≡ 2 → ⊥) → (w ≡ 4 → ⊥) → 0x8000000000000000 ≡ half w
unfolding half
half-8 w a b c = rw (ne_eqb w 1 a, ne_eqb w 2 b, ne_eqb w 4 c)

half-some : (w : ℕ) → 0 < half w
unfolding half
half-some w =
    cond-case (λ n. 0 < n) (eqb w 1) _ _ (λ t. lit< tt)
    (λ t. cond-case (λ n. 0 < n) (eqb w 2) _ _ (λ t. lit< tt) (λ t. cond-case (λ n. 0 < n) (eqb w 4) _ _ (λ t. lit< tt) (λ t. lit< tt)))

-- ---- a signed number: h is the half
module _ (w u e h : ℕ) (eh : h ≡ half w) where
  pub sign-whole : u < h → head whole u e ≡ signed_head w u e
  unfolding signed_head
  sign-whole l = rw (sym eh, lt-ltb u h l)

  pub sign_below : h ≤ u → u < 2 * h → head below (h - 1 - (u - h)) e ≡ signed_head w u e
  unfolding signed_head
  sign_below l m = let q : 2 * h - 1 - u ≡ h - 1 - (u - h) = omega arith in rw (sym eh, le-ltb u h l, q)

-- ---- what a first byte announces: x is the number in it
module _ (b x : ℕ) where
  pub form-whole : b < 0x80 → x ≡ b → form whole 0 x ≡ form_of b
  unfolding form_of
  form-whole l e = rw (lt-ltb b 0x80 l, e)

  pub form-map : 0x80 ≤ b → b < 0x90 → x ≡ b - 0x80 → form map 0 x ≡ form_of b
  unfolding form_of
  form-map l m e = rw (le-ltb b 0x80 l, lt-ltb b 0x90 m, e)

  pub form-array : 0x90 ≤ b → b < 0xa0 → x ≡ b - 0x90 → form array 0 x ≡ form_of b
  unfolding form_of
  form-array l m e = rw (le-ltb b 0x80 (omega arith), le-ltb b 0x90 l, lt-ltb b 0xa0 m, e)

  pub form-str : 0xa0 ≤ b → b < 0xc0 → x ≡ b - 0xa0 → form str 0 x ≡ form_of b
  unfolding form_of
  form-str l m e = rw (le-ltb b 0x80 (omega arith), le-ltb b 0x90 (omega arith), le-ltb b 0xa0 l, lt-ltb b 0xc0 m, e)

  pub form-below : 0xe0 ≤ b → x ≡ 0xff - b → form below 0 x ≡ form_of b
  unfolding form_of
  form-below l e = rw (
    le-ltb b 0x80 (omega arith),
    le-ltb b 0x90 (omega arith),
    le-ltb b 0xa0 (omega arith),
    le-ltb b 0xc0 (omega arith),
    le-ltb b 0xe0 l,
    e,
  )

pub form-listed : (b i : ℕ) → 0xc0 ≤ b → b < 0xe0 → i ≡ b - 0xc0 → get_or forms i (form none 0 0) ≡ form_of b
unfolding form_of
form-listed b i l m e = rw (
  le-ltb b 0x80 (omega arith),
  le-ltb b 0x90 (omega arith),
  le-ltb b 0xa0 (omega arith),
  le-ltb b 0xc0 l,
  lt-ltb b 0xe0 m,
  e,
)

-- ---- a row of the table, of which each part stands in a list of its own
pub listed-form : (fs : List Form) (i w b : ℕ) → i < length fs → w ≡ get_or (list-map (λ (f : Form). f.width) fs) i 0
    → b ≡ get_or (list-map (λ (f : Form). f.base) fs) i 0
    → form (get_or (list-map (λ (f : Form). f.kind) fs) i 0) w b ≡ get_or fs i (form none 0 0)
listed-form [] i w b h ew eb = absurd (omega arith)
listed-form (f ∷ fs) zero w b h ew eb = rw (ew, eb)
listed-form (f ∷ fs) (suc i) w b h ew eb = listed-form fs i w b (omega arith) ew eb

-- ---- every form's number can be told: one test over the table
fine : Form → Bool
fine f =
    leb f.width 8
    && (leb (f.base + 256 ^ f.width) 0x10000000000000000
    && ((not (eqb f.kind signed) || eqb (256 ^ f.width) (2 * half f.width))
    && (not (eqb f.kind below) || leb (f.base + 256 ^ f.width) 0x8000000000000000)))

pub record Fine (f : Form) : Type 0 where
  pub wide : f.width ≤ 8
  pub fits : f.base + 256 ^ f.width ≤ 0x10000000000000000
  pub sign : f.kind ≡ signed → 256 ^ f.width ≡ 2 * half f.width
  pub low : f.kind ≡ below → f.base + 256 ^ f.width ≤ 0x8000000000000000

sign-is : (a b : Bool) → (not a || b) ≡ true → a ≡ true → b ≡ true
sign-is true b e t = e
sign-is false b e t = absurd (let z : ◌≡◌ {A = ℕ} 0 1 = cc in omega arith)

fine-is : (f : Form) → fine f ≡ true → Fine f
unfolding fine
fine-is f e =
    let r = and_right (leb f.width 8) _ e in
    let q = and_right (leb (f.base + 256 ^ f.width) 0x10000000000000000) _ r in
    record {
      wide = leb-true f.width 8 (and_left (leb f.width 8) _ e);
      fits = leb-true (f.base + 256 ^ f.width) 0x10000000000000000 (and_left (leb (f.base + 256 ^ f.width) 0x10000000000000000) _ r);
      sign = λ k.
          eqb-true (256 ^ f.width) (2 * half f.width)
          (sign-is (eqb f.kind signed) _ (and_left (not (eqb f.kind signed) || eqb (256 ^ f.width) (2 * half f.width)) _ q) (eq-eqb f.kind signed k));
      low = λ k.
          leb-true (f.base + 256 ^ f.width) 0x8000000000000000
          (sign-is (eqb f.kind below) _ (and_right (not (eqb f.kind signed) || eqb (256 ^ f.width) (2 * half f.width)) _ q) (eq-eqb f.kind below k));
    }

table-fine : every fine forms ≡ true
unfolding every fine forms half
table-fine = refl

listed-fine : (i : ℕ) → fine (get_or forms i (form none 0 0)) ≡ true
unfolding fine
listed-fine i = elim (dec_lt i (length forms)) [
  | yes h ↦ every-at fine forms (form none 0 0) table-fine i h
  | no h ↦ rw (get_or-eq_default forms (form none 0 0) {n = i} (omega arith))
]

-- a form with its number in the first byte
inside-fine : (k x : ℕ) → k < signed → x < 0x100 → Fine (form k 0 x)
inside-fine k x l m = record { wide = omega arith; fits = omega arith; sign = λ e. absurd (omega arith); low = λ e. omega arith }

pub fine_of : (b : ℕ) → Fine (form_of b)
unfolding form_of
fine_of b =
    cond-case Fine (ltb b 0x80) _ _ (λ t. inside-fine whole b (lit< tt) (omega (arith, ltb-true b 0x80 t)))
    (λ t. cond-case Fine (ltb b 0x90) _ _ (λ t. inside-fine map (b - 0x80) (lit< tt) (omega (arith, ltb-true b 0x90 t)))
    (λ t. cond-case Fine (ltb b 0xa0) _ _ (λ t. inside-fine array (b - 0x90) (lit< tt) (omega (arith, ltb-true b 0xa0 t)))
    (λ t. cond-case Fine (ltb b 0xc0) _ _ (λ t. inside-fine str (b - 0xa0) (lit< tt) (omega (arith, ltb-true b 0xc0 t)))
    (λ t. cond-case Fine (ltb b 0xe0) _ _ (λ t. fine-is _ (listed-fine (b - 0xc0)))
    (λ t. inside-fine below (0xff - b) (lit< tt) (omega arith))))))

-- ---- a number of one byte more
pub number-none : (s : List ℕ) (at : ℕ) → number s at 0 ≡ 0
unfolding number
number-none s at = refl

pub number_more : (s : List ℕ) (at i n b : ℕ) → n ≡ number s at i → b ≡ byte_at s (at + i) → n * 256 + b ≡ number s at (i + 1)
unfolding number
number_more s at i n b e f = rw (add-one i, e, f)

-- the bytes of a number
pub row-at : (s : List ℕ) (at w i : ℕ) → i < w → get_or (part at (at + w) s) i 0 ≡ byte_at s (at + i)
row-at s at w i h = get_or-take (at + w - at) (drop at s) i 0 (omega arith) ∙ get_or-drop at s i 0

pub row-long : (s : List ℕ) (at w : ℕ) → at + w ≤ length s → length (part at (at + w) s) ≡ w
row-long s at w h = rw (length-take (at + w - at) (drop at s), length-drop at s) (omega arith)

pub power-more : (i : ℕ) → 256 ^ (i + 1) ≡ 256 ^ i * 256
power-more i = rw (add-one i) (pow-suc 256 i)

pub power_small : (i : ℕ) → i < 8 → 256 ^ i ≤ 0x100000000000000
power_small i h = pow-le-pow_right (lit< tt) {i = i} {j = 7} (omega arith)

-- ---- a head: f is the form that its first byte announces
module _ (s : List ℕ) (at : ℕ) (f : Form) (ef : f ≡ form_of (byte_at s at)) where
  pub head-cut : length s < at + 1 + f.width → head none 0 0 ≡ head_at s at
  unfolding head_at head_of
  head-cut l = rw (sym ef, lt-leb (at + 1 + f.width) (length s) l)

  module _ (u e : ℕ) (l : at + 1 + f.width ≤ length s) (eu : u ≡ number s (at + 1) f.width) (ee : e ≡ at + 1 + f.width) where
    pub head-signed : f.kind ≡ signed → signed_head f.width u e ≡ head_at s at
    unfolding head_at head_of
    head-signed k = rw (sym ef, le-leb (at + 1 + f.width) (length s) l, k, ← eu, ee)

    pub head_plain : (f.kind ≡ signed → ⊥) → head f.kind (f.base + u) e ≡ head_at s at
    unfolding head_at head_of
    head_plain k = rw (sym ef, le-leb (at + 1 + f.width) (length s) l, ne_eqb f.kind signed k, ← eu, ee)

pub placed-none : (at n : ℕ) → Placed at n (head none 0 0)
placed-none at n = record { inside = omega arith; behind = λ f. absurd (f refl); low = λ k. absurd (omega arith) }

pub placed-plain : (at n k x e : ℕ) → at < e → e ≤ n → (k ≡ below → x < 0x8000000000000000) → Placed at n (head k x e)
placed-plain at n k x e l m z = record { inside = m; behind = λ f. l; low = z }

half-most : (w : ℕ) → half w ≤ 0x8000000000000000
unfolding half
half-most w =
    split (eqb w 1) (λ t. rw t (lit≤ tt))
    (λ t. rw t (split (eqb w 2) (λ u. rw u (lit≤ tt)) (λ u. rw u (split (eqb w 4) (λ v. rw v (lit≤ tt)) (λ v. rw v (lit≤ tt))))))

pub placed-signed : (at n w u e : ℕ) → at < e → e ≤ n → Placed at n (signed_head w u e)
unfolding signed_head
placed-signed at n w u e l m =
    cond-case (Placed at n) (ltb u (half w)) (head whole u e) (head below (2 * half w - 1 - u) e)
    (λ t. placed-plain at n whole u e l m (λ k. absurd (omega arith)))
    (λ t. placed-plain at n below (2 * half w - 1 - u) e l m (λ k. let h = half-most w in let g = half-some w in omega (arith, ltb-false u (half w) t)))
