-- MsgPack: how large the number of a head is, in a text of bytes, and how many characters it has in JSON. Assumes nothing.
use Prim.Native.Nat.{ℕ, zero, suc, ◌+◌, ◌*◌, ◌-◌, ◌/◌, ◌^◌, ◌≤◌, ◌<◌}
use mathlib.Core.Bool.{Bool, true, false, not, ◌&&◌, ◌||◌}
use mathlib.Core.List.{List}
use mathlib.Core.Path.{◌≡◌, refl}
use native.Mathlib.Decide.{dec_lt}
use native.Mathlib.Nat.{pow-suc, div-lt_iff_lt-mul}
use native.Mathlib.Omega.{arith}
use borrow.Author.Tests.{eq-eqb, eqb-true, leb-true, ltb-true, ltb-false}
use lib.Dec.{eqb, leb, ltb, lit<}
use lib.ListN.{length, get_or, get_or-eq_default}
use Rattle.seq.specs.Bytes.{byte_at}
use Rattle.seq.specs.Decimal.{decimal}
use Rattle.seq.specs.Lists.{All, every}
use Rattle.seq.proofs.Digits.{length-small, length_more}
use Rattle.seq.proofs.Lists.{every-at}
use Rattle.seq.proofs.Logic.{clash, and_left, and_right, cond-case}
use Rattle.seq.proofs.Rules.{all-at}
use Rattle.msgpack.specs.declared.Form.{Form}
use Rattle.msgpack.specs.declared.Head.{Head}
use Rattle.msgpack.specs.Head.{form, forms, form_of, number, half, head, signed_head, head_of, head_at}
use Rattle.msgpack.specs.Head.{whole, below, str, array, map, none, signed}
use Rattle.values.specs.Value.{short}

-- ---- a number below 10^k has at most k digits
pub few-digits : (k n : ℕ) → n < 10 ^ suc k → n < 2 ^ 64 → length (decimal n) ≤ suc k
few-digits zero n h l = let e = length-small n (omega arith) in omega arith
few-digits (suc k) n h l = elim (dec_lt n 10) [
  | yes p ↦ (let e = length-small n p in omega arith)
  | no p ↦
      let e = length_more n l (omega arith) in
      let i = few-digits k (n / 10) ((div-lt_iff_lt-mul (lit< tt)).1 (rw pow-suc at h)) (omega arith) in
      omega arith
]

-- ---- every form's number, by one test over the table
-- a length follows
abbrev is_sized : ℕ → Bool
is_sized k = eqb k str || (eqb k array || eqb k map)

-- one more than the largest number that a form can have
abbrev limit : Form → ℕ
limit f = f.base + 256 ^ f.width

-- a number of this many digits fits in six characters for each byte of the head, with a sign and one to spare
abbrev room : ℕ → ℕ
room w = 10 ^ suc (3 + 6 * w)

fine : Form → Bool
fine f =
    leb (limit f) (2 ^ 64)
    && (ltb (limit f) (room f.width)
    && ((not (is_sized f.kind) || leb (limit f) (2 ^ 32))
    && ((not (eqb f.kind signed) || eqb (256 ^ f.width) (2 * half f.width))
    && (not (eqb f.kind below) || leb (limit f) (2 ^ 63)))))

record Fine (f : Form) : Type 0 where
  fits : limit f ≤ 2 ^ 64
  brief : limit f < room f.width
  sized : is_sized f.kind ≡ true → limit f ≤ 2 ^ 32
  sign : f.kind ≡ signed → 256 ^ f.width ≡ 2 * half f.width
  low : f.kind ≡ below → limit f ≤ 2 ^ 63

or-not : (a b : Bool) → (not a || b) ≡ true → a ≡ true → b ≡ true
or-not true b e t = e
or-not false b e t = clash t refl

fine-is : (f : Form) → fine f ≡ true → Fine f
unfolding fine
fine-is f e =
    let q₁ = and_right (leb (limit f) (2 ^ 64)) _ e in
    let q₂ = and_right (ltb (limit f) (room f.width)) _ q₁ in
    let t₃ = not (is_sized f.kind) || leb (limit f) (2 ^ 32) in
    let q₃ = and_right t₃ _ q₂ in
    let t₄ = not (eqb f.kind signed) || eqb (256 ^ f.width) (2 * half f.width) in
    let q₄ = and_right t₄ _ q₃ in
    record {
      fits = leb-true (limit f) (2 ^ 64) (and_left (leb (limit f) (2 ^ 64)) _ e);
      brief = ltb-true (limit f) (room f.width) (and_left (ltb (limit f) (room f.width)) _ q₁);
      sized = λ k. leb-true (limit f) (2 ^ 32) (or-not (is_sized f.kind) _ (and_left t₃ _ q₂) k);
      sign = λ k.
          eqb-true (256 ^ f.width) (2 * half f.width) (or-not (eqb f.kind signed) _ (and_left t₄ _ q₃) (eq-eqb f.kind signed k));
      low = λ k. leb-true (limit f) (2 ^ 63) (or-not (eqb f.kind below) _ q₄ (eq-eqb f.kind below k));
    }

table-fine : every fine forms ≡ true
unfolding every fine forms half
table-fine = refl

listed-fine : (i : ℕ) → fine (get_or forms i (form none 0 0)) ≡ true
unfolding fine
listed-fine i = elim (dec_lt i (length forms)) [
  | yes h ↦ every-at fine forms (form none 0 0) table-fine i h
  | no h ↦ rw (get_or-eq_default forms (form none 0 0) {n = i} (omega arith))
]

-- a form with its number in the first byte
inside-fine : (k x : ℕ) → k < signed → x < 0x100 → Fine (form k 0 x)
inside-fine k x l m = record {
  fits = omega arith;
  brief = omega arith;
  sized = λ e. omega arith;
  sign = λ e. absurd (omega arith);
  low = λ e. omega arith;
}

fine_of : (b : ℕ) → Fine (form_of b)
unfolding form_of
fine_of b =
    cond-case Fine (ltb b 0x80) _ _ (λ t. inside-fine whole b (lit< tt) (omega (arith, ltb-true b 0x80 t)))
    (λ t. cond-case Fine (ltb b 0x90) _ _ (λ t. inside-fine map (b - 0x80) (lit< tt) (omega (arith, ltb-true b 0x90 t)))
    (λ t. cond-case Fine (ltb b 0xa0) _ _ (λ t. inside-fine array (b - 0x90) (lit< tt) (omega (arith, ltb-true b 0xa0 t)))
    (λ t. cond-case Fine (ltb b 0xc0) _ _ (λ t. inside-fine str (b - 0xa0) (lit< tt) (omega (arith, ltb-true b 0xc0 t)))
    (λ t. cond-case Fine (ltb b 0xe0) _ _ (λ t. fine-is _ (listed-fine (b - 0xc0)))
    (λ t. inside-fine below (0xff - b) (lit< tt) (omega arith))))))

-- ---- the number behind a first byte
number-below : (s : List ℕ) → All (λ b. b < 256) s → (at w : ℕ) → number s at w < 256 ^ w
unfolding number
number-below s a at zero = omega arith
number-below s a at (suc w) =
    let i : number s at w < 256 ^ w = number-below s a at w in
    let b : byte_at s (at + w) < 256 = all-at (λ b. b < 256) 0 s (at + w) (lit< tt) a in
    rw pow-suc (omega arith)

-- ---- a head's number
pub record Bounded (at : ℕ) (h : Head) : Type 0 where
  pub behind : ¬ (h.kind ≡ none) → at < h.end
  pub wholes : h.kind ≡ whole → (h.n < 2 ^ 64) × (length (decimal h.n) + 2 ≤ 6 * (h.end - at))
  pub belows : h.kind ≡ below → (h.n < 2 ^ 63) × (length (decimal (h.n + 1)) + 2 ≤ 6 * (h.end - at))
  pub sized : is_sized h.kind ≡ true → short h.n

-- with two characters to spare
digits-fit : (at w n : ℕ) → n < room w → n < 2 ^ 64 → length (decimal n) + 2 ≤ 6 * (at + 1 + w - at)
digits-fit at w n h l = let d = few-digits (3 + 6 * w) n h l in omega arith

module _ (f : Form) (g : Fine f) (at u : ℕ) (l : u < 256 ^ f.width) where
  plain-bounded : Bounded at (head f.kind (f.base + u) (at + 1 + f.width))
  plain-bounded =
      let a = g.fits in
      let b = g.brief in
      record {
        behind = λ n. omega arith;
        wholes = λ e. (omega arith, digits-fit at f.width (f.base + u) (omega arith) (omega arith));
        belows = λ e. let c = g.low e in (omega arith, digits-fit at f.width (f.base + u + 1) (omega arith) (omega arith));
        sized = λ e. let c = g.sized e in omega arith;
      }

  sign-bounded : f.kind ≡ signed → Bounded at (signed_head f.width u (at + 1 + f.width))
  unfolding signed_head
  sign-bounded e =
      let a = g.fits in
      let b = g.brief in
      let c : 256 ^ f.width ≡ 2 * half f.width = g.sign e in
      cond-case (Bounded at) (ltb u (half f.width)) _ _
      (λ t. record {
        behind = λ n. omega arith;
        wholes = λ e. (omega arith, digits-fit at f.width u (omega arith) (omega arith));
        belows = λ e. absurd (omega arith);
        sized = λ e. clash e refl;
      })
      (λ t.
      let d = ltb-false u (half f.width) t in
      record {
        behind = λ n. omega arith;
        wholes = λ e. absurd (omega arith);
        belows = λ e. (omega arith, digits-fit at f.width (2 * half f.width - 1 - u + 1) (omega arith) (omega arith));
        sized = λ e. clash e refl;
      })

head-of : (s : List ℕ) → All (λ b. b < 256) s → (at : ℕ) (f : Form) → Fine f → Bounded at (head_of f s at)
unfolding head_of
head-of s a at f g =
    let l = number-below s a (at + 1) f.width in
    cond-case (Bounded at) (leb (at + 1 + f.width) (length s)) _ _
    (λ t. cond-case (Bounded at) (eqb f.kind signed) _ _
    (λ k. sign-bounded f g at (number s (at + 1) f.width) l (eqb-true f.kind signed k))
    (λ k. plain-bounded f g at (number s (at + 1) f.width) l))
    (λ t. record { behind = λ n. absurd (n refl); wholes = λ e. absurd (omega arith); belows = λ e. absurd (omega arith); sized = λ e. clash e refl })

pub head-bounded : (s : List ℕ) → All (λ b. b < 256) s → (at : ℕ) → Bounded at (head_at s at)
unfolding head_at
head-bounded s a at = head-of s a at (form_of (byte_at s at)) (fine_of (byte_at s at))

-- ---- the kinds with a length
module _ (k : ℕ) where
  pub str-sized : k ≡ str → is_sized k ≡ true
  str-sized e = rw e

  pub array-sized : k ≡ array → is_sized k ≡ true
  array-sized e = rw e

  pub map-sized : k ≡ map → is_sized k ≡ true
  map-sized e = rw e
