-- The heads that are written read back. Assumes nothing.
use Prim.Native.Nat.{ℕ, zero, suc, ◌+◌, ◌*◌, ◌-◌, ◌/◌, ◌%◌, ◌^◌, ◌≤◌, ◌<◌}
use mathlib.Core.Bool.{false}
use mathlib.Core.List.{List, [], ◌∷◌}
use mathlib.Core.Path.{◌≡◌, refl, ◌∙◌}
use native.Mathlib.Nat.{pow-suc, div-lt_iff_lt-mul, div-add-mod'}
use native.Mathlib.Omega.{arith}
use borrow.Author.Tests.{lt-ltb, le-ltb, le-leb, ltb-true}
use lib.Dec.{ltb, eqb, lit<}
use lib.ListN.{length, length-append}
use Rattle.seq.specs.Bytes.{byte_at}
use Rattle.seq.proofs.Logic.{cond-case}
use Rattle.msgpack.specs.Head.{form, forms, form_of, number, half, head, signed_head, head_of, head_at}
use Rattle.msgpack.specs.Head.{nil, no, yes, whole, below, str, array, map, signed}
use Rattle.values.specs.Value.{short}
use Rattle.values.specs.Write.{wide, pack_whole, pack_below, pack_str, pack_array, pack_map}
use Rattle.seq.proofs.Holds.{Holds, holds-end, holds-left, holds-right}

-- ---- numbers
pub length-wide : (w n : ℕ) → length (wide w n) ≡ w
unfolding wide
length-wide zero n = refl
length-wide (suc w) n = length-append (wide w (n / 256)) _ ∙ (let e = length-wide w (n / 256) in omega arith)

pub number-wide : (s : List ℕ) (at w n : ℕ) → n < 256 ^ w → Holds s at (wide w n) → number s at w ≡ n
unfolding wide number
number-wide s at zero n l h = omega arith
number-wide s at (suc w) n l h =
    let a = number-wide s at w (n / 256) ((div-lt_iff_lt-mul (lit< tt)).1 (rw pow-suc at l)) (holds-left s at (wide w (n / 256)) _ h) in
    let b = rw (length-wide w (n / 256)) at (holds-right s at (wide w (n / 256)) _ h) in
    let c : byte_at s (at + w) ≡ n % 256 = b.0 in
    rw (a, c) (div-add-mod' n 256)

-- ---- one head
-- the head at a place is of a kind, with this number, and ends behind the bytes w
abbrev pub Heads : List ℕ → ℕ → ℕ → ℕ → List ℕ → Type 0
Heads s at k n w = Holds s at w → head_at s at ≡ head k n (at + length w)

module _ (s : List ℕ) (at k n b : ℕ) where
  fixed : form_of b ≡ form k 0 n → eqb k signed ≡ false → Heads s at k n (b ∷ [])
  unfolding head_at head_of number
  fixed f u h =
      let e : at + 1 + 0 ≡ at + 1 = omega arith in
      let z : n + 0 ≡ n = omega arith in
      let l : at + 1 ≤ length s = h.2 in
      rw (h.0, f, e, le-leb (at + 1) (length s) l, u, z)

  told : (w : ℕ) → form_of b ≡ form k w 0 → eqb k signed ≡ false → n < 256 ^ w → Heads s at k n (b ∷ wide w n)
  unfolding head_at head_of
  told w f u m h =
      let l : at + 1 + length (wide w n) ≤ length s = holds-end s (at + 1) (wide w n) h.2 in
      let q : length (wide w n) ≡ w = length-wide w n in
      let r : at + 1 + w ≤ length s = omega arith in
      let z : 0 + n ≡ n = omega arith in
      let e : at + 1 + w ≡ at + suc (length (wide w n)) = omega arith in
      rw (h.0, f, le-leb (at + 1 + w) (length s) r, u, number-wide s (at + 1) w n m h.2, z, e)

-- a signed number below 0
minus : (s : List ℕ) (at n b w : ℕ) → form_of b ≡ form signed w 0 → 256 ^ w ≡ 2 * half w → n < half w
    → Heads s at below n (b ∷ wide w (2 * half w - 1 - n))
unfolding head_at head_of signed_head
minus s at n b w f p m h =
    let u : ℕ = 2 * half w - 1 - n in
    let l : at + 1 + length (wide w u) ≤ length s = holds-end s (at + 1) (wide w u) h.2 in
    let q : length (wide w u) ≡ w = length-wide w u in
    let r : at + 1 + w ≤ length s = omega arith in
    let e : at + 1 + w ≡ at + suc (length (wide w u)) = omega arith in
    let v : 2 * half w - 1 - u ≡ n = omega arith in
    rw (
      h.0,
      f,
      le-leb (at + 1 + w) (length s) r,
      number-wide s (at + 1) w u (omega arith) h.2,
      le-ltb u (half w) (omega arith),
      v,
      e,
    )

-- ---- each kind
module _ (s : List ℕ) (at : ℕ) where
  pub heads-nil : Heads s at nil 0 (0xc0 ∷ [])
  unfolding form_of forms
  heads-nil = fixed s at nil 0 0xc0 refl refl

  pub heads-no : Heads s at no 0 (0xc2 ∷ [])
  unfolding form_of forms
  heads-no = fixed s at no 0 0xc2 refl refl

  pub heads-yes : Heads s at yes 0 (0xc3 ∷ [])
  unfolding form_of forms
  heads-yes = fixed s at yes 0 0xc3 refl refl

  heads-fixstr : (n : ℕ) → n < 0x20 → Heads s at str n ((0xa0 + n) ∷ [])
  unfolding form_of
  heads-fixstr n l =
      let z : 0xa0 + n - 0xa0 ≡ n = omega arith in
      fixed s at str n (0xa0 + n) (rw (
        le-ltb (0xa0 + n) 0x80 (omega arith),
        le-ltb (0xa0 + n) 0x90 (omega arith),
        le-ltb (0xa0 + n) 0xa0 (omega arith),
        lt-ltb (0xa0 + n) 0xc0 (omega arith),
        z,
      )) refl

  heads-fixarray : (n : ℕ) → n < 0x10 → Heads s at array n ((0x90 + n) ∷ [])
  unfolding form_of
  heads-fixarray n l =
      let z : 0x90 + n - 0x90 ≡ n = omega arith in
      fixed s at array n (0x90 + n) (rw (
        le-ltb (0x90 + n) 0x80 (omega arith),
        le-ltb (0x90 + n) 0x90 (omega arith),
        lt-ltb (0x90 + n) 0xa0 (omega arith),
        z,
      )) refl

  heads-fixmap : (n : ℕ) → n < 0x10 → Heads s at map n ((0x80 + n) ∷ [])
  unfolding form_of
  heads-fixmap n l =
      let z : 0x80 + n - 0x80 ≡ n = omega arith in
      fixed s at map n (0x80 + n) (rw (
        le-ltb (0x80 + n) 0x80 (omega arith),
        lt-ltb (0x80 + n) 0x90 (omega arith),
        z,
      )) refl

  heads-fixwhole : (n : ℕ) → n < 0x80 → Heads s at whole n (n ∷ [])
  unfolding form_of
  heads-fixwhole n l = fixed s at whole n n (rw (lt-ltb n 0x80 l)) refl

  heads-fixbelow : (n : ℕ) → n < 0x20 → Heads s at below n ((0xff - n) ∷ [])
  unfolding form_of
  heads-fixbelow n l =
      let z : 0xff - (0xff - n) ≡ n = omega arith in
      fixed s at below n (0xff - n) (rw (
        le-ltb (0xff - n) 0x80 (omega arith),
        le-ltb (0xff - n) 0x90 (omega arith),
        le-ltb (0xff - n) 0xa0 (omega arith),
        le-ltb (0xff - n) 0xc0 (omega arith),
        le-ltb (0xff - n) 0xe0 (omega arith),
        z,
      )) refl

  pub heads-str : (n : ℕ) → short n → Heads s at str n (pack_str n)
  unfolding pack_str form_of forms
  heads-str n g =
      cond-case (Heads s at str n) (ltb n 0x20) _ _ (λ t. heads-fixstr n (ltb-true n 0x20 t))
      (λ t. cond-case (Heads s at str n) (ltb n 0x100) _ _ (λ t. told s at str n 0xd9 1 refl refl (ltb-true n 0x100 t))
      (λ t. cond-case (Heads s at str n) (ltb n 0x10000) _ _ (λ t. told s at str n 0xda 2 refl refl (ltb-true n 0x10000 t))
      (λ t. told s at str n 0xdb 4 refl refl g)))

  pub heads-array : (n : ℕ) → short n → Heads s at array n (pack_array n)
  unfolding pack_array form_of forms
  heads-array n g =
      cond-case (Heads s at array n) (ltb n 0x10) _ _ (λ t. heads-fixarray n (ltb-true n 0x10 t))
      (λ t. cond-case (Heads s at array n) (ltb n 0x10000) _ _ (λ t. told s at array n 0xdc 2 refl refl (ltb-true n 0x10000 t))
      (λ t. told s at array n 0xdd 4 refl refl g))

  pub heads-map : (n : ℕ) → short n → Heads s at map n (pack_map n)
  unfolding pack_map form_of forms
  heads-map n g =
      cond-case (Heads s at map n) (ltb n 0x10) _ _ (λ t. heads-fixmap n (ltb-true n 0x10 t))
      (λ t. cond-case (Heads s at map n) (ltb n 0x10000) _ _ (λ t. told s at map n 0xde 2 refl refl (ltb-true n 0x10000 t))
      (λ t. told s at map n 0xdf 4 refl refl g))

  pub heads-whole : (n : ℕ) → n < 0x10000000000000000 → Heads s at whole n (pack_whole n)
  unfolding pack_whole form_of forms
  heads-whole n g =
      cond-case (Heads s at whole n) (ltb n 0x80) _ _ (λ t. heads-fixwhole n (ltb-true n 0x80 t))
      (λ t. cond-case (Heads s at whole n) (ltb n 0x100) _ _ (λ t. told s at whole n 0xcc 1 refl refl (ltb-true n 0x100 t))
      (λ t. cond-case (Heads s at whole n) (ltb n 0x10000) _ _ (λ t. told s at whole n 0xcd 2 refl refl (ltb-true n 0x10000 t))
      (λ t. cond-case (Heads s at whole n) (ltb n 0x100000000) _ _ (λ t. told s at whole n 0xce 4 refl refl (ltb-true n 0x100000000 t))
      (λ t. told s at whole n 0xcf 8 refl refl g))))

  pub heads-below : (n : ℕ) → n < 0x8000000000000000 → Heads s at below n (pack_below n)
  unfolding pack_below form_of forms half
  heads-below n g =
      cond-case (Heads s at below n) (ltb n 0x20) _ _ (λ t. heads-fixbelow n (ltb-true n 0x20 t))
      (λ t. cond-case (Heads s at below n) (ltb n 0x80) _ _ (λ t. minus s at n 0xd0 1 refl refl (ltb-true n 0x80 t))
      (λ t. cond-case (Heads s at below n) (ltb n 0x8000) _ _ (λ t. minus s at n 0xd1 2 refl refl (ltb-true n 0x8000 t))
      (λ t. cond-case (Heads s at below n) (ltb n 0x80000000) _ _ (λ t. minus s at n 0xd2 4 refl refl (ltb-true n 0x80000000 t))
      (λ t. minus s at n 0xd3 8 refl refl g))))
