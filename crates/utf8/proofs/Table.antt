-- A text is well-formed exactly if its bytes are those that RFC 3629's table gives for a list of characters. Assumes nothing.
use Rattle.std.specs.Prelude.{Some, None}
use Prim.Native.Nat.{ℕ, zero, suc, ◌+◌, ◌-◌, ◌*◌, ◌/◌, ◌%◌, ◌≤◌, ◌<◌}
use mathlib.Core.Path.{◌≡◌, refl, sym, ap, ap₂, ◌∙◌}
use mathlib.Core.List.{List, [], ◌∷◌, ◌++◌}
use mathlib.Core.Bool.{true, false}
use mathlib.Core.Logic.{inl, inr, ◌↔◌}
use native.Mathlib.Decide.{dec_le, dec_lt}
use native.Mathlib.Omega.{arith}
use lib.ListN.{length}
use borrow.Author.Tests.{lt-ltb, le-ltb, eqb-true}
use Rattle.seq.specs.Lists.{joined, All}
use Rattle.seq.proofs.Logic.{clash}
use Rattle.utf8.specs.declared.Want.{Want}
use Rattle.utf8.specs.Utf8.{want, lead, step, continues, start, well_formed}
use Rattle.utf8.specs.Table.{Scalar, encoding}
use Rattle.utf8.proofs.Laws.{lead1, lead-tail, lead2, lead3a, lead3b, lead3c, lead3d, lead4a, lead4b, lead4c, lead4d, step-lead, step-low, step-high}
use Rattle.utf8.proofs.Laws.{step-tail}

-- ---- the table's rows
module _ (n : ℕ) where
  encoding1 : n < 0x80 → encoding n ≡ n ∷ []
  unfolding encoding
  encoding1 h = rw (lt-ltb n 0x80 h)

  encoding2 : 0x80 ≤ n → n < 0x800 → encoding n ≡ (0xc0 + n / 64) ∷ (0x80 + n % 64) ∷ []
  unfolding encoding
  encoding2 g h = rw (le-ltb n 0x80 g, lt-ltb n 0x800 h)

  encoding3 : 0x800 ≤ n → n < 0x10000 → encoding n ≡ (0xe0 + n / 4096) ∷ (0x80 + n / 64 % 64) ∷ (0x80 + n % 64) ∷ []
  unfolding encoding
  encoding3 g h = rw (le-ltb n 0x80 (omega arith), le-ltb n 0x800 g, lt-ltb n 0x10000 h)

  encoding4 : 0x10000 ≤ n
      → encoding n ≡ (0xf0 + n / 262144) ∷ (0x80 + n / 4096 % 64) ∷ (0x80 + n / 64 % 64) ∷ (0x80 + n % 64) ∷ []
  unfolding encoding
  encoding4 g = rw (le-ltb n 0x80 (omega arith), le-ltb n 0x800 (omega arith), le-ltb n 0x10000 g)

-- ---- the automaton takes the bytes of a character, and stands as at the start
-- UTF8-tail, n of them
abbrev tails : ℕ → Want
tails n = record { n = n; lo = 0x80; hi = 0xbf }

module _ (b : ℕ) (r : List ℕ) where
  begun : (w : Want) → lead b ≡ Some w → continues start (b ∷ r) ≡ continues w r
  unfolding continues
  begun w e = rw (step-lead start b refl, e)

  passed : (w : Want) → (w.n ≡ 0 → ⊥) → w.lo ≤ b → b ≤ w.hi → continues w (b ∷ r) ≡ continues (tails (w.n - 1)) r
  unfolding continues
  passed w p g h = rw (step-tail w b p g h)

module _ (b lo hi : ℕ) (r : List ℕ) (x : ℕ) (g : lo ≤ x) (h : x ≤ hi) where
  two : lead b ≡ want 1 lo hi → continues start (b ∷ x ∷ r) ≡ continues start r
  two e = begun b (x ∷ r) (record { n = 1; lo = lo; hi = hi }) e ∙ passed x r (record { n = 1; lo = lo; hi = hi }) (λ z. omega arith) g h

  module _ (y : ℕ) (gy : 0x80 ≤ y) (hy : y ≤ 0xbf) where
    three : lead b ≡ want 2 lo hi → continues start (b ∷ x ∷ y ∷ r) ≡ continues start r
    three e =
        begun b (x ∷ y ∷ r) (record { n = 2; lo = lo; hi = hi }) e
        ∙ passed x (y ∷ r) (record { n = 2; lo = lo; hi = hi }) (λ z. omega arith) g h
        ∙ passed y r (tails 1) (λ z. omega arith) gy hy

    four : (z : ℕ) → 0x80 ≤ z → z ≤ 0xbf → lead b ≡ want 3 lo hi → continues start (b ∷ x ∷ y ∷ z ∷ r) ≡ continues start r
    four z gz hz e =
        begun b (x ∷ y ∷ z ∷ r) (record { n = 3; lo = lo; hi = hi }) e
        ∙ passed x (y ∷ z ∷ r) (record { n = 3; lo = lo; hi = hi }) (λ z. omega arith) g h
        ∙ passed y (z ∷ r) (tails 2) (λ z. omega arith) gy hy
        ∙ passed z r (tails 1) (λ z. omega arith) gz hz

module _ (c : ℕ) (r : List ℕ) where
  taken3 : (lo hi : ℕ) → 0x800 ≤ c → c < 0x10000 → lo ≤ 0x80 + c / 64 % 64 → 0x80 + c / 64 % 64 ≤ hi → lead (0xe0 + c / 4096) ≡ want 2 lo hi
      → continues start (encoding c ++ r) ≡ continues start r
  taken3 lo hi g h k l e =
      rw (encoding3 c g h) (three (0xe0 + c / 4096) lo hi r (0x80 + c / 64 % 64) k l (0x80 + c % 64) (omega arith) (omega arith) e)

  taken4 : (lo hi : ℕ) → 0x10000 ≤ c → lo ≤ 0x80 + c / 4096 % 64 → 0x80 + c / 4096 % 64 ≤ hi → lead (0xf0 + c / 262144) ≡ want 3 lo hi
      → continues start (encoding c ++ r) ≡ continues start r
  taken4 lo hi g k l e = rw (encoding4 c g) (four (0xf0 + c / 262144) lo hi r (0x80 + c / 4096 % 64) k l
      (0x80 + c / 64 % 64) (omega arith) (omega arith) (0x80 + c % 64) (omega arith) (omega arith) e)

  -- a character below hex D800, by the row that its first byte stands in; and one above DFFF
  taken-low : c < 0xd800 → continues start (encoding c ++ r) ≡ continues start r
  taken-low h = elim (dec_lt c 0x80) [
    | yes p ↦ rw (encoding1 c p) (begun c r start (lead1 c p))
    | no p ↦ elim (dec_lt c 0x800) [
      | yes q ↦ rw (encoding2 c (omega arith) q) (two (0xc0 + c / 64) 0x80 0xbf r (0x80 + c % 64) (omega arith) (omega arith)
          (lead2 (0xc0 + c / 64) (omega arith) (omega arith) (omega arith)))
      | no q ↦ elim (dec_lt c 0x1000) [
        | yes s ↦ taken3 0xa0 0xbf (omega arith) (omega arith) (omega arith) (omega arith) (lead3a (0xe0 + c / 4096) (omega arith) (omega arith))
        | no s ↦ elim (dec_lt c 0xd000) [
          | yes t ↦ taken3 0x80 0xbf (omega arith) (omega arith) (omega arith) (omega arith) (lead3b (0xe0 + c / 4096) (omega arith) (omega arith) (omega arith))
          | no t ↦ taken3 0x80 0x9f (omega arith) (omega arith) (omega arith) (omega arith) (lead3c (0xe0 + c / 4096) (omega arith) (omega arith) (omega arith))
        ]
      ]
    ]
  ]

  taken-high : 0xdfff < c → c ≤ 0x10ffff → continues start (encoding c ++ r) ≡ continues start r
  taken-high g h = elim (dec_lt c 0x10000) [
    | yes p ↦ taken3 0x80 0xbf (omega arith) p (omega arith) (omega arith) (lead3d (0xe0 + c / 4096) (omega arith) (omega arith) (omega arith))
    | no p ↦ elim (dec_lt c 0x40000) [
      | yes q ↦ taken4 0x90 0xbf (omega arith) (omega arith) (omega arith) (lead4a (0xf0 + c / 262144) (omega arith) (omega arith))
      | no q ↦ elim (dec_lt c 0x100000) [
        | yes s ↦ taken4 0x80 0xbf (omega arith) (omega arith) (omega arith) (lead4b (0xf0 + c / 262144) (omega arith) (omega arith) (omega arith))
        | no s ↦ taken4 0x80 0x8f (omega arith) (omega arith) (omega arith) (lead4c (0xf0 + c / 262144) (omega arith) (omega arith) (omega arith))
      ]
    ]
  ]

  taken : Scalar c → continues start (encoding c ++ r) ≡ continues start r
  taken (inl h) = taken-low h
  taken (inr h) = taken-high h.0 h.1

-- ---- what the automaton takes begins with the bytes of a character
pub record Begins (s : List ℕ) : Type 0 where
  pub code : ℕ
  pub scalar : Scalar code
  pub rest : List ℕ
  pub is : s ≡ encoding code ++ rest
  pub shorter : length rest < length s

refused : (w : Want) (b : ℕ) (r : List ℕ) → step w b ≡ None → continues w (b ∷ r) ≡ false
unfolding continues
refused w b r e = rw e

-- a byte that is wanted is there, and stands from lo to hi
wanted : (P : List ℕ → Type 0) (w : Want) (s : List ℕ) → (w.n ≡ 0 → ⊥) → continues w s ≡ true
    → ((x : ℕ) (r : List ℕ) → w.lo ≤ x → x ≤ w.hi → continues (tails (w.n - 1)) r ≡ true → P (x ∷ r)) → P s
unfolding continues
wanted P w [] p e f = absurd (p (eqb-true w.n 0 e))
wanted P w (b ∷ r) p e f = elim (dec_le w.lo b) [
  | yes g ↦ elim (dec_le b w.hi) [
    | yes h ↦ f b r g h (sym (passed b r w p g h) ∙ e)
    | no h ↦ clash e (refused w b r (step-high w b p g (omega arith)))
  ]
  | no g ↦ clash e (refused w b r (step-low w b p (omega arith)))
]

-- the character of two bytes, of three and of four
module _ (b x : ℕ) (r : List ℕ) (g : 0x80 ≤ x) (h : x ≤ 0xbf) where
  character2 : 0xc2 ≤ b → b < 0xe0 → Begins (b ∷ x ∷ r)
  character2 k l =
      let c : ℕ = (b - 0xc0) * 64 + (x - 0x80) in
      let is : encoding c ≡ b ∷ x ∷ [] = encoding2 c (omega arith) (omega arith) ∙ ap₂ (λ m n. m ∷ n ∷ []) (omega arith) (omega arith) in
      record { code = c; scalar = inl (omega arith); rest = r; is = rw is; shorter = omega arith }

  module _ (y : ℕ) (gy : 0x80 ≤ y) (hy : y ≤ 0xbf) where
    abbrev code3 : ℕ
    code3 = (b - 0xe0) * 4096 + (x - 0x80) * 64 + (y - 0x80)

    character3 : 0xe0 ≤ b → b < 0xf0 → 0x800 ≤ code3 → Scalar code3 → Begins (b ∷ x ∷ y ∷ r)
    character3 k l m n =
        let p : 0xe0 + code3 / 4096 ≡ b = omega arith in
        let q : 0x80 + code3 / 64 % 64 ≡ x = omega arith in
        let s : 0x80 + code3 % 64 ≡ y = omega arith in
        record { code = code3; scalar = n; rest = r; is = rw (encoding3 code3 m (omega arith), p, q, s); shorter = omega arith }

    module _ (z : ℕ) (gz : 0x80 ≤ z) (hz : z ≤ 0xbf) where
      abbrev code4 : ℕ
      code4 = (b - 0xf0) * 262144 + (x - 0x80) * 4096 + (y - 0x80) * 64 + (z - 0x80)

      character4 : 0xf0 ≤ b → b < 0xf5 → 0x10000 ≤ code4 → code4 ≤ 0x10ffff → Begins (b ∷ x ∷ y ∷ z ∷ r)
      character4 k l m n =
          let p : 0xf0 + code4 / 262144 ≡ b = omega arith in
          let q : 0x80 + code4 / 4096 % 64 ≡ x = omega arith in
          let s : 0x80 + code4 / 64 % 64 ≡ y = omega arith in
          let t : 0x80 + code4 % 64 ≡ z = omega arith in
          record { code = code4; scalar = inr (omega arith, n); rest = r; is = rw (encoding4 code4 m, p, q, s, t); shorter = omega arith }

-- a text that is taken, by what its first byte wants
module _ (b lo hi : ℕ) (s : List ℕ) (t : continues start (b ∷ s) ≡ true) where
  begins2 : lead b ≡ want 1 lo hi → ((x : ℕ) (r : List ℕ) → lo ≤ x → x ≤ hi → Begins (b ∷ x ∷ r)) → Begins (b ∷ s)
  begins2 e f =
      wanted (λ l. Begins (b ∷ l)) (record { n = 1; lo = lo; hi = hi }) s (λ z. omega arith) (sym (begun b s _ e) ∙ t) λ x r g h u. f x r g h

  begins3 : lead b ≡ want 2 lo hi
      → ((x y : ℕ) (r : List ℕ) → lo ≤ x → x ≤ hi → 0x80 ≤ y → y ≤ 0xbf → Begins (b ∷ x ∷ y ∷ r)) → Begins (b ∷ s)
  begins3 e f =
      wanted (λ l. Begins (b ∷ l)) (record { n = 2; lo = lo; hi = hi }) s (λ z. omega arith) (sym (begun b s _ e) ∙ t) λ x r g h u.
      wanted (λ l. Begins (b ∷ x ∷ l)) (tails 1) r (λ z. omega arith) u λ y r gy hy u. f x y r g h gy hy

  begins4 : lead b ≡ want 3 lo hi
      → ((x y z : ℕ) (r : List ℕ) → lo ≤ x → x ≤ hi → 0x80 ≤ y → y ≤ 0xbf → 0x80 ≤ z → z ≤ 0xbf → Begins (b ∷ x ∷ y ∷ z ∷ r)) → Begins (b ∷ s)
  begins4 e f =
      wanted (λ l. Begins (b ∷ l)) (record { n = 3; lo = lo; hi = hi }) s (λ z. omega arith) (sym (begun b s _ e) ∙ t) λ x r g h u.
      wanted (λ l. Begins (b ∷ x ∷ l)) (tails 2) r (λ z. omega arith) u λ y r gy hy u.
      wanted (λ l. Begins (b ∷ x ∷ y ∷ l)) (tails 1) r (λ z. omega arith) u λ z r gz hz u. f x y z r g h gy hy gz hz

-- the rows of first bytes: two bytes, three in four rows, four in three rows
module _ (b : ℕ) (s : List ℕ) (t : continues start (b ∷ s) ≡ true) where
  begins-short : b < 0xe0 → Begins (b ∷ s)
  begins-short h = elim (dec_lt b 0x80) [
    | yes p ↦ record { code = b; scalar = inl (omega arith); rest = s; is = rw (encoding1 b p); shorter = omega arith }
    | no p ↦ elim (dec_lt b 0xc2) [
      | yes q ↦ clash t (refused start b s (step-lead start b refl ∙ lead-tail b (omega arith) q))
      | no q ↦ begins2 b 0x80 0xbf s t (lead2 b (omega arith) (omega arith) h) λ x r k l. character2 b x r k l (omega arith) h
    ]
  ]

  begins-three : 0xe0 ≤ b → b < 0xf0 → Begins (b ∷ s)
  begins-three g h = elim (dec_lt b 0xe1) [
    | yes p ↦ begins3 b 0xa0 0xbf s t (lead3a b g p) λ x y r k l m n. character3 b x r (omega arith) l y m n g h (omega arith) (inl (omega arith))
    | no p ↦ elim (dec_lt b 0xed) [
      | yes q ↦ begins3 b 0x80 0xbf s t (lead3b b g (omega arith) q) λ x y r k l m n. character3 b x r k l y m n g h (omega arith) (inl (omega arith))
      | no q ↦ elim (dec_lt b 0xee) [
        | yes u ↦ begins3 b 0x80 0x9f s t (lead3c b g (omega arith) u)
            λ x y r k l m n. character3 b x r k (omega arith) y m n g h (omega arith) (inl (omega arith))
        | no u ↦ begins3 b 0x80 0xbf s t (lead3d b g (omega arith) h)
            λ x y r k l m n. character3 b x r k l y m n g h (omega arith) (inr (omega arith, omega arith))
      ]
    ]
  ]

  begins-four : 0xf0 ≤ b → Begins (b ∷ s)
  begins-four g = elim (dec_lt b 0xf1) [
    | yes p ↦ begins4 b 0x90 0xbf s t (lead4a b g p)
        λ x y z r k l m n o q. character4 b x r (omega arith) l y m n z o q g (omega arith) (omega arith) (omega arith)
    | no p ↦ elim (dec_lt b 0xf4) [
      | yes u ↦ begins4 b 0x80 0xbf s t (lead4b b g (omega arith) u)
          λ x y z r k l m n o q. character4 b x r k l y m n z o q g (omega arith) (omega arith) (omega arith)
      | no u ↦ elim (dec_lt b 0xf5) [
        | yes v ↦ begins4 b 0x80 0x8f s t (lead4c b g (omega arith) v)
            λ x y z r k l m n o q. character4 b x r k (omega arith) y m n z o q g v (omega arith) (omega arith)
        | no v ↦ clash t (refused start b s (step-lead start b refl ∙ lead4d b g (omega arith)))
      ]
    ]
  ]

  begins : Begins (b ∷ s)
  begins = elim (dec_lt b 0xe0) [
    | yes p ↦ begins-short p
    | no p ↦ elim (dec_lt b 0xf0) [ yes q ↦ begins-three (omega arith) q | no q ↦ begins-four (omega arith) ]
  ]

-- ---- whole texts
abbrev Encoded : List ℕ → Type 0
Encoded s = (cs : List ℕ) × All Scalar cs × (s ≡ joined encoding cs)

encoded-taken : (cs : List ℕ) → All Scalar cs → well_formed (joined encoding cs) ≡ true
unfolding continues
encoded-taken [] a = refl
encoded-taken (c ∷ cs) a = taken c (joined encoding cs) a.0 ∙ encoded-taken cs a.1

-- k bounds the length, since a character leaves what is past its bytes
taken-encoded : (k : ℕ) (s : List ℕ) → length s ≤ k → well_formed s ≡ true → Encoded s
taken-encoded zero [] l t = ([], tt, refl)
taken-encoded zero (b ∷ s) l t = absurd (omega arith)
taken-encoded (suc k) [] l t = ([], tt, refl)
taken-encoded (suc k) (b ∷ s) l t =
    let c = begins b s t in
    let m = c.shorter in
    let e = taken-encoded k c.rest (omega arith) (sym (taken c.code c.rest c.scalar) ∙ ap well_formed (sym c.is) ∙ t) in
    (c.code ∷ e.0, (c.scalar, e.1), c.is ∙ ap (λ r. encoding c.code ++ r) e.2)

pub utf8-table : (s : List ℕ) → well_formed s ≡ true ↔ ((cs : List ℕ) × All Scalar cs × (s ≡ joined encoding cs))
utf8-table s = (taken-encoded (length s) s (omega arith), λ e. ap well_formed e.2 ∙ encoded-taken e.0 e.1)
