-- A well-formed text cut at an ASCII byte gives two well-formed texts. Assumes nothing.
use Prim.Native.Nat.{ℕ, ◌≤◌, ◌<◌}
use mathlib.Core.Bool.{true}
use mathlib.Core.List.{List, [], ◌∷◌, ◌++◌}
use mathlib.Core.Logic.{inl}
use mathlib.Core.Path.{◌≡◌, refl, sym, ap, ◌∙◌}
use native.Mathlib.Decide.{dec_lt}
use native.Mathlib.Omega.{arith}
use borrow.Author.Tests.{lt-ltb, ltb-true}
use lib.Dec.{ltb}
use lib.ListN.{length, drop}
use Rattle.seq.specs.Bytes.{byte_at}
use Rattle.seq.specs.Lists.{All, joined}
use Rattle.seq.proofs.Logic.{cond-case}
use Rattle.utf8.specs.Utf8.{well_formed}
use Rattle.utf8.specs.Table.{Scalar, encoding, Encoded}
use Rattle.utf8.proofs.Table.{utf8-table}

-- ---- a character's bytes: its own number in ASCII, and no byte of ASCII in any other
ascii-encoding : (n : ℕ) → n < 0x80 → encoding n ≡ n ∷ []
unfolding encoding
ascii-encoding n h = rw (lt-ltb n 0x80 h)

abbrev High : List ℕ → Type 0
High t = All (λ b. 0x80 ≤ b) t

high-encoding : (n : ℕ) → 0x80 ≤ n → High (encoding n)
unfolding encoding
high-encoding n h =
    cond-case High (ltb n 0x80) _ _ (λ t. absurd (let l = ltb-true n 0x80 t in omega arith))
    (λ t. cond-case High (ltb n 0x800) _ _ (λ t. (omega arith, (omega arith, tt)))
    (λ t. cond-case High (ltb n 0x10000) _ _ (λ t. (omega arith, (omega arith, (omega arith, tt))))
    (λ t. (omega arith, (omega arith, (omega arith, (omega arith, tt)))))))

-- ---- two ways to put a text together
module _ (x y : ℕ) (r u : List ℕ) (e : x ∷ r ≡ y ∷ u) where
  same_first : x ≡ y
  same_first = ap (λ (v : List ℕ). byte_at v 0) e

  same_rest : r ≡ u
  same_rest = ap (λ (v : List ℕ). drop 1 v) e

-- c is of ASCII
module _ (c : ℕ) (l : c < 0x80) (b : List ℕ) where
  -- it stands behind bytes that are not
  behind : (p r a : List ℕ) → High p → p ++ r ≡ a ++ (c ∷ b) → (d : List ℕ) × (a ≡ p ++ d) × (r ≡ d ++ (c ∷ b))
  behind [] r a h e = (a, refl, e)
  behind (x ∷ p) r [] h e = absurd (let q = same_first x c (p ++ r) b e in let g = h.0 in omega arith)
  behind (x ∷ p) r (y ∷ a) h e =
      let (d, f, g) = behind p r a h.1 (same_rest x y (p ++ r) (a ++ (c ∷ b)) e) in
      (d, ap (λ (z : ℕ). z ∷ a) (sym (same_first x y (p ++ r) (a ++ (c ∷ b)) e)) ∙ ap (λ (u : List ℕ). x ∷ u) f, g)

  -- behind a character of ASCII, where what follows it is cut
  ascii-cut : (d : ℕ) (r : List ℕ) → d < 0x80 → Encoded r → ((a : List ℕ) → r ≡ a ++ (c ∷ b) → Encoded a × Encoded b)
      → (a : List ℕ) → d ∷ r ≡ a ++ (c ∷ b) → Encoded a × Encoded b
  ascii-cut d r p (ds, ss, k) f [] e = (([], tt, refl), (ds, ss, sym (same_rest d c r b e) ∙ k))
  ascii-cut d r p g f (x ∷ a) e =
      let ((xs, sx, ex), eb) = f a (same_rest d x r (a ++ (c ∷ b)) e) in
      let q : x ∷ a ≡ encoding d ++ joined encoding xs =
      ap (λ (y : ℕ). y ∷ a) (sym (same_first d x r (a ++ (c ∷ b)) e)) ∙ ap (λ (v : List ℕ). d ∷ v) ex
      ∙ ap (λ (v : List ℕ). v ++ joined encoding xs) (sym (ascii-encoding d p)) in
      ((d ∷ xs, (inl (omega arith), sx), q), eb)

  encoded-cut : (cs : List ℕ) → All Scalar cs → (a : List ℕ) → joined encoding cs ≡ a ++ (c ∷ b) → Encoded a × Encoded b
  encoded-cut [] s [] e = absurd (let n = ap length e in omega arith)
  encoded-cut [] s (x ∷ a) e = absurd (let n = ap length e in omega arith)
  encoded-cut (d ∷ ds) (s, ss) a e = elim (dec_lt d 0x80) [
    | yes p ↦
        ascii-cut d (joined encoding ds) p (ds, ss, refl) (encoded-cut ds ss) a (ap (λ (u : List ℕ). u ++ joined encoding ds) (sym (ascii-encoding d p)) ∙ e)
    | no p ↦
        let (u, f, g) = behind (encoding d) (joined encoding ds) a (high-encoding d (omega arith)) e in
        let ((xs, sx, ex), eb) = encoded-cut ds ss u g in
        ((d ∷ xs, (s, sx), f ∙ ap (λ (v : List ℕ). encoding d ++ v) ex), eb)
  ]

  pub cut : (a : List ℕ) → well_formed (a ++ (c ∷ b)) ≡ true → (well_formed a ≡ true) × (well_formed b ≡ true)
  cut a h =
      let (cs, s, e) = (utf8-table (a ++ (c ∷ b))).0 h in
      let (x, y) = encoded-cut cs s a (sym e) in
      ((utf8-table a).1 x, (utf8-table b).1 y)
