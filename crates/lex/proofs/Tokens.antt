-- White space and what stands between items (RFC 8259, sections 2, 4 and 5), as sets of texts; and that each token of specs/Lex.antt is that of
-- specs/Grammar.antt. Assumes nothing.
use Rattle.std.specs.Prelude.{Some}
use mathlib.Core.Path.{◌≡◌, refl, sym, ap, ◌∙◌}
use mathlib.Core.Logic.{◌↔◌}
use Prim.Native.Nat.{ℕ, ◌+◌, ◌<◌}
use mathlib.Core.List.{List, [], ◌∷◌, ◌++◌, append-nil}
use mathlib.Core.Bool.{true, false}
use native.Mathlib.Nat.{zero-add}
use native.Mathlib.Omega.{arith}
use lib.ListN.{length, drop}
use lib.Dec.{eqb}
use borrow.Author.Tests.{eqb-true, ne_eqb, eq-eqb}
use Rattle.seq.specs.Bytes.{is, byte_at}
use Rattle.seq.proofs.Logic.{split}
use Rattle.lex.specs.declared.Mark.{Mark}
use Rattle.lex.specs.declared.Mark.TheVariants.{Item, End, Neither}
use Rattle.lex.specs.Lex.{is_space, space, number, quoted, first, next, colon}
use Rattle.lex.specs.Grammar.{OneOf, Ws, Number, String}
use Rattle.lex.proofs.Stands.{reads_all, Tests, tests-sign, tests-or, tests-last, past-found, past_is, stands-byte, to_same, to-bad}
pub use Rattle.lex.proofs.Stands.{Reads, stands-next, stands_at, stands_parts}
pub use Rattle.lex.proofs.Numbers.{Ends, number-head, number-found, number_is}
pub use Rattle.lex.proofs.Strings.{string-head, quoted-found, quoted-is}

-- ---- white space
-- none stands first
abbrev pub NoSpace : List ℕ → Type 0
NoSpace r = is_space (byte_at r 0) ≡ false

blank : Tests is_space (OneOf " \t\n\r")
blank = tests-or (tests-sign " ") (tests-or (tests-sign "\t") (tests-or (tests-sign "\n") (tests-last "\r")))

pub space-found : (s : List ℕ) (i : ℕ) → (x : Reads Ws s i (space s i)) × NoSpace x.rest
space-found s i = past-found blank refl s i

pub space-is : (s : List ℕ) (i : ℕ) (w r : List ℕ) → drop i s ≡ w ++ r → Ws w → NoSpace r → space s i ≡ i + length w
space-is s i w r h g n = past_is blank refl s i w r h g n

-- ---- marks: white space w, and the byte after it
module _ (s : List ℕ) (i : ℕ) (w r : List ℕ) (h : drop i s ≡ w ++ r) (g : Ws w) (n : NoSpace r) where
  after-space : (space s i ≡ i + length w) × (byte_at s (i + length w) ≡ byte_at r 0)
  after-space = (space-is s i w r h g n, stands-byte s (i + length w) r (stands-next s i w r h))

module _ (c : ℕ) (s : List ℕ) (i : ℕ) (w r : List ℕ) where
  pub first-end : is_space c ≡ false → drop i s ≡ w ++ (c ∷ r) → Ws w → first c s i ≡ End (i + length w + 1)
  unfolding first
  first-end n h g = let (p, q) = after-space s i w (c ∷ r) h g n in rw (p, q, eq-eqb c c refl)

  pub first-item : drop i s ≡ w ++ r → Ws w → NoSpace r → ¬ (byte_at r 0 ≡ c) → first c s i ≡ Item (i + length w)
  unfolding first
  first-item h g n k = let (p, q) = after-space s i w r h g n in rw (p, q, ne_eqb (byte_at r 0) c k)

  pub next-end : is_space c ≡ false → drop i s ≡ w ++ (c ∷ r) → Ws w → next c s i ≡ End (i + length w + 1)
  unfolding next
  next-end n h g = let (p, q) = after-space s i w (c ∷ r) h g n in rw (p, q, eq-eqb c c refl)

-- a sign, with white space on both sides
between-spaces : (s : List ℕ) (i b : ℕ) (w v r : List ℕ) → is_space b ≡ false → drop i s ≡ w ++ (b ∷ (v ++ r)) → Ws w → Ws v → NoSpace r
    → (space s i ≡ i + length w) × (byte_at s (i + length w) ≡ b) × (space s (i + length w + 1) ≡ i + length w + 1 + length v)
between-spaces s i b w v r k h g f n =
    let (p, q) = after-space s i w (b ∷ (v ++ r)) h g k in
    (p, q, space-is s (i + length w + 1) v r (stands-next s (i + length w) (b ∷ []) (v ++ r) (stands-next s i w (b ∷ (v ++ r)) h)) f n)

pub next-item : (c : ℕ) (s : List ℕ) (i : ℕ) (w v r : List ℕ) → ¬ (c ≡ 44) → drop i s ≡ w ++ (44 ∷ (v ++ r)) → Ws w → Ws v → NoSpace r
    → next c s i ≡ Item (i + length w + 1 + length v)
unfolding next
next-item c s i w v r k h g f n = let (p, q, z) = between-spaces s i 44 w v r refl h g f n in rw (p, q, z, ne_eqb 44 c (λ e. k (sym e)))

pub colon-is : (s : List ℕ) (i : ℕ) (w v r : List ℕ) → drop i s ≡ w ++ (58 ∷ (v ++ r)) → Ws w → Ws v → NoSpace r
    → colon s i ≡ Some (i + length w + 1 + length v)
unfolding colon
colon-is s i w v r h g f n = let (p, q, z) = between-spaces s i 58 w v r refl h g f n in rw (p, q, z)

-- ---- and back
end_same : {x : Mark} {a b : ℕ} → x ≡ End a → x ≡ End b → a ≡ b
end_same p q = cc

item-same : {x : Mark} {a b : ℕ} → x ≡ Item a → x ≡ Item b → a ≡ b
item-same p q = cc

end-item : {A : Type 0} {x : Mark} {a b : ℕ} → x ≡ End a → x ≡ Item b → A
end-item p q = let z : ◌≡◌ {A = ℕ} 0 1 = cc in absurd (omega arith)

end-neither : {A : Type 0} {x : Mark} {a : ℕ} → x ≡ End a → x ≡ Neither → A
end-neither p q = let z : ◌≡◌ {A = ℕ} 0 1 = cc in absurd (omega arith)

item-neither : {A : Type 0} {x : Mark} {a : ℕ} → x ≡ Item a → x ≡ Neither → A
item-neither p q = let z : ◌≡◌ {A = ℕ} 0 1 = cc in absurd (omega arith)

-- a byte that stands first
stands-first : (r : List ℕ) (b : ℕ) → 0 < b → byte_at r 0 ≡ b → (u : List ℕ) × (r ≡ b ∷ u)
stands-first [] b l e = absurd (omega arith)
stands-first (x ∷ u) b l e = (u, ap (λ (y : ℕ). y ∷ u) e)

-- a byte past white space, and one with white space on both sides
met : (s : List ℕ) (i b : ℕ) → 0 < b → byte_at s (space s i) ≡ b
    → (w r : List ℕ) × (drop i s ≡ w ++ (b ∷ r)) × Ws w × (space s i ≡ i + length w) × (drop (space s i + 1) s ≡ r)
met s i b l e =
    let x = (space-found s i).0 in
    let st : drop (space s i) s ≡ x.rest = ap (λ (j : ℕ). drop j s) x.ends ∙ stands-next s i x.text x.rest x.stands in
    let (u, q) = stands-first x.rest b l (sym (stands-byte s (space s i) x.rest st) ∙ e) in
    (x.text, u, x.stands ∙ ap (λ (v : List ℕ). x.text ++ v) q, x.good, x.ends, stands-next s (space s i) (b ∷ []) u (st ∙ q))

met-between : (s : List ℕ) (i a b : ℕ) → 0 < b → byte_at s (space s i) ≡ b → space s (space s i + 1) ≡ a
    → (w v r : List ℕ) × (drop i s ≡ w ++ (b ∷ (v ++ r))) × Ws w × Ws v × (a ≡ i + length w + 1 + length v)
met-between s i a b l e h =
    let (w, u, st, g, p, k) = met s i b l e in
    let y = (space-found s (space s i + 1)).0 in
    let q : space s (space s i + 1) ≡ space s i + 1 + length y.text = y.ends in
    (w, y.text, y.rest, st ∙ ap (λ (x : List ℕ). w ++ (b ∷ x)) (sym k ∙ y.stands), g, y.good, omega arith)

module _ (c : ℕ) (s : List ℕ) (i e : ℕ) where
  abbrev Closed : Type 0
  Closed = (w r : List ℕ) × (drop i s ≡ w ++ (c ∷ r)) × Ws w × (e ≡ i + length w + 1)

  closed : 0 < c → eqb (byte_at s (space s i)) c ≡ true → space s i + 1 ≡ e → Closed
  closed l t h =
      let (w, r, st, g, p, k) = met s i c l (eqb-true (byte_at s (space s i)) c t) in
      (w, r, st, g, omega arith)

  pub first_ended : 0 < c → first c s i ≡ End e → (w r : List ℕ) × (drop i s ≡ w ++ (c ∷ r)) × Ws w × (e ≡ i + length w + 1)
  unfolding first
  first_ended l h = split (eqb (byte_at s (space s i)) c) (λ t. closed l t (end_same refl (rw t at h))) (λ t. end-item (rw t at h) refl)

  pub first-went : first c s i ≡ Item e → Reads Ws s i e
  unfolding first
  first-went h = split (eqb (byte_at s (space s i)) c)
      (λ t. end-item refl (rw t at h))
      (λ t. rw (item-same refl (rw t at h)) at (space-found s i).0)

  pub next-ended : 0 < c → next c s i ≡ End e → (w r : List ℕ) × (drop i s ≡ w ++ (c ∷ r)) × Ws w × (e ≡ i + length w + 1)
  unfolding next
  next-ended l h = split (eqb (byte_at s (space s i)) c)
      (λ t. closed l t (end_same refl (rw t at h)))
      (λ t. split (is "," (byte_at s (space s i))) (λ k. end-item (rw (t, k) at h) refl) (λ k. end-neither (rw (t, k) at h) refl))

  pub next-went : next c s i ≡ Item e → (w v r : List ℕ) × (drop i s ≡ w ++ (44 ∷ (v ++ r))) × Ws w × Ws v × (e ≡ i + length w + 1 + length v)
  unfolding next
  next-went h = split (eqb (byte_at s (space s i)) c)
      (λ t. end-item refl (rw t at h))
      (λ t. split (is "," (byte_at s (space s i)))
      (λ k. met-between s i e 44 (omega arith) (eqb-true (byte_at s (space s i)) 44 k) (item-same refl (rw (t, k) at h)))
      (λ k. item-neither (rw (t, k) at h) refl))

pub colon-went : (s : List ℕ) (i a : ℕ) → colon s i ≡ Some a
    → (w v r : List ℕ) × (drop i s ≡ w ++ (58 ∷ (v ++ r))) × Ws w × Ws v × (a ≡ i + length w + 1 + length v)
unfolding colon
colon-went s i a h = split (is ":" (byte_at s (space s i)))
    (λ t. met-between s i a 58 (omega arith) (eqb-true (byte_at s (space s i)) 58 t) (to_same refl (rw t at h)))
    (λ t. to-bad (rw t at h) refl)

-- ---- the statements: a token is read from the start of a text to its end exactly if the text is one
pub record Tokens : Type 0 where
  pub space : (t : List ℕ) → (space t 0 ≡ length t) ↔ Ws t
  pub number : (t : List ℕ) → (number t 0 ≡ Some (length t)) ↔ Number t
  pub string : (t : List ℕ) → (quoted t 0 ≡ Some (length t)) ↔ String t

pub tokens : Tokens
tokens = record {
  space = λ t. (λ h. reads_all (rw h at (space-found t 0).0), λ g. space-is t 0 t [] (sym (append-nil t)) g refl ∙ zero-add (length t));
  number = λ t. (
    λ h. reads_all (number-found t 0 (length t) h),
    λ g. number_is t 0 t [] (sym (append-nil t)) g (refl, refl, refl, refl) ∙ ap Some (zero-add (length t)),
  );
  string = λ t. (λ h. reads_all (quoted-found t 0 (length t) h), λ g. quoted-is t 0 t [] (sym (append-nil t)) g ∙ ap Some (zero-add (length t)));
}
