-- The text is no longer than its spelling; and written, it is no longer than a string that it came from. Assumes nothing.
use Prim.Native.Nat.{ℕ, zero, suc, ◌+◌, ◌≤◌, ◌<◌}
use mathlib.Core.Path.{◌≡◌, refl, sym, ap, subst, ◌∙◌}
use mathlib.Core.Logic.{inl, inr}
use mathlib.Core.List.{List, [], ◌∷◌, ◌++◌}
use mathlib.Core.Bool.{false}
use native.Mathlib.Decide.{dec_le, dec_lt}
use native.Mathlib.Omega.{arith}
use lib.ListN.{length, drop, length-append, length-drop, get_or-eq_default}
use borrow.Author.Tests.{eqb-true, ne_eqb}
use Rattle.seq.specs.Bytes.{is, byte_at}
use Rattle.seq.specs.Lists.{All, joined}
use Rattle.seq.proofs.Bytes.{byte-in}
use Rattle.seq.proofs.Logic.{split}
use Rattle.seq.proofs.Rules.{all_map}
use Rattle.seq.proofs.Search.{tally-missed}
use Rattle.lex.specs.Grammar.{Many, ◌∪◌, Unescaped, Escaped}
use Rattle.utf8.specs.Table.{encoding, Encoded}
use Rattle.strings.specs.declared.Character.{Character}
use Rattle.strings.specs.Strings.{digit, unit, short, escape, undone_after, undone, is_marked, escaped}
use Rattle.strings.specs.Spelling.{AsItself, Spells, InTurn}
use Rattle.strings.proofs.Steps.{unit-small, short-small, Paired, pair-tests, by_kind, escape-len, undone-plain, undone-escape}
use Rattle.strings.proofs.Rows.{encoding1, row1-length, row2-length, row3-length, row4-length, rows-high}
use Rattle.strings.proofs.Written.{escaped-twice, escaped-plain}
use Rattle.strings.proofs.Spelt.{six-text, four-small, popular-rows}
use Rattle.strings.proofs.Spelling.{undoing}

-- digits that are not there count 0
unit-cut : (t : List ℕ) → length t ≤ 2 → unit t 2 ≡ 0
unfolding unit digit
unit-cut t h = rw (
  get_or-eq_default t 0 {n = 2} h,
  get_or-eq_default t 0 {n = 3} (omega arith),
  get_or-eq_default t 0 {n = 4} (omega arith),
  get_or-eq_default t 0 {n = 5} (omega arith),
)

short_cut : (t : List ℕ) → length t ≤ 1 → short (byte_at t 1) ≡ 0
unfolding short
short_cut t h = rw (get_or-eq_default t 0 {n = 1} h)

-- an escape is no shorter than its character
abbrev Fits : List ℕ → Character → Type 0
Fits t c = (length (encoding c.code) ≤ c.len) × (length (encoding c.code) ≤ length t)

module _ (t : List ℕ) (h : 1 ≤ length t) where
  short-fits : byte_at t 1 < 256 → Fits t (record { code = short (byte_at t 1); len = 2 })
  short-fits k = elim (dec_le (length t) 1) [
    | yes l ↦
        let e = short_cut t l in
        let m = row1-length (short (byte_at t 1)) (omega arith) in
        (omega arith, omega arith)
    | no l ↦
        let s = short-small (byte_at t 1) (omega arith) in
        let m = row2-length (short (byte_at t 1)) (omega arith) in
        (omega arith, omega arith)
  ]

  unit-fits : Fits t (record { code = unit t 2; len = 6 })
  unit-fits = elim (dec_le (length t) 2) [
    | yes l ↦
        let e = unit-cut t l in
        let m = row1-length (unit t 2) (omega arith) in
        (omega arith, omega arith)
    | no l ↦
        let s = unit-small t 2 in
        let m = row3-length (unit t 2) (omega arith) in
        (omega arith, omega arith)
  ]

  pair_fits : (n : ℕ) → Paired t → Fits t (record { code = n; len = 12 })
  pair_fits n p =
      let m = row4-length n in
      let e = eqb-true (byte_at t 7) 117 p.again.1 in
      let l = byte-in t 7 (omega arith) in
      (omega arith, omega arith)

  fits : byte_at t 1 < 256 → Fits t (escape t)
  fits k = by_kind (Fits t) t (λ u. short-fits k) (λ u p. unit-fits) (λ u p. pair_fits _ (pair-tests t p))

all_drop : (P : ℕ → Type 0) (n : ℕ) (t : List ℕ) → All P t → All P (drop n t)
all_drop P zero t a = a
all_drop P (suc n) [] a = tt
all_drop P (suc n) (b ∷ t) a = all_drop P n t a.1

second : (t : List ℕ) → All (λ b. b < 256) t → byte_at t 1 < 256
second [] a = omega arith
second (b ∷ []) a = omega arith
second (b ∷ (c ∷ t)) a = a.1.0

-- k bounds the length, since an escape leaves what is past its bytes
shorter : (k : ℕ) (t : List ℕ) → length t ≤ k → All (λ b. b < 256) t → length (undone t) ≤ length t
unfolding undone_after
shorter zero [] l a = omega arith
shorter zero (b ∷ t) l a = absurd (omega arith)
shorter (suc k) [] l a = omega arith
shorter (suc k) (b ∷ t) l a = split (is "\\" b)
    (λ h.
    let u = b ∷ t in
    let n = (escape u).len in
    let r = drop n u in
    let e = ap length (undone-escape b t h) ∙ length-append (encoding (escape u).code) (undone r) in
    let (f, g) = fits u (omega arith) (second u a) in
    let d = length-drop n u in
    let m = escape-len u in
    let i = shorter k r (omega arith) (all_drop (λ b. b < 256) n u a) in
    omega arith)
    (λ h. let e = ap length (undone-plain b t h) in let i = shorter k t (omega arith) a.1 in omega arith)

pub undone-shorter : (t : List ℕ) → All (λ b. b < 256) t → length (undone t) ≤ length t
undone-shorter t a = shorter (length t) t (omega arith) a

-- ---- undone and written again, a string's text is no longer than it was
escaped-append : (a b : List ℕ) → escaped (a ++ b) ≡ escaped a ++ escaped b
unfolding escaped
escaped-append [] b = refl
escaped-append (x ∷ a) b = split (is_marked x)
    (λ h. rw h (ap (λ (u : List ℕ). 92 ∷ x ∷ u) (escaped-append a b)))
    (λ h. rw h (ap (λ (u : List ℕ). x ∷ u) (escaped-append a b)))

module _ (c : ℕ) (a : List ℕ) where
  itself-fits : AsItself c a → length (escaped (encoding c)) ≤ length a
  itself-fits (s, g, q, n, e) =
      let none : (b : ℕ) → ¬ (b ≡ 34) → ¬ (b ≡ 92) → is_marked b ≡ false = λ b p q. rw (ne_eqb b 34 p, ne_eqb b 92 q) in
      let all : All (λ b. is_marked b ≡ false) (encoding c) = elim (dec_lt c 0x80) [
        | yes p ↦ subst (All (λ b. is_marked b ≡ false)) (sym (encoding1 c p)) (none c q n, tt)
        | no p ↦ all_map (λ b. 0x80 ≤ b) (λ b. is_marked b ≡ false) (λ b h. none b (λ k. omega arith) (λ k. omega arith)) (encoding c)
            (rows-high c (omega arith))
      ] in
      let l = ap length (escaped-plain (encoding c) (tally-missed is_marked (encoding c) all)) in
      let k = ap length e in
      omega arith

  char-fits : Spells c a → length (escaped (encoding c)) ≤ length a
  char-fits (inl h) = itself-fits h
  char-fits (inr (inl (b, i, e))) =
      let l = row1-length c (popular-rows b c i).ascii in
      let m = escaped-twice (encoding c) in
      let k = ap length e in
      omega arith
  char-fits (inr (inr (inl h))) =
      let (w, x, y, z, e, n) = six-text c a h in
      let s = four-small w x y z [] in
      let l = row3-length c (omega arith) in
      let m = escaped-twice (encoding c) in
      let k = ap length e in
      omega arith
  char-fits (inr (inr (inr (h, i, lh, li, n, (a₁, a₂, e, s₁, s₂))))) =
      let (w, x, y, z, e₁, n₁) = six-text (0xd800 + h) a₁ s₁ in
      let l = row4-length c in
      let m = escaped-twice (encoding c) in
      let k = ap length e ∙ length-append a₁ a₂ in
      let k₁ = ap length e₁ in
      let (w', x', y', z', e₂, n₂) = six-text (0xdc00 + i) a₂ s₂ in
      let k₂ = ap length e₂ in
      omega arith

turn-fits : (cs t : List ℕ) → InTurn cs t → length (escaped (joined encoding cs)) ≤ length t
unfolding escaped
turn-fits [] t e = omega arith
turn-fits (c ∷ cs) t (a, r, e, s, i) =
    let l = ap length (escaped-append (encoding c) (joined encoding cs)) ∙ length-append (escaped (encoding c)) (escaped (joined encoding cs)) in
    let k = ap length e ∙ length-append a r in
    let m = char-fits c a s in
    let n = turn-fits cs r i in
    omega arith

pub escaped-undone : (t : List ℕ) → Many (Unescaped ∪ Escaped) t → Encoded t → length (escaped (undone t)) ≤ length t
escaped-undone t i e =
    let (cs, s) = undoing.spelling t i e in
    let k = ap (λ (u : List ℕ). length (escaped u)) (undoing.spelled cs t s) in
    let l = turn-fits cs t s.1 in
    omega arith
