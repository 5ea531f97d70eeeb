-- What a string stands for, by what it spells (specs/Spelling.antt): the statements on undoing, for the page of the words. Assumes nothing.
use Prim.Native.Nat.{ℕ}
use Prim.Native.Char.{code}
use mathlib.Core.Path.{◌≡◌, refl, sym, ap, ◌∙◌}
use mathlib.Core.Logic.{◌⊎◌, inl, inr, ⊎_elim, ◌↔◌}
use mathlib.Core.List.{List, [], ◌∷◌, ◌++◌}
use mathlib.Core.Bool.{true, false, not}
use borrow.Author.Tests.{ne_eqb}
use Rattle.seq.specs.Bytes.{is}
use Rattle.seq.specs.Lists.{All, In, joined}
use Rattle.seq.proofs.Logic.{split, clash, or_right, or-given}
use Rattle.seq.proofs.Rules.{all_map, all-every}
use Rattle.lex.specs.Grammar.{Many, ◌∪◌, Unescaped, Escaped}
use Rattle.utf8.specs.Table.{Scalar, encoding, Encoded}
use Rattle.strings.specs.Strings.{is_half, low_at, undone_after, undone, lone_after, has_lone, escaped}
use Rattle.strings.specs.Spelling.{High, Half, Spells, InTurn, NoPair, SpellsAll}
use Rattle.strings.proofs.Steps.{range, within}
use Rattle.strings.proofs.Rows.{bytes_apart}
use Rattle.strings.proofs.Spelt.{codes, Taken, taken, low_first}
use Rattle.strings.proofs.Inside.{no-pair-rest, spells-some}
use Rattle.strings.proofs.Plain.{plain}
use Rattle.strings.proofs.Written.{undone-escaped}

-- no low half stands behind a high one that is taken alone
none-low : (c : ℕ) (cs r : List ℕ) → NoPair (c ∷ cs) → InTurn cs r → High c → low_at r 0 ≡ false
unfolding low_at
none-low c [] r h e g = ap (λ (u : List ℕ). low_at u 0) e
none-low c (d ∷ ds) r h (a, q, e, s, t) g = split (low_at (a ++ q) 0)
    (λ l. absurd (h.0 (g, low_first d a q l s)))
    (λ l. ap (λ (u : List ℕ). low_at u 0) e ∙ l)

first_taken : (c : ℕ) (cs a r : List ℕ) → NoPair (c ∷ cs) → InTurn cs r → Spells c a → Taken c a r
first_taken c cs a r h t s = taken c a r (none-low c cs r h t) s

spelled : (cs t : List ℕ) → NoPair cs → InTurn cs t → undone t ≡ joined encoding cs
unfolding undone_after
spelled [] t h e = ap undone e
spelled (c ∷ cs) t h (a, r, e, s, i) =
    ap undone e ∙ (first_taken c cs a r h i s).text ∙ ap (λ (u : List ℕ). encoding c ++ u) (spelled cs r (no-pair-rest c cs h) i)

-- ---- a half that stands alone
found : (cs t : List ℕ) → NoPair cs → InTurn cs t → has_lone t ≡ true → (c : ℕ) × In c cs × Half c
unfolding lone_after
found [] t h e l = clash l (ap has_lone e)
found (c ∷ cs) t h (a, r, e, s, i) l =
    let q = sym (ap has_lone e ∙ (first_taken c cs a r h i s).lone) ∙ l in
    split (is_half c)
    (λ k. (c, inl refl, range 0xd800 0xdfff c k))
    (λ k. let (d, m, n) = found cs r (no-pair-rest c cs h) i (or_right (is_half c) (has_lone r) q k) in (d, inr m, n))

stands : (cs t : List ℕ) → NoPair cs → InTurn cs t → (c : ℕ) → In c cs → Half c → has_lone t ≡ true
stands [] t h i c m l = absurd m
stands (d ∷ cs) t h (a, r, e, s, i) c m l =
    ap has_lone e ∙ (first_taken d cs a r h i s).lone
    ∙ or-given (is_half d) (has_lone r) λ n. ⊎_elim (λ k. clash (within 0xd800 0xdfff c l.0 l.1) (ap is_half k ∙ n)) (λ k. stands cs r (no-pair-rest d cs h) i c k l) m

-- ---- where none does, characters are spelled
all_codes : (cs t : List ℕ) → InTurn cs t → All (λ c. Scalar c ⊎ Half c) cs
all_codes [] t i = tt
all_codes (c ∷ cs) t (a, r, e, s, i) = (codes c a s, all_codes cs r i)

all-scalars : (cs : List ℕ) → All (λ c. Scalar c ⊎ Half c) cs → ((c : ℕ) → In c cs → Half c → ⊥) → All Scalar cs
all-scalars [] a n = tt
all-scalars (c ∷ cs) (h, a) n = (⊎_elim (λ s. s) (λ k. absurd (n c (inl refl) k)) h, all-scalars cs a λ d i. n d (inr i))

-- ---- the statements
pub record Undoing : Type 0 where
  -- a text is undone to the characters that it spells, in UTF-8; a half that stands alone counts as its own code
  pub spelled : (cs t : List ℕ) → SpellsAll cs t → undone t ≡ joined encoding cs
  pub same : (cs t u : List ℕ) → SpellsAll cs t → SpellsAll cs u → undone t ≡ undone u
  pub apart : (cs ds t u : List ℕ) → SpellsAll cs t → SpellsAll ds u → undone t ≡ undone u → cs ≡ ds
  pub lone : (cs t : List ℕ) → SpellsAll cs t → (has_lone t ≡ true) ↔ ((c : ℕ) × In c cs × Half c)
  -- characters and halves are spelled, and nothing else; and every string of a text in UTF-8 spells some
  pub codes : (cs t : List ℕ) → SpellsAll cs t → All (λ c. Scalar c ⊎ Half c) cs
  pub spelling : (t : List ℕ) → Many (Unescaped ∪ Escaped) t → Encoded t → (cs : List ℕ) × SpellsAll cs t
  pub utf8 : (t : List ℕ) → Many (Unescaped ∪ Escaped) t → Encoded t → has_lone t ≡ false → Encoded (undone t)
  -- a text without a backslash; a text that was written
  pub plain : (t : List ℕ) → All (λ b. ¬ (b ≡ code "\\")) t → undone t ≡ t
  pub written : (t : List ℕ) → undone (escaped t) ≡ t

pub undoing : Undoing
undoing = record {
  spelled = λ cs t (h, i). spelled cs t h i;
  same = λ cs t u (h, i) (k, j). spelled cs t h i ∙ sym (spelled cs u k j);
  apart = λ cs ds t u (h, i) (k, j) e. bytes_apart cs ds (sym (spelled cs t h i) ∙ e ∙ spelled ds u k j);
  lone = λ cs t (h, i). (found cs t h i, λ (c, m, l). stands cs t h i c m l);
  codes = λ cs t (h, i). all_codes cs t i;
  spelling = spells-some;
  utf8 = λ t i e l.
      let (cs, (h, k)) = spells-some t i e in
      (cs, all-scalars cs (all_codes cs t k) (λ c m n. clash (stands cs t h k c m n) l), spelled cs t h k);
  plain = λ t a. plain t (all-every (λ b. not (is "\\" b)) t (all_map (λ b. ¬ (b ≡ code "\\")) (λ b. not (is "\\" b) ≡ true) (λ b n. rw (ne_eqb b 92 n)) t a));
  written = undone-escaped;
}
