-- Writing a text and undoing what was written. Assumes nothing.
use Prim.Native.Nat.{ℕ, ◌+◌, ◌*◌, ◌≤◌}
use Prim.Native.Char.{code}
use mathlib.Core.Path.{◌≡◌, refl, sym, ap, subst, ◌∙◌}
use mathlib.Core.Logic.{inl, inr}
use mathlib.Core.List.{List, [], ◌∷◌}
use mathlib.Core.Bool.{true, false}
use native.Mathlib.Omega.{arith}
use lib.ListN.{length}
use borrow.Author.Tests.{eqb-true, eqb-false}
use Rattle.seq.specs.Bytes.{is}
use Rattle.seq.specs.Lists.{All, tally}
use Rattle.seq.proofs.Logic.{split, or-false, or_right}
use Rattle.seq.proofs.Search.{bit-low}
use Rattle.lex.specs.Grammar.{Language, OneOf, ◌∪◌, Many, Unescaped, Escaped}
use Rattle.lex.proofs.Stands.{many-none, many_more}
use Rattle.utf8.specs.Table.{encoding}
use Rattle.strings.specs.Strings.{short, undone_after, undone, lone_after, has_lone, is_marked, escaped}
use Rattle.strings.proofs.Steps.{undone-plain, undone-short, lone-plain, lone-short}

-- a text, by its first byte: one that gets a backslash before it, or another
module _ (b : ℕ) (t : List ℕ) where
  pub escaped-marked : is_marked b ≡ true → escaped (b ∷ t) ≡ code "\\" ∷ b ∷ escaped t
  unfolding escaped
  escaped-marked h = rw h

  pub escaped-other : is_marked b ≡ false → escaped (b ∷ t) ≡ b ∷ escaped t
  unfolding escaped
  escaped-other h = rw h

-- the two bytes that get one
by-mark : (P : ℕ → Type 0) (b : ℕ) → is_marked b ≡ true → P (code "\"") → P (code "\\") → P b
by-mark P b h q s = split (is "\"" b)
    (λ e. subst P (sym (eqb-true b (code "\"") e)) q)
    (λ e. subst P (sym (eqb-true b (code "\\") (or_right (is "\"" b) (is "\\" b) h e))) s)

-- ---- it is undone to the text
module _ (t : List ℕ) where
  mark-undone : (b : ℕ) → is_marked b ≡ true → undone (code "\\" ∷ b ∷ t) ≡ b ∷ undone t
  unfolding encoding short
  mark-undone b h = by-mark (λ (b : ℕ). undone (code "\\" ∷ b ∷ t) ≡ b ∷ undone t) b h
      (undone-short (code "\"") t refl) (undone-short (code "\\") t refl)

  mark-lone : (b : ℕ) → is_marked b ≡ true → has_lone (code "\\" ∷ b ∷ t) ≡ has_lone t
  unfolding short
  mark-lone b h = by-mark (λ (b : ℕ). has_lone (code "\\" ∷ b ∷ t) ≡ has_lone t) b h
      (lone-short (code "\"") t refl) (lone-short (code "\\") t refl)

pub undone-escaped : (t : List ℕ) → undone (escaped t) ≡ t
unfolding undone_after escaped
undone-escaped [] = refl
undone-escaped (b ∷ t) = split (is_marked b)
    (λ h. ap undone (escaped-marked b t h) ∙ mark-undone (escaped t) b h ∙ ap (λ (u : List ℕ). b ∷ u) (undone-escaped t))
    (λ h. ap undone (escaped-other b t h) ∙ undone-plain b (escaped t) (or-false (is "\"" b) (is "\\" b) h).1
    ∙ ap (λ (u : List ℕ). b ∷ u) (undone-escaped t))

pub lone-escaped : (t : List ℕ) → has_lone (escaped t) ≡ false
unfolding lone_after escaped
lone-escaped [] = refl
lone-escaped (b ∷ t) = split (is_marked b)
    (λ h. ap has_lone (escaped-marked b t h) ∙ mark-lone (escaped t) b h ∙ lone-escaped t)
    (λ h. ap has_lone (escaped-other b t h) ∙ lone-plain b (escaped t) (or-false (is "\"" b) (is "\\" b) h).1 ∙ lone-escaped t)

-- ---- how long it is
pub escaped-length : (t : List ℕ) → length (escaped t) ≡ length t + tally is_marked t
unfolding escaped tally
escaped-length [] = refl
escaped-length (b ∷ t) =
    let e = escaped-length t in
    split (is_marked b)
    (λ h. ap length (escaped-marked b t h) ∙ rw h (omega arith))
    (λ h. ap length (escaped-other b t h) ∙ rw h (omega arith))

marked-few : (t : List ℕ) → tally is_marked t ≤ length t
unfolding tally
marked-few [] = omega arith
marked-few (b ∷ t) = let h = marked-few t in let l = bit-low (is_marked b) in omega arith

pub escaped-twice : (t : List ℕ) → length (escaped t) ≤ 2 * length t
escaped-twice t = let e = escaped-length t in let h = marked-few t in omega arith

pub escaped-plain : (t : List ℕ) → tally is_marked t ≡ 0 → escaped t ≡ t
unfolding escaped tally
escaped-plain [] e = refl
escaped-plain (b ∷ t) e = split (is_marked b)
    (λ h. let z : 1 + tally is_marked t ≡ 0 = rw h at e in absurd (omega arith))
    (λ h. escaped-other b t h ∙ ap (λ (u : List ℕ). b ∷ u) (escaped-plain t (let z : 0 + tally is_marked t ≡ 0 = rw h at e in omega arith)))

-- ---- between quotes it is a string
abbrev Character : Language
Character = Unescaped ∪ Escaped

mark-inside : (b : ℕ) → is_marked b ≡ true → Character (code "\\" ∷ b ∷ [])
mark-inside b h = inr (code "\\" ∷ [], b ∷ [], refl, refl, inl (by-mark (λ (b : ℕ). OneOf "\"\\/bfnrt" (b ∷ [])) b h (inl refl) (inr (inl refl))))

pub escaped-inside : (t : List ℕ) → All (λ b. 0x20 ≤ b) t → Many (Unescaped ∪ Escaped) (escaped t)
unfolding escaped
escaped-inside [] a = many-none Character
escaped-inside (b ∷ t) (l, a) = split (is_marked b)
    (λ h. subst (Many Character) (sym (escaped-marked b t h)) (many_more Character (code "\\" ∷ b ∷ []) (escaped t) (mark-inside b h) (escaped-inside t a)))
    (λ h.
    let (q, s) = or-false (is "\"" b) (is "\\" b) h in
    let c : Character (b ∷ []) = inl (b, (l, eqb-false b (code "\"") q, eqb-false b (code "\\") s), refl) in
    subst (Many Character) (sym (escaped-other b t h)) (many_more Character (b ∷ []) (escaped t) c (escaped-inside t a)))
