-- Laws of specs/Strings.antt: a character at the head of a text, and what is behind it. Assumes nothing.
use Prim.Native.Nat.{ℕ, zero, suc, ◌+◌, ◌-◌, ◌≤◌}
use Prim.Native.Char.{code}
use mathlib.Core.Path.{◌≡◌, refl, sym, ap, subst, ◌∙◌}
use mathlib.Core.List.{List, [], ◌∷◌, ◌++◌}
use mathlib.Core.Bool.{Bool, true, false, ◌||◌, ◌&&◌}
use native.Mathlib.Omega.{arith}
use lib.ListN.{drop}
use lib.Dec.{leb}
use borrow.Author.Tests.{leb-true, le-leb}
use Rattle.seq.specs.Bytes.{is, between, is_digit, byte_at}
use Rattle.seq.proofs.Bytes.{digit-bounds}
use Rattle.seq.proofs.Logic.{split, and_left, and_right, and_both}
use Rattle.utf8.specs.Table.{encoding}
use Rattle.strings.specs.declared.Character.{Character}
use Rattle.strings.specs.Strings.{digit, unit, is_high, is_low, is_half, pair, low_at, short, spelled, escape, undone_after, undone, lone_after, has_lone}

-- ---- the escape at the head of a text
pub range : (a b n : ℕ) → (leb a n && leb n b) ≡ true → (a ≤ n) × (n ≤ b)
range a b n h = (leb-true a n (and_left (leb a n) (leb n b) h), leb-true n b (and_right (leb a n) (leb n b) h))

pub within : (a b n : ℕ) → a ≤ n → n ≤ b → (leb a n && leb n b) ≡ true
within a b n g h = and_both (le-leb a n g) (le-leb n b h)

pub digit-small : (b : ℕ) → digit b ≤ 15
unfolding digit
digit-small b = split (is_digit b)
    (λ d. let l = digit-bounds b d in rw d (omega arith))
    (λ d. split (between "A" "F" b)
    (λ u. let l = range 65 70 b u in rw (d, u) (omega arith))
    (λ u. split (between "a" "f" b)
    (λ w. let l = range 97 102 b w in rw (d, u, w) (omega arith))
    (λ w. rw (d, u, w) (omega arith))))

pub unit-small : (t : List ℕ) (at : ℕ) → unit t at ≤ 0xffff
unfolding unit
unit-small t at =
    let a = digit-small (byte_at t at) in
    let b = digit-small (byte_at t (at + 1)) in
    let c = digit-small (byte_at t (at + 2)) in
    let d = digit-small (byte_at t (at + 3)) in
    omega arith

pub short-small : (b : ℕ) → b ≤ 0xff → short b ≤ 0xff
unfolding short
short-small b h = split (is "b" b) (λ e. rw e (omega arith)) (λ e. split (is "f" b) (λ f. rw (e, f) (omega arith))
    (λ f. split (is "n" b) (λ n. rw (e, f, n) (omega arith)) (λ n. split (is "r" b) (λ r. rw (e, f, n, r) (omega arith))
    (λ r. split (is "t" b) (λ t. rw (e, f, n, r, t) (omega arith)) (λ t. rw (e, f, n, r, t) h)))))

-- a pair stands at the head of a text
abbrev pub paired : List ℕ → Bool
paired t = is_high (unit t 2) && low_at t 6

pub escape-short : (t : List ℕ) → is "u" (byte_at t 1) ≡ false → escape t ≡ spelled (short (byte_at t 1)) 2
unfolding escape
escape-short t h = rw h

module _ (t : List ℕ) (h : is "u" (byte_at t 1) ≡ true) where
  pub escape-unit : paired t ≡ false → escape t ≡ spelled (unit t 2) 6
  unfolding escape
  escape-unit p = rw (h, p)

  pub escape-pair : paired t ≡ true → escape t ≡ spelled (pair (unit t 2) (unit t 8)) 12
  unfolding escape
  escape-pair p = rw (h, p)

-- what a pair's tests say
pub record Paired (t : List ℕ) : Type 0 where
  pub high : (0xd800 ≤ unit t 2) × (unit t 2 ≤ 0xdbff)
  pub again : (is "\\" (byte_at t 6) ≡ true) × (is "u" (byte_at t 7) ≡ true)
  pub low : (0xdc00 ≤ unit t 8) × (unit t 8 ≤ 0xdfff)

pub pair-tests : (t : List ℕ) → paired t ≡ true → Paired t
unfolding low_at
pair-tests t h =
    let l = and_right (is_high (unit t 2)) (low_at t 6) h in
    let r = and_right (is "\\" (byte_at t 6)) (is "u" (byte_at t 7) && is_low (unit t 8)) l in
    record {
      high = range 0xd800 0xdbff (unit t 2) (and_left (is_high (unit t 2)) (low_at t 6) h);
      again = (and_left (is "\\" (byte_at t 6)) (is "u" (byte_at t 7) && is_low (unit t 8)) l, and_left (is "u" (byte_at t 7)) (is_low (unit t 8)) r);
      low = range 0xdc00 0xdfff (unit t 8) (and_right (is "u" (byte_at t 7)) (is_low (unit t 8)) r);
    }

-- by its three kinds
pub by_kind : (P : Character → Type 0) (t : List ℕ)
    → (is "u" (byte_at t 1) ≡ false → P (spelled (short (byte_at t 1)) 2))
    → (is "u" (byte_at t 1) ≡ true → paired t ≡ false → P (spelled (unit t 2) 6))
    → (is "u" (byte_at t 1) ≡ true → paired t ≡ true → P (spelled (pair (unit t 2) (unit t 8)) 12))
    → P (escape t)
by_kind P t f g h = split (is "u" (byte_at t 1))
    (λ u. split (paired t) (λ p. subst P (sym (escape-pair t u p)) (h u p)) (λ p. subst P (sym (escape-unit t u p)) (g u p)))
    (λ u. subst P (sym (escape-short t u)) (f u))

pub escape-len : (t : List ℕ) → 2 ≤ (escape t).len
escape-len t = by_kind (λ (c : Character). 2 ≤ c.len) t (λ u. omega arith) (λ u p. omega arith) (λ u p. omega arith)

-- in a list of bytes; `\\` and another byte stand for that byte
pub code-small : (t : List ℕ) → byte_at t 1 ≤ 0xff → (escape t).code ≤ 0x10ffff
code-small t h = by_kind (λ (c : Character). c.code ≤ 0x10ffff) t
    (λ u. let l = short-small (byte_at t 1) h in omega arith)
    (λ u p. let l = unit-small t 2 in omega arith)
    (λ u p.
    let q = pair-tests t p in
    let high = q.high.1 in
    let low = q.low.1 in
    omega arith)

-- behind its first byte stand one byte fewer
behind : (b : ℕ) (t : List ℕ) (n : ℕ) → 2 ≤ n → drop (n - 1) t ≡ drop n (b ∷ t)
behind b t n h = ap (λ (k : ℕ). drop k (b ∷ t)) (let e : suc (n - 1) ≡ n = omega arith in e)

-- ---- the text
pub undone-after : (n : ℕ) (t : List ℕ) → undone_after n t ≡ undone (drop n t)
unfolding undone_after
undone-after zero t = refl
undone-after (suc n) [] = refl
undone-after (suc n) (b ∷ t) = undone-after n t

pub undone-plain : (b : ℕ) (t : List ℕ) → is "\\" b ≡ false → undone (b ∷ t) ≡ b ∷ undone t
unfolding undone_after
undone-plain b t h = rw h

undone-begun : (b : ℕ) (t : List ℕ) → is "\\" b ≡ true
    → undone (b ∷ t) ≡ encoding (escape (b ∷ t)).code ++ undone_after ((escape (b ∷ t)).len - 1) t
unfolding undone_after
undone-begun b t h = rw h

pub undone-escape : (b : ℕ) (t : List ℕ) → is "\\" b ≡ true
    → undone (b ∷ t) ≡ encoding (escape (b ∷ t)).code ++ undone (drop (escape (b ∷ t)).len (b ∷ t))
undone-escape b t h =
    undone-begun b t h ∙ ap (λ (u : List ℕ). encoding (escape (b ∷ t)).code ++ u)
    (undone-after ((escape (b ∷ t)).len - 1) t ∙ ap undone (behind b t (escape (b ∷ t)).len (escape-len (b ∷ t))))

-- ---- halves in no pair
pub lone-after : (n : ℕ) (t : List ℕ) → lone_after n t ≡ has_lone (drop n t)
unfolding lone_after
lone-after zero t = refl
lone-after (suc n) [] = refl
lone-after (suc n) (b ∷ t) = lone-after n t

pub lone-plain : (b : ℕ) (t : List ℕ) → is "\\" b ≡ false → has_lone (b ∷ t) ≡ has_lone t
unfolding lone_after
lone-plain b t h = rw h

lone-begun : (b : ℕ) (t : List ℕ) → is "\\" b ≡ true
    → has_lone (b ∷ t) ≡ (is_half (escape (b ∷ t)).code || lone_after ((escape (b ∷ t)).len - 1) t)
unfolding lone_after
lone-begun b t h = rw h

pub lone-escape : (b : ℕ) (t : List ℕ) → is "\\" b ≡ true
    → has_lone (b ∷ t) ≡ (is_half (escape (b ∷ t)).code || has_lone (drop (escape (b ∷ t)).len (b ∷ t)))
lone-escape b t h =
    lone-begun b t h ∙ ap (λ (u : Bool). is_half (escape (b ∷ t)).code || u)
    (lone-after ((escape (b ∷ t)).len - 1) t ∙ ap has_lone (behind b t (escape (b ∷ t)).len (escape-len (b ∷ t))))

-- ---- characters by their kinds, and the text behind them
module _ (b : ℕ) (t : List ℕ) (h : is "u" b ≡ false) where
  pub undone-short : undone (code "\\" ∷ b ∷ t) ≡ encoding (short b) ++ undone t
  undone-short = undone-escape (code "\\") (b ∷ t) refl ∙ rw (escape-short (code "\\" ∷ b ∷ t) h)

  pub lone-short : has_lone (code "\\" ∷ b ∷ t) ≡ (is_half (short b) || has_lone t)
  lone-short = lone-escape (code "\\") (b ∷ t) refl ∙ rw (escape-short (code "\\" ∷ b ∷ t) h)
