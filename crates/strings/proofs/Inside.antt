-- What stands between the quotes of a string, in UTF-8, spells characters and halves (specs/Spelling.antt). Assumes nothing.
use Prim.Native.Nat.{ℕ, zero, suc, ◌+◌, ◌*◌, ◌-◌, ◌≤◌, ◌<◌}
use Prim.Native.Char.{code}
use mathlib.Core.Path.{◌≡◌, refl, sym, ap, subst, ◌∙◌}
use mathlib.Core.Logic.{◌⊎◌, inl, inr, ⊎_elim}
use mathlib.Core.List.{List, [], ◌∷◌, ◌++◌, append_assoc}
use mathlib.Core.Bool.{cond, ◌&&◌}
use native.Mathlib.Decide.{dec_lt}
use native.Mathlib.Omega.{arith}
use lib.ListN.{length, drop, length-append}
use lib.Dec.{eqb, ltb}
use borrow.Author.Tests.{eqb-true, eqb-false, lt-ltb, le-ltb}
use Rattle.seq.specs.Bytes.{is, byte_at, chars}
use Rattle.seq.specs.Lists.{All, In, joined}
use Rattle.seq.proofs.Logic.{split, clash, and_left, and_right, and_both}
use Rattle.seq.proofs.Table.{at}
use Rattle.lex.specs.Grammar.{Language, OneOf, ◌∪◌, Many, Unescaped, Hex, Escaped}
use Rattle.utf8.specs.Table.{Scalar, encoding, Encoded}
use Rattle.strings.specs.Strings.{is_high, is_low}
use Rattle.strings.specs.Spelling.{High, Low, popular, InTwo, HexDigit, InSix, Spells, InTurn, NoPair, SpellsAll}
use Rattle.strings.proofs.Steps.{range, within}
use Rattle.strings.proofs.Rows.{by_row, encoding1, rows-high, some_bytes}
use Rattle.strings.proofs.Spelt.{passed, six_of, joins, popular-rows}

abbrev Inside : Language
Inside = Many (Unescaped ∪ Escaped)

-- ---- what begins with a byte
module _ (b c : ℕ) (r u : List ℕ) (e : b ∷ r ≡ c ∷ u) where
  same_first : b ≡ c
  same_first = ap (λ (v : List ℕ). byte_at v 0) e

  same_rest : r ≡ u
  same_rest = ap (λ (v : List ℕ). drop 1 v) e

not-empty : {A : Type 0} (b : ℕ) (r : List ℕ) → b ∷ r ≡ [] → A
not-empty b r e = let l = ap length e in absurd (omega arith)

-- between the quotes: a byte that is no backslash, or an escape
next-byte : (b : ℕ) (r : List ℕ) → ¬ (b ≡ code "\\") → Inside (b ∷ r) → (0x20 ≤ b) × ¬ (b ≡ code "\"") × Inside r
next-byte b r n ([], all, e) = not-empty b r e
next-byte b r n (p ∷ ps, (inl (c, (g, q, s), k), all), e) =
    let v = joined (λ (part : List ℕ). part) ps in
    let h : b ∷ r ≡ c ∷ v = e ∙ ap (λ (u : List ℕ). u ++ v) k in
    let f = same_first b c r v h in
    (subst (λ (m : ℕ). 0x20 ≤ m) (sym f) g, λ z. q (sym f ∙ z), (ps, all, same_rest b c r v h))
next-byte b r n (p ∷ ps, (inr (x, y, k, s, h), all), e) =
    let v = joined (λ (part : List ℕ). part) ps in
    let f : b ∷ r ≡ code "\\" ∷ (y ++ v) = e ∙ ap (λ (u : List ℕ). u ++ v) (k ∙ ap (λ (u : List ℕ). u ++ y) s) in
    absurd (n (same_first b (code "\\") r (y ++ v) f))

next-escape : (r : List ℕ) → Inside (code "\\" ∷ r) → (a v : List ℕ) × (code "\\" ∷ r ≡ a ++ v) × Escaped a × Inside v
next-escape r ([], all, e) = not-empty (code "\\") r e
next-escape r (p ∷ ps, (inl (c, (g, q, s), k), all), e) =
    let v = joined (λ (part : List ℕ). part) ps in
    absurd (s (sym (same_first (code "\\") c r v (e ∙ ap (λ (u : List ℕ). u ++ v) k))))
next-escape r (p ∷ ps, (inr h, all), e) = (p, joined (λ (part : List ℕ). part) ps, e, h, (ps, all, refl))

inside_past : (a r : List ℕ) → All (λ b. 0x80 ≤ b) a → Inside (a ++ r) → Inside r
inside_past [] r h i = i
inside_past (b ∷ a) r (g, h) i = let (l, q, j) = next-byte b (a ++ r) (λ e. omega arith) i in inside_past a r h j

-- ---- in UTF-8: an ASCII byte is a character
high-first : (c : ℕ) (r : List ℕ) → 0x80 ≤ c → 0x80 ≤ byte_at (encoding c ++ r) 0
high-first c r g = by_row c (λ u. 0x80 ≤ byte_at (u ++ r) 0) (λ p. absurd (omega arith)) (λ g p. omega arith) (λ g p. omega arith) (λ g. omega arith)

encoded-rest : (b : ℕ) (t : List ℕ) → b < 0x80 → Encoded (b ∷ t) → Encoded t
encoded-rest b t h ([], a, e) = not-empty b t e
encoded-rest b t h (c ∷ cs, (s, a), e) = elim (dec_lt c 0x80) [
  | yes p ↦ (cs, a, same_rest b c t (joined encoding cs) (e ∙ ap (λ (u : List ℕ). u ++ joined encoding cs) (encoding1 c p)))
  | no p ↦
      let f : b ≡ byte_at (encoding c ++ joined encoding cs) 0 = ap (λ (u : List ℕ). byte_at u 0) e in
      let l = high-first c (joined encoding cs) (omega arith) in
      absurd (omega arith)
]

encoded-past : (a r : List ℕ) → All (λ b. b < 0x80) a → Encoded (a ++ r) → Encoded r
encoded-past [] r h i = i
encoded-past (b ∷ a) r (g, h) i = encoded-past a r h (encoded-rest b (a ++ r) g i)

-- ---- an escape's text
-- the digits' bytes by their numbers
module _ (n : ℕ) (l : n < 16) where
  upper : byte_at (chars "0123456789ABCDEF") n ≡ cond (ltb n 10) (48 + n) (55 + n)
  upper = eqb-true _ _ (passed _ (at (λ k b. eqb b (cond (ltb k 10) (48 + k) (55 + k))) (chars "0123456789ABCDEF") tt n l))

  lower : byte_at (chars "0123456789abcdef") n ≡ cond (ltb n 10) (48 + n) (87 + n)
  lower = eqb-true _ _ (passed _ (at (λ k b. eqb b (cond (ltb k 10) (48 + k) (87 + k))) (chars "0123456789abcdef") tt n l))

hex-spells : (t : List ℕ) → Hex t → (n w : ℕ) × (t ≡ w ∷ []) × (w < 0x80) × HexDigit n t
hex-spells t (inl (b, (g, h), e)) =
    let k : byte_at (chars "0123456789ABCDEF") (b - 48) ≡ b = upper (b - 48) (omega arith) ∙ rw (lt-ltb (b - 48) 10 (omega arith)) (omega arith) in
    (b - 48, b, e, omega arith, (omega arith, inl (e ∙ ap (λ (x : ℕ). x ∷ []) (sym k))))
hex-spells t (inr (inl (b, (g, h), e))) =
    let k : byte_at (chars "0123456789ABCDEF") (b - 55) ≡ b = upper (b - 55) (omega arith) ∙ rw (le-ltb (b - 55) 10 (omega arith)) (omega arith) in
    (b - 55, b, e, omega arith, (omega arith, inl (e ∙ ap (λ (x : ℕ). x ∷ []) (sym k))))
hex-spells t (inr (inr (b, (g, h), e))) =
    let k : byte_at (chars "0123456789abcdef") (b - 87) ≡ b = lower (b - 87) (omega arith) ∙ rw (le-ltb (b - 87) 10 (omega arith)) (omega arith) in
    (b - 87, b, e, omega arith, (omega arith, inr (e ∙ ap (λ (x : ℕ). x ∷ []) (sym k))))

two-spells : (t : List ℕ) → OneOf "\"\\/bfnrt" t → (b c : ℕ) × (t ≡ b ∷ []) × (b < 0x80) × In (b, c) popular
two-spells t (inl e) = (_, _, e, omega arith, inl refl)
two-spells t (inr (inl e)) = (_, _, e, omega arith, inr (inl refl))
two-spells t (inr (inr (inl e))) = (_, _, e, omega arith, inr (inr (inl refl)))
two-spells t (inr (inr (inr (inl e)))) = (_, _, e, omega arith, inr (inr (inr (inl refl))))
two-spells t (inr (inr (inr (inr (inl e))))) = (_, _, e, omega arith, inr (inr (inr (inr (inl refl)))))
two-spells t (inr (inr (inr (inr (inr (inl e)))))) = (_, _, e, omega arith, inr (inr (inr (inr (inr (inl refl))))))
two-spells t (inr (inr (inr (inr (inr (inr (inl e))))))) = (_, _, e, omega arith, inr (inr (inr (inr (inr (inr (inl refl)))))))
two-spells t (inr (inr (inr (inr (inr (inr (inr (inl e)))))))) = (_, _, e, omega arith, inr (inr (inr (inr (inr (inr (inr (inl refl))))))))
two-spells t (inr (inr (inr (inr (inr (inr (inr (inr n)))))))) = elim n [ ]

record Escape (a : List ℕ) : Type 0 where
  pub some : 1 ≤ length a
  pub ascii : All (λ b. b < 0x80) a
  pub spells : ((c : ℕ) × InTwo c a) ⊎ ((c : ℕ) × InSix c a)

escape-spells : (a : List ℕ) → Escaped a → Escape a
escape-spells a (x, y, e, s, inl h) =
    let (b, c, k, l, i) = two-spells y h in
    let f : a ≡ code "\\" ∷ b ∷ [] = joins a x y (b ∷ []) (code "\\") e s k in
    subst Escape (sym f) (record { some = omega arith; ascii = (omega arith, (l, tt)); spells = inl (c, (b, i, refl)) })
escape-spells a (x, y, e, s, inr (u, v, k, su, (a₃, b₃, e₃, h₃, (a₂, b₂, e₂, h₂, (a₁, b₁, e₁, h₁, h₀))))) =
    let (n₃, w₃, p₃, l₃, q₃) = hex-spells a₃ h₃ in
    let (n₂, w₂, p₂, l₂, q₂) = hex-spells a₂ h₂ in
    let (n₁, w₁, p₁, l₁, q₁) = hex-spells a₁ h₁ in
    let (n₀, w₀, p₀, l₀, q₀) = hex-spells b₁ h₀ in
    let d = joins v a₃ b₃ (w₂ ∷ w₁ ∷ w₀ ∷ []) w₃ e₃ p₃ (joins b₃ a₂ b₂ (w₁ ∷ w₀ ∷ []) w₂ e₂ p₂ (joins b₂ a₁ b₁ (w₀ ∷ []) w₁ e₁ p₁ p₀)) in
    let f : a ≡ code "\\" ∷ code "u" ∷ v = joins a x y (code "u" ∷ v) (code "\\") e s (joins y u v v (code "u") k su refl) in
    let g : a ≡ six_of w₃ w₂ w₁ w₀ [] = f ∙ ap (λ (t : List ℕ). code "\\" ∷ code "u" ∷ t) d in
    record {
      some = let l = ap length g in omega arith;
      ascii = subst (All (λ b. b < 0x80)) (sym g) (omega arith, (omega arith, (l₃, (l₂, (l₁, (l₀, tt))))));
      spells = inr (_, (n₃, n₂, n₁, n₀, refl, (chars "\\u", v, f, refl, (a₃, b₃, e₃, q₃, (a₂, b₂, e₂, q₂, (a₁, b₁, e₁, q₁, q₀))))));
    }

-- ---- what is spelled behind a character
pub no-pair-rest : (c : ℕ) (cs : List ℕ) → NoPair (c ∷ cs) → NoPair cs
no-pair-rest c [] h = tt
no-pair-rest c (d ∷ ds) h = h.1

no-pair-more : (c : ℕ) (cs : List ℕ) → ¬ (High c) → NoPair cs → NoPair (c ∷ cs)
no-pair-more c [] n h = tt
no-pair-more c (d ∷ ds) n h = (λ p. n p.0, h)

abbrev SpellsSome : Language
SpellsSome t = (cs : List ℕ) × SpellsAll cs t

spells-more : (c : ℕ) (a r : List ℕ) → ¬ (High c) → Spells c a → SpellsSome r → SpellsSome (a ++ r)
spells-more c a r n s (cs, (h, i)) = (c ∷ cs, (no-pair-more c cs n h, (a, r, refl, s, i)))

not-high : (c : ℕ) → Scalar c → ¬ (High c)
not-high c (inl h) k = omega arith
not-high c (inr h) k = omega arith

-- a low half is spelled in six bytes alone
low-six : (c : ℕ) (a : List ℕ) → Low c → Spells c a → InSix c a
low-six c a l (inl h) = ⊎_elim (λ k. absurd (omega arith)) (λ k. absurd (omega arith)) h.0
low-six c a l (inr (inl (b, i, e))) = let h = (popular-rows b c i).ascii in absurd (omega arith)
low-six c a l (inr (inr (inl h))) = h
low-six c a l (inr (inr (inr (h, m, p, q, e, r)))) = absurd (omega arith)

-- a high half before it makes a pair of the two
module _ (c d : ℕ) (a u : List ℕ) (p : High c) (q : Low d) where
  abbrev paired : ℕ
  paired = 0x10000 + (c - 0xd800) * 0x400 + (d - 0xdc00)

  pair-spells : InSix c a → InSix d u → Spells paired (a ++ u)
  pair-spells x y =
      let k : c ≡ 0xd800 + (c - 0xd800) = omega arith in
      let m : d ≡ 0xdc00 + (d - 0xdc00) = omega arith in
      let x' = subst (λ (n : ℕ). InSix n a) k x in
      let y' = subst (λ (n : ℕ). InSix n u) m y in
      inr (inr (inr (c - 0xd800, d - 0xdc00, omega arith, omega arith, refl, (a, u, refl, x', y'))))

  spells-pair : (ds v : List ℕ) → InSix c a → Spells d u → NoPair (d ∷ ds) → InTurn ds v → SpellsSome (a ++ (u ++ v))
  spells-pair ds v x s h i =
      let n : ¬ (High paired) = λ k. omega arith in
      subst SpellsSome (append_assoc a u v)
      (spells-more paired (a ++ u) v n (pair-spells x (low-six d u q s)) (ds, (no-pair-rest d ds h, i)))

spells-six : (c : ℕ) (a r : List ℕ) → InSix c a → SpellsSome r → SpellsSome (a ++ r)
spells-six c a r x ([], (h, i)) = (c ∷ [], (tt, (a, r, refl, inr (inr (inl x)), i)))
spells-six c a r x (d ∷ ds, (h, (u, v, e, s, i))) =
    split (is_high c && is_low d)
    (λ k.
    let p = range 0xd800 0xdbff c (and_left (is_high c) (is_low d) k) in
    let q = range 0xdc00 0xdfff d (and_right (is_high c) (is_low d) k) in
    subst (λ (w : List ℕ). SpellsSome (a ++ w)) (sym e) (spells-pair c d a u p q ds v x s h i))
    (λ k.
    let n : ¬ (High c × Low d) = λ z.
    clash (and_both (within 0xd800 0xdbff c z.0.0 z.0.1) (within 0xdc00 0xdfff d z.1.0 z.1.1)) k in
    (c ∷ d ∷ ds, ((n, h), (a, r, refl, inr (inr (inl x)), (u, v, e, s, i)))))

-- ---- a character as itself, and an escape
itself : (c : ℕ) (r : List ℕ) → Scalar c → ¬ (c ≡ code "\\") → Inside (encoding c ++ r) → Spells c (encoding c) × Inside r
itself c r s n i = elim (dec_lt c 0x80) [
  | yes p ↦
      let (g, q, j) = next-byte c r n (subst (λ (u : List ℕ). Inside (u ++ r)) (encoding1 c p) i) in
      (inl (s, g, q, n, refl), j)
  | no p ↦ (inl (s, omega arith, (λ e. omega arith), n, refl), inside_past (encoding c) r (rows-high c (omega arith)) i)
]

escape-more : (a r : List ℕ) → Escape a → SpellsSome r → SpellsSome (a ++ r)
escape-more a r x = ⊎_elim
    (λ (c, h). spells-more c a r (λ k. let l = (popular-rows h.0 c h.1).ascii in omega arith) (inr (inl h)))
    (λ (c, h). spells-six c a r h)
    x.spells

-- k bounds the length, since a character leaves what is past its bytes
spells-within : (k : ℕ) (t : List ℕ) → length t ≤ k → Inside t → Encoded t → SpellsSome t
spells-within zero [] l i e = ([], (tt, refl))
spells-within zero (b ∷ t) l i e = absurd (omega arith)
spells-within (suc k) t l i ([], a, e) = ([], (tt, e))
spells-within (suc k) t l i (c ∷ cs, (s, a), e) =
    let r = joined encoding cs in
    let m = some_bytes c in
    let o = ap length e ∙ length-append (encoding c) r in
    split (is "\\" c)
    (λ y.
    let g = eqb-true c 92 y in
    let f : t ≡ code "\\" ∷ r = e ∙ ap (λ (u : List ℕ). u ++ r) (encoding1 c (omega arith) ∙ ap (λ (n : ℕ). n ∷ []) g) in
    let (p, v, q, x, j) = next-escape r (subst Inside f i) in
    let z = escape-spells p x in
    let h : t ≡ p ++ v = f ∙ q in
    let n = z.some in
    let w = ap length h ∙ length-append p v in
    subst SpellsSome (sym h)
    (escape-more p v z (spells-within k v (omega arith) j (encoded-past p v z.ascii (subst Encoded h (c ∷ cs, (s, a), e))))))
    (λ y.
    let n = eqb-false c 92 y in
    let (x, j) = itself c r s n (subst Inside e i) in
    subst SpellsSome (sym e) (spells-more c (encoding c) r (not-high c s) x (spells-within k r (omega arith) j (cs, a, refl))))

pub spells-some : (t : List ℕ) → Many (Unescaped ∪ Escaped) t → Encoded t → (cs : List ℕ) × SpellsAll cs t
spells-some t i e = spells-within (length t) t (omega arith) i e
