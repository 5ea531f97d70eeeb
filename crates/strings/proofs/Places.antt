-- Laws of specs/Places.antt: one turn of the loops that go through a text byte by byte. Assumes nothing.
use Prim.Native.Nat.{ℕ, zero, suc, ◌+◌, ◌*◌, ◌-◌, ◌%◌, ◌≤◌, ◌<◌}
use mathlib.Core.Path.{◌≡◌, refl, sym, ap, ◌∙◌}
use mathlib.Core.Logic.{inr, ⊎_elim}
use mathlib.Core.List.{List, [], ◌∷◌, ◌++◌, append-nil}
use mathlib.Core.Bool.{true, false, not, cond, ◌&&◌, ◌||◌}
use native.Mathlib.Decide.{dec_le}
use native.Mathlib.Numerals.{add-one}
use native.Mathlib.Omega.{arith}
use borrow.Author.Tests.{eq-eqb, ne_eqb, eqb-true, eqb-false, le-leb, lt-leb}
use lib.Dec.{eqb, leb, ltb, leb-suc-zero, leb-suc-suc, eqb-zero-suc, eqb-suc-suc}
use lib.ListN.{length, take, drop, get_or, set, length-drop, drop_of_length-le}
use lib.Seq.{drop-nil, drop-cons, drop-drop, drop_at, take_all, take-length, take_at, length-take-le, get_or-take, take-suc-set, append_snoc}
use Rattle.std.specs.List.{prefix_len, zip}
use Rattle.seq.specs.Bytes.{is, byte_at, part, same}
use Rattle.seq.proofs.Logic.{split, clash}
use Rattle.utf8.specs.Table.{encoding}
use Rattle.strings.specs.declared.Character.{Character}
use Rattle.strings.specs.Strings.{is_half, escape, undone_after, undone, lone_after, has_lone}
use Rattle.strings.specs.Places.{rest, Within, most_kept, kept, alike, mark_from}
use Rattle.strings.proofs.Steps.{undone-plain, undone-escape, lone-plain, lone-escape}

-- ---- parts
pub part-rest : (t : List ℕ) (at : ℕ) → part at (length t) t ≡ drop at t
part-rest t at = take_all (length t - at) (drop at t) (simp length-drop (omega arith))

pub part-first : (t : List ℕ) (n : ℕ) → part 0 n t ≡ take n t
part-first t n = let e : n - 0 ≡ n = omega arith in rw e

pub part_none : (t : List ℕ) (from to : ℕ) → to ≤ from → part from to t ≡ []
part_none t from to h = let e : to - from ≡ 0 = omega arith in rw e

-- so many bytes on, or the end
pub onward-drop : (t : List ℕ) (at n to : ℕ) → at ≤ length t → to ≡ at + (n - (n - (length t - at))) → drop to t ≡ drop n (drop at t)
onward-drop t at n to h e = elim (dec_le n (length t - at)) [
  | yes k ↦ (let q : to ≡ at + n = omega arith in rw q (sym (drop-drop n at t)))
  | no k ↦ drop_of_length-le t {i = to} (omega arith) ∙ sym (drop_of_length-le (drop at t) {i = n} (simp length-drop (omega arith)))
]

-- ---- a character at a place
module _ (t : List ℕ) (at : ℕ) (h : at < length t) where
  pub undone-at : (byte_at t at ≡ 92 → ⊥) → undone (drop at t) ≡ byte_at t at ∷ undone (drop (at + 1) t)
  undone-at n = rw (add-one at, drop-cons t at 0 h) (undone-plain (byte_at t at) (drop (suc at) t) (ne_eqb _ 92 n))

  pub lone-at : (byte_at t at ≡ 92 → ⊥) → has_lone (drop at t) ≡ has_lone (drop (at + 1) t)
  lone-at n = rw (add-one at, drop-cons t at 0 h) (lone-plain (byte_at t at) (drop (suc at) t) (ne_eqb _ 92 n))

  module _ (b : byte_at t at ≡ 92) where
    pub escape-at : undone (drop at t) ≡ encoding (escape (drop at t)).code ++ undone (drop (escape (drop at t)).len (drop at t))
    escape-at = rw (drop-cons t at 0 h) (undone-escape (byte_at t at) (drop (suc at) t) (eq-eqb _ 92 b))

    lone-begun : has_lone (drop at t) ≡ (is_half (escape (drop at t)).code || has_lone (drop (escape (drop at t)).len (drop at t)))
    lone-begun = rw (drop-cons t at 0 h) (lone-escape (byte_at t at) (drop (suc at) t) (eq-eqb _ 92 b))

    -- c is the character that is spelled there
    module _ (c : Character) (e : c ≡ escape (drop at t)) where
      pub lone-half : is_half c.code ≡ true → has_lone (drop at t) ≡ true
      lone-half k = lone-begun ∙ rw (← e, k)

      pub lone-past : is_half c.code ≡ false → (to : ℕ) → to ≡ at + (c.len - (c.len - (length t - at))) → has_lone (drop at t) ≡ has_lone (drop to t)
      lone-past k to o = lone-begun ∙ rw (← e, k) (ap has_lone (sym (onward-drop t at c.len to (omega arith) o)))

pub lone-end : (t : List ℕ) (at : ℕ) → length t ≤ at → has_lone (drop at t) ≡ false
unfolding lone_after
lone-end t at h = rw (drop_of_length-le t {i = at} h)

-- ---- the places of a character's bytes
append_at : (l r : List ℕ) (k : ℕ) → k < length l → drop k (l ++ r) ≡ get_or l k 0 ∷ drop (suc k) (l ++ r)
append_at [] r k h = absurd (omega arith)
append_at (x ∷ l) r zero h = refl
append_at (x ∷ l) r (suc k) h = append_at l r k (omega arith)

pub within-plain : (t : List ℕ) (at k : ℕ) → Within t at k → (byte_at t at ≡ 92 → ⊥) → k ≡ 0
within-plain t at k w n = ⊎_elim (λ e. e) (λ e. absurd (n (eqb-true _ _ e.0))) w

-- c is the character that is spelled at a place, and its bytes are the first so many of some
module _ (t : List ℕ) (at : ℕ) (h : at < length t) (b : byte_at t at ≡ 92) (c : Character) (ec : c ≡ escape (drop at t))
    (bytes : List ℕ) (len : ℕ) (e : take len bytes ≡ encoding c.code) (l : len ≤ length bytes) where
  many : length (encoding c.code) ≡ len
  many = ap length (sym e) ∙ length-take-le len bytes l

  begun : undone (drop at t) ≡ encoding c.code ++ undone (drop c.len (drop at t))
  begun = rw ec (escape-at t at h b)

  pub within-below : (k : ℕ) → 1 ≤ len → Within t at k → k < len
  within-below k m w =
      let q = many in
      ⊎_elim (λ z. omega arith) (λ z. let y : k < length (encoding c.code) = rw ec z.1 in omega arith) w

  module _ (k : ℕ) (i : k < len) where
    taken : rest t at k ≡ get_or bytes k 0 ∷ drop (suc k) (undone (drop at t))
    taken =
        let n = many in
        rw (begun, append_at (encoding c.code) (undone (drop c.len (drop at t))) k (omega arith), ← e, get_or-take len bytes k 0 i)

    -- another is left
    pub spelled-more : rest t at k ≡ get_or bytes k 0 ∷ rest t at (k + 1)
    spelled-more = rw (add-one k) taken

    pub within_more : k + 1 < len → Within t at (k + 1)
    within_more m = inr (eq-eqb _ 92 b, rw (← ec) (let q = many in omega arith))

    -- it was the last
    pub spelled-last : len ≤ k + 1 → (to : ℕ) → to ≡ at + (c.len - (c.len - (length t - at))) → rest t at k ≡ get_or bytes k 0 ∷ rest t to 0
    spelled-last m to o =
        let n = many in
        let u = undone (drop c.len (drop at t)) in
        taken ∙ ap (λ (v : List ℕ). get_or bytes k 0 ∷ v)
        (ap (drop (suc k)) begun ∙ drop_at (encoding c.code) u (suc k) (omega arith)
        ∙ ap undone (sym (onward-drop t at c.len to (omega arith) o)))

-- a byte that is no backslash
pub plain-next : (t : List ℕ) (at k : ℕ) → at < length t → Within t at k → (byte_at t at ≡ 92 → ⊥) → rest t at k ≡ byte_at t at ∷ rest t (at + 1) 0
plain-next t at k h w n = rw (within-plain t at k w n) (undone-at t at h n)

-- of a character of one byte none was taken, before it or behind
pub plain-on : (t : List ℕ) (at k : ℕ) → at < length t → Within t at k → (byte_at t at ≡ 92 → ⊥) → rest t at k ≡ byte_at t at ∷ rest t (at + 1) k
plain-on t at k h w n = rw (within-plain t at k w n) (undone-at t at h n)

-- no byte is left
pub rest_end : (t : List ℕ) (at k : ℕ) → length t ≤ at → rest t at k ≡ []
unfolding undone_after
rest_end t at k h = rw (drop_of_length-le t {i = at} h) (drop-nil k)

encoding-some : (n : ℕ) → 0 < length (encoding n)
unfolding encoding
encoding-some n = split (ltb n 0x80) (λ p. rw p (omega arith)) (λ p. split (ltb n 0x800) (λ q. rw (p, q) (omega arith))
    (λ q. split (ltb n 0x10000) (λ r. rw (p, q, r) (omega arith)) (λ r. rw (p, q, r) (omega arith))))

-- a byte is left
pub rest_some : (t : List ℕ) (at k : ℕ) → at < length t → Within t at k → (b : ℕ) × (u : List ℕ) × (rest t at k ≡ b ∷ u)
rest_some t at k h w =
    split (eqb (byte_at t at) 92)
    (λ e.
    let c = escape (drop at t) in
    let bytes = encoding c.code in
    let m = encoding-some c.code in
    let below : k < length bytes = ⊎_elim (λ z. omega arith) (λ z. z.1) w in (
      get_or bytes k 0,
      rest t at (k + 1),
      spelled-more t at h (eqb-true _ _ e) c refl bytes (length bytes) (take-length bytes) (omega arith) k below,
    ))
    (λ e. (byte_at t at, rest t (at + 1) 0, plain-next t at k h w (eqb-false _ _ e)))

-- ---- comparing
module _ (a b : ℕ) (u v x y : List ℕ) (ex : x ≡ a ∷ u) (ey : y ≡ b ∷ v) where
  pub same_next : a ≡ b → same x y ≡ same u v
  unfolding same
  same_next e = rw (ex, ey, eq-eqb a b e)

  pub same_differs : (a ≡ b → ⊥) → same x y ≡ false
  unfolding same
  same_differs n = rw (ex, ey, ne_eqb a b n)

module _ (t : List ℕ) (at k : ℕ) (w : Within t at k) where
  -- one text goes on, the other does not
  pub same-longer : at < length t → (y : List ℕ) → y ≡ [] → same (rest t at k) y ≡ false
  unfolding same
  same-longer h y e = let r = rest_some t at k h w in rw (r.2, e)

  -- at the end of one
  pub same-shorter : (x : List ℕ) → x ≡ [] → same x (rest t at k) ≡ leb (length t) at
  unfolding same
  same-shorter x e = elim (dec_le (length t) at) [
    | yes h ↦ rw (e, rest_end t at k h, le-leb (length t) at h)
    | no h ↦ (let r = rest_some t at k (omega arith) w in rw (e, r.2, lt-leb (length t) at (omega arith)))
  ]

pub same_ends : (text : List ℕ) (i : ℕ) → i ≤ length text → (x : List ℕ) → x ≡ [] → same x (drop i text) ≡ eqb i (length text)
unfolding same
same_ends text i l x e = elim (dec_le (length text) i) [
  | yes h ↦ rw (e, drop_of_length-le text {i = i} h, eq-eqb i (length text) (omega arith))
  | no h ↦ rw (e, drop-cons text i 0 (omega arith), ne_eqb i (length text) (λ q. omega arith))
]

-- ---- two that are alike at their heads
-- in the library's words: how many of the pairs of bytes, from the first on, are equal and no backslashes
pub alike-prefix : (x y : List ℕ) → alike x y ≡ prefix_len (λ (p : ℕ × ℕ). eqb p.0 p.1 && not (is "\\" p.0)) (zip x y)
unfolding alike
alike-prefix [] y = refl
alike-prefix (a ∷ x) [] = refl
alike-prefix (a ∷ x) (b ∷ y) = ap (λ n. cond (eqb a b && not (is "\\" a)) (1 + n) 0) (alike-prefix x y)

-- where no escape stands behind those bytes, the texts are the same if both end there
same-heads : (x y : List ℕ) → is "\\" (byte_at x (alike x y)) ≡ false → is "\\" (byte_at y (alike x y)) ≡ false
    → same (undone x) (undone y) ≡ (leb (length x) (alike x y) && eqb (alike x y) (length y))
unfolding undone_after alike same
same-heads [] [] = λ p q. refl
same-heads [] (b ∷ y) = λ p q. rw (q, eqb-zero-suc)
same-heads (a ∷ x) [] = λ p q. rw (p, leb-suc-zero)
same-heads (a ∷ x) (b ∷ y) =
    let s : 1 + alike x y ≡ suc (alike x y) = omega arith in
    split (eqb a b)
    (λ e. split (is "\\" a)
    (λ m. rw (e, m) (λ p q. clash m p))
    (λ m. rw (m, e, s) (λ p q. rw (← eqb-true a b e, m, eq-eqb a a refl, leb-suc-suc, eqb-suc-suc) (same-heads x y p q))))
    (λ e. rw e (λ p q. rw (p, q, e, leb-suc-zero)))

-- the same as the code asks it: with n bytes alike the first one ends, or goes on
module _ (x y : List ℕ) (n : ℕ) (e : n ≡ alike x y) (p : byte_at x n ≡ 92 → ⊥) (q : byte_at y n ≡ 92 → ⊥) where
  told : same (undone x) (undone y) ≡ (leb (length x) n && eqb n (length y))
  told = rw e (same-heads x y (rw e at (ne_eqb _ 92 p)) (rw e at (ne_eqb _ 92 q)))

  pub heads-all : length x ≤ n → same (undone x) (undone y) ≡ eqb n (length y)
  heads-all h = told ∙ rw (le-leb (length x) n h)

  pub heads-apart : n < length x → same (undone x) (undone y) ≡ false
  heads-apart h = told ∙ rw (lt-leb (length x) n h)

-- ---- a mark
pub mark-next : (m b : ℕ) (u v : List ℕ) → u ≡ b ∷ v → mark_from m u ≡ mark_from ((m * 251 + b) % 65536) v
unfolding mark_from
mark-next m b u v e = rw e

pub mark-end : (m : ℕ) (u : List ℕ) → u ≡ [] → mark_from m u ≡ m
unfolding mark_from
mark-end m u e = rw e

-- ---- what is stored: w is the text, of which u is left
module _ (stored : List ℕ) (n : ℕ) (u w : List ℕ) (e : w ≡ take n stored ++ u) where
  pub stored_next : n < length stored → (b : ℕ) (v : List ℕ) → u ≡ b ∷ v → w ≡ take (n + 1) (set stored n b) ++ v
  stored_next h b v q = rw (add-one n, take-suc-set stored n b h, append_snoc (take n stored) b v, ← q) e

  pub stored-full : length stored ≡ most_kept → most_kept ≤ n → n ≤ most_kept → take n stored ≡ kept w
  stored-full l g h =
      let z : n ≡ most_kept = omega arith in
      sym (ap kept e ∙ take_at (take n stored) u most_kept (length-take-le n stored (omega arith) ∙ z))

  pub stored-end : n ≤ most_kept → n ≤ length stored → u ≡ [] → take n stored ≡ kept w
  stored-end h l q =
      let z : w ≡ take n stored = e ∙ ap (λ (v : List ℕ). take n stored ++ v) q ∙ append-nil (take n stored) in
      rw z (sym (take_all most_kept (take n stored) (let k = length-take-le n stored l in omega arith)))
