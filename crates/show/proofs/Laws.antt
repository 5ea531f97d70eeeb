-- Laws of the buffer, and of a number's digits. Assumes nothing.
use mathlib.Core.Path.{◌≡◌, sym, ap, ◌∙◌}
use Prim.Native.Nat.{ℕ, zero, suc, ◌+◌, ◌-◌, ◌/◌, ◌%◌, ◌^◌, ◌≤◌, ◌<◌}
use mathlib.Core.Bool.{Bool, true, false, cond}
use mathlib.Core.List.{List, [], ◌∷◌, ◌++◌, append_assoc}
use native.Mathlib.Nat.{div-lt_iff_lt-mul, pow-suc, mod-eq_of_lt}
use native.Mathlib.Numerals.{add-one}
use native.Mathlib.Decide.{dec_le}
use native.Mathlib.Omega.{arith}
use borrow.Author.Tests.{lt-ltb, le-ltb}
use lib.Dec.{ltb, lit<}
use lib.ListN.{length, take, drop, set, get_or, length-append, length-drop, length-set}
use lib.Seq.{drop-cons, get_or-set_same, drop-set-lt, lt-length-set, length-take-le, take_all, paste, paste-suc}
use Rattle.seq.specs.Bytes.{part}
use Rattle.seq.specs.Decimal.{digits, decimal}
use Rattle.show.specs.Buffer.{fitting, after, written}

-- ---- the buffer: n is how many bytes of the text fit
module _ (buffer : List ℕ) (at : ℕ) (text : List ℕ) (n : ℕ) (h : n ≡ length text - (length text - (length buffer - at))) where
  fits : take n text ≡ fitting buffer at text
  unfolding fitting
  fits = elim (dec_le (length text) (length buffer - at)) [
    | yes k ↦ take_all n text (omega arith) ∙ sym (take_all (length buffer - at) text k)
    | no k ↦ (let e : n ≡ length buffer - at = omega arith in rw e)
  ]

  pub after_is : at + n ≡ after buffer at text
  unfolding after
  after_is = ap (λ k. at + k) (sym (length-take-le n text (omega arith)) ∙ ap length fits)

  pub written_is : paste buffer at text n ≡ written buffer at text
  unfolding written
  written_is = rw (fits, after_is)

-- one byte more is copied
pub paste_more : (buffer : List ℕ) (at : ℕ) (text : List ℕ) (i : ℕ) → at + i < length buffer → i < length text
    → set (paste buffer at text i) (at + i) (get_or text i 0) ≡ paste buffer at text (i + 1)
paste_more buffer at text i h k = rw (add-one i) (paste-suc buffer at text i 0 h k)

-- ---- a number's digits: one more place allowed changes nothing once there are enough
digits_more : (k n : ℕ) → n < 10 ^ suc k → digits (suc k) n ≡ digits (suc (suc k)) n
unfolding digits
digits_more zero n h = rw (lt-ltb n 10 h)
digits_more (suc k) n h =
    ap (λ (l : List ℕ). cond (ltb n 10) ((48 + n) ∷ []) (l ++ ((48 + n % 10) ∷ [])))
    (digits_more k (n / 10) ((div-lt_iff_lt-mul (lit< tt)).1 (rw pow-suc at h)))

digits_step : (k n : ℕ) → 10 ≤ n → n / 10 < 10 ^ suc k → digits (suc (suc k)) n ≡ digits (suc (suc k)) (n / 10) ++ ((48 + n % 10) ∷ [])
unfolding digits
digits_step k n t h = rw (le-ltb n 10 t) (ap (λ (l : List ℕ). l ++ ((48 + n % 10) ∷ [])) (digits_more k (n / 10) h))

digits-small : (k n : ℕ) → n < 10 → digits (suc k) n ≡ (48 + n) ∷ []
unfolding digits
digits-small k n h = rw (lt-ltb n 10 h)

decimal-small : (n : ℕ) → n < 10 → decimal n ≡ (48 + n % 10) ∷ []
unfolding decimal
decimal-small n h = digits-small 19 n h ∙ ap (λ (k : ℕ). (48 + k) ∷ []) (sym (mod-eq_of_lt h))

decimal-more : (n : ℕ) → n < 2 ^ 64 → 10 ≤ n → decimal n ≡ decimal (n / 10) ++ ((48 + n % 10) ∷ [])
unfolding decimal
decimal-more n h t = digits_step 18 n t (omega arith)

-- a number has 1 to 20 digits
short : (t : Bool) (x y : List ℕ) (k : ℕ) → length x ≤ k → length y ≤ k → length (cond t x y) ≤ k
short true x y k p q = p
short false x y k p q = q

digits-short : (k n : ℕ) → length (digits k n) ≤ k
unfolding digits
digits-short zero n = omega arith
digits-short (suc k) n = short (ltb n 10) _ _ (suc k) (omega arith) (simp length-append (omega (arith, digits-short k (n / 10))))

digits-some : (k n : ℕ) → 1 ≤ length (digits (suc k) n)
unfolding digits
digits-some k n = go (ltb n 10)
  where
    go : (t : Bool) → 1 ≤ length (cond t ((48 + n) ∷ []) (digits k (n / 10) ++ ((48 + n % 10) ∷ [])))
    go true = omega arith
    go false = simp length-append (omega arith)

decimal-length : (n : ℕ) → (1 ≤ length (decimal n)) × (length (decimal n) ≤ 20)
unfolding decimal
decimal-length n = (digits-some 19 n, digits-short 20 n)

-- ---- the digits are filled in from the last: `rest` is what is left of n, whose digits stand in `bytes` from `from` on
drop-store : (l : List ℕ) (k v : ℕ) → k < length l → drop k (set l k v) ≡ v ∷ drop (k + 1) l
drop-store l k v h =
    rw (drop-cons (set l k v) k 0 (lt-length-set l k v h), get_or-set_same l k v 0 h, drop-set-lt (suc k) l k v (omega arith), add-one)

module _ (n rest from : ℕ) (bytes : List ℕ) (e : decimal n ≡ decimal rest ++ drop from bytes) (l : length bytes ≡ 20) (h : from ≤ 20) where
  pub room : 0 < from
  room = omega (arith, decimal-length n, decimal-length rest, simp (length-append, length-drop) at (ap length e))

  -- d is the last digit of what is left
  module _ (d : ℕ) (ed : d ≡ 48 + rest % 10) where
    stored : drop (from - 1) (set bytes (from - 1) d) ≡ (48 + rest % 10) ∷ drop from bytes
    stored =
        let r = room in
        let k : from - 1 + 1 ≡ from = omega arith in
        drop-store bytes (from - 1) d (omega arith) ∙ rw (k, ed)

    pub turn : rest < 2 ^ 64 → 10 ≤ rest → decimal n ≡ decimal (rest / 10) ++ drop (from - 1) (set bytes (from - 1) d)
    turn b t = rw (stored, e, decimal-more rest b t) (append_assoc (decimal (rest / 10)) ((48 + rest % 10) ∷ []) (drop from bytes))

    pub ends : rest < 10 → part (from - 1) 20 (set bytes (from - 1) d) ≡ decimal n
    ends t =
        let r = room in
        take_all (20 - (from - 1)) (drop (from - 1) (set bytes (from - 1) d)) (simp (length-drop, length-set) (omega arith))
        ∙ rw (stored, e, decimal-small rest t)
