-- JSON numbers: an integer that was written reads back. Assumes nothing.
use Rattle.std.specs.Prelude.{Some}
use Prim.Native.Nat.{ℕ, zero, suc, ◌+◌, ◌*◌, ◌-◌, ◌/◌, ◌%◌, ◌^◌, ◌≤◌, ◌<◌}
use mathlib.Core.Bool.{true, false, ◌||◌}
use mathlib.Core.List.{List, [], ◌∷◌, ◌++◌}
use mathlib.Core.Path.{◌≡◌, refl, sym, ap, ◌∙◌, subst}
use native.Mathlib.Nat.{pow-suc, div-lt_iff_lt-mul}
use native.Mathlib.Omega.{arith}
use borrow.Author.Tests.{ne_eqb, le-leb, ltb-true, ltb-false}
use lib.Dec.{ltb, lit<}
use lib.ListN.{length}
use Rattle.seq.specs.Bytes.{is, is_digit, byte_at}
use Rattle.seq.specs.Lists.{All}
use Rattle.seq.proofs.Logic.{cond-case}
use Rattle.lex.specs.Lex.{past, integer, some_digits}
use Rattle.lex.proofs.Laws.{past_stop, past-go}
use Rattle.seq.specs.Decimal.{digits, decimal}
use Rattle.values.specs.Read.Read.{Gives}
use Rattle.elements.specs.Kinds.{decimal as natural}
use Rattle.values.specs.Stands.{whole_at}
use Rattle.seq.proofs.Holds.{Holds, holds-part}

-- ---- the digits of a number
digit-is : (b : ℕ) → 48 ≤ b → b ≤ 57 → is_digit b ≡ true
digit-is b l m = rw (le-leb 48 b l, le-leb b 57 m)

all_snoc : (a : List ℕ) (b : ℕ) → All (λ x. is_digit x ≡ true) a → is_digit b ≡ true → All (λ x. is_digit x ≡ true) (a ++ (b ∷ []))
all_snoc [] b h e = (e, tt)
all_snoc (x ∷ a) b h e = (h.0, all_snoc a b h.1 e)

digits-all : (k n : ℕ) → All (λ x. is_digit x ≡ true) (digits k n)
unfolding digits
digits-all zero n = tt
digits-all (suc k) n =
    cond-case (All (λ x. is_digit x ≡ true)) (ltb n 10) ((48 + n) ∷ []) (digits k (n / 10) ++ ((48 + n % 10) ∷ []))
    (λ t. let m = ltb-true n 10 t in (digit-is (48 + n) (omega arith) (omega arith), tt))
    (λ t. all_snoc (digits k (n / 10)) (48 + n % 10) (digits-all k (n / 10)) (digit-is (48 + n % 10) (omega arith) (omega arith)))

natural-snoc : (m : ℕ) (a : List ℕ) (b : ℕ) → natural m (a ++ (b ∷ [])) ≡ natural m a * 10 + (b - 48)
unfolding natural
natural-snoc m [] b = refl
natural-snoc m (x ∷ a) b = natural-snoc (m * 10 + (x - 48)) a b

natural-none : natural 0 [] ≡ 0
unfolding natural
natural-none = refl

digits-natural : (k n : ℕ) → n < 10 ^ k → natural 0 (digits k n) ≡ n
unfolding digits
digits-natural zero n l = natural-none ∙ (omega arith)
digits-natural (suc k) n l =
    cond-case (λ w. natural 0 w ≡ n) (ltb n 10) ((48 + n) ∷ []) (digits k (n / 10) ++ ((48 + n % 10) ∷ []))
    (λ t. natural-snoc 0 [] (48 + n) ∙ (let z = natural-none in omega arith))
    (λ t. let e = digits-natural k (n / 10) ((div-lt_iff_lt-mul (lit< tt)).1 (rw pow-suc at l)) in
    natural-snoc 0 (digits k (n / 10)) (48 + n % 10) ∙ (omega arith))

-- a list that starts with a byte
pub record Starts (P : ℕ → Type 0) (w : List ℕ) : Type 0 where
  pub first : ℕ
  pub rest : List ℕ
  pub is : w ≡ first ∷ rest
  pub so : P first

starts-snoc : (P : ℕ → Type 0) (a b : List ℕ) → Starts P a → Starts P (a ++ b)
starts-snoc P a b s = record { first = s.first; rest = s.rest ++ b; is = ap (λ l. l ++ b) s.is; so = s.so }

-- a number from 1 up has no leading zero
digits-lead : (k n : ℕ) → 0 < n → n < 10 ^ k → Starts (λ b. b ≡ 48 → ⊥) (digits k n)
unfolding digits
digits-lead zero n z l = absurd (omega arith)
digits-lead (suc k) n z l =
    cond-case (Starts (λ b. b ≡ 48 → ⊥)) (ltb n 10) ((48 + n) ∷ []) (digits k (n / 10) ++ ((48 + n % 10) ∷ []))
    (λ t. record { first = 48 + n; rest = []; is = refl; so = λ e. omega arith })
    (λ t.
    let m = ltb-false n 10 t in
    starts-snoc (λ b. b ≡ 48 → ⊥) (digits k (n / 10)) ((48 + n % 10) ∷ [])
    (digits-lead k (n / 10) (omega arith) ((div-lt_iff_lt-mul (lit< tt)).1 (rw pow-suc at l))))

pub decimal-all : (n : ℕ) → All (λ x. is_digit x ≡ true) (decimal n)
unfolding decimal
decimal-all n = digits-all 20 n

decimal-natural : (n : ℕ) → n < 10 ^ 20 → natural 0 (decimal n) ≡ n
unfolding decimal
decimal-natural n l = digits-natural 20 n l

decimal-lead : (n : ℕ) → 0 < n → n < 10 ^ 20 → Starts (λ b. b ≡ 48 → ⊥) (decimal n)
unfolding decimal
decimal-lead n z l = digits-lead 20 n z l

decimal-zero : decimal 0 ≡ 48 ∷ []
unfolding decimal digits
decimal-zero = refl

-- ---- reading them
-- what may stand behind a number
pub record Stops (b : ℕ) : Type 0 where
  pub digit : is_digit b ≡ false
  pub rest : (is "." b || (is "e" b || is "E" b)) ≡ false

past-digits : (s : List ℕ) (at : ℕ) (w : List ℕ) → Holds s at w → All (λ x. is_digit x ≡ true) w → is_digit (byte_at s (at + length w)) ≡ false
    → past is_digit s at ≡ at + length w
past-digits s at [] h a e = let z : at + 0 ≡ at = omega arith in rw z (past_stop is_digit s at (rw z at e))
past-digits s at (b ∷ w) h a e =
    let z : at + suc (length w) ≡ at + 1 + length w = omega arith in
    past-go is_digit s at h.1 (ap is_digit h.0 ∙ a.0) ∙ rw z (past-digits s (at + 1) w h.2 a.1 (rw z at e))

integer-zero : (s : List ℕ) (at : ℕ) → byte_at s at ≡ 48 → integer s at ≡ Some (at + 1)
unfolding integer
integer-zero s at e = rw e

integer-more : (s : List ℕ) (at : ℕ) → (byte_at s at ≡ 48 → ⊥) → is_digit (byte_at s at) ≡ true → integer s at ≡ Some (past is_digit s (at + 1))
unfolding integer some_digits
integer-more s at n e = rw (ne_eqb (byte_at s at) 48 n, e)

integer-lead : (s : List ℕ) (at : ℕ) (w : List ℕ) → Starts (λ b. b ≡ 48 → ⊥) w → All (λ x. is_digit x ≡ true) w → Holds s at w
    → is_digit (byte_at s (at + length w)) ≡ false → integer s at ≡ Some (at + length w)
integer-lead s at [] l a h e = absurd (let p = l.is in let z : ◌≡◌ {A = ℕ} 0 1 = cc in omega arith)
integer-lead s at (b ∷ w) l a h e =
    let q : b ≡ l.first = (let p = l.is in cc) in
    let z : at + suc (length w) ≡ at + 1 + length w = omega arith in
    integer-more s at (λ k. l.so (sym q ∙ sym h.0 ∙ k)) (ap is_digit h.0 ∙ a.0)
    ∙ ap Some (past-digits s (at + 1) w h.2 a.1 (rw z at e) ∙ sym z)

integer-back : (s : List ℕ) (at n : ℕ) → n < 10 ^ 20 → Holds s at (decimal n) → is_digit (byte_at s (at + length (decimal n))) ≡ false
    → integer s at ≡ Some (at + length (decimal n))
integer-back s at zero l h e =
    let g : Holds s at (48 ∷ []) = subst (Holds s at) decimal-zero h in
    rw decimal-zero (integer-zero s at g.0)
integer-back s at (suc n) l h e = integer-lead s at (decimal (suc n)) (decimal-lead (suc n) (omega arith) l) (decimal-all (suc n)) h e

pub whole_back : (s : List ℕ) (at n : ℕ) → n < 10 ^ 20 → Holds s at (decimal n) → Stops (byte_at s (at + length (decimal n)))
    → whole_at s at ≡ Gives n (at + length (decimal n))
unfolding whole_at
whole_back s at n l h e = rw (
  integer-back s at n l h e.digit,
  e.rest,
  holds-part s at (decimal n) h,
  decimal-natural n l,
)

-- the first byte of a number
pub decimal-first : (n : ℕ) → n < 10 ^ 20 → Starts (λ b. is_digit b ≡ true) (decimal n)
decimal-first zero l = record { first = 48; rest = []; is = decimal-zero; so = refl }
decimal-first (suc n) l =
    let s = decimal-lead (suc n) (omega arith) l in
    let a = subst (All (λ x. is_digit x ≡ true)) s.is (decimal-all (suc n)) in
    record { first = s.first; rest = s.rest; is = s.is; so = a.0 }
