-- A number's bytes make the number, and bytes are those of their number. Assumes nothing.
use Prim.Native.Nat.{ℕ, zero, suc, ◌+◌, ◌*◌, ◌/◌, ◌%◌, ◌≤◌, ◌<◌, ◌^◌}
use mathlib.Core.List.{List, [], ◌∷◌, ◌++◌}
use mathlib.Core.Path.{◌≡◌, refl, ap}
use native.Mathlib.Decide.{dec_lt}
use native.Mathlib.Nat.{pow-suc, div-add-mod'}
use native.Mathlib.Omega.{arith}
use lib.Arith.{digits_div, digits_mod}
use lib.ListN.{length, take, drop, get_or-eq_default, length-take}
use lib.Seq.{append_snoc, get_or_at, take-suc, get_or-take, get_or-drop}
use Rattle.seq.specs.Bytes.{byte_at}
use Rattle.seq.specs.Lists.{All}
use Rattle.seq.proofs.Rules.{all-at}
use Rattle.image.specs.Image.{number, digits}
use Rattle.image.proofs.Laws.{length_digits}

pub number_digits : (n x : ℕ) (q : List ℕ) → x < 256 ^ n → number n (digits n x ++ q) ≡ x
unfolding number digits
number_digits zero x q h = omega arith
number_digits (suc n) x q h =
    let k : x < 256 ^ n * 256 = rw (pow-suc 256 n) at h in
    let r = number_digits n (x / 256) (x % 256 ∷ q) (omega arith) in
    let b : byte_at (digits n (x / 256) ++ (x % 256 ∷ q)) n ≡ x % 256 = get_or_at (digits n (x / 256)) (x % 256) q 0 n (length_digits n (x / 256)) in
    rw (append_snoc (digits n (x / 256)) (x % 256) q, r, b) (div-add-mod' x 256)

-- ---- bytes
-- every byte is below 256
abbrev pub Bytes : List ℕ → Type 0
Bytes s = (k : ℕ) → byte_at s k < 256

pub bytes-all : (s : List ℕ) → All (λ b. b < 256) s → Bytes s
bytes-all s h k = all-at (λ b. b < 256) 0 s k (omega arith) h

pub bytes_drop : (a : ℕ) (s : List ℕ) → Bytes s → Bytes (drop a s)
bytes_drop a s h k = rw (get_or-drop a s k 0) (h (a + k))

pub bytes_take : (a : ℕ) (s : List ℕ) → Bytes s → Bytes (take a s)
bytes_take a s h k = elim (dec_lt k a) [
  | yes l ↦ rw (get_or-take a s k 0 l) (h k)
  | no l ↦ rw (get_or-eq_default (take a s) 0 {n = k} (rw (length-take a s) (omega arith))) (omega arith)
]

pub digits_number : (n : ℕ) (s : List ℕ) → Bytes s → n ≤ length s → digits n (number n s) ≡ take n s
unfolding number digits
digits_number zero s f h = refl
digits_number (suc n) s f h =
    let b = f n in
    rw (digits_div (number n s) {m = 256} {r = byte_at s n} b, digits_mod (number n s) {m = 256} {r = byte_at s n} b, take-suc s n 0 (omega arith))
    (ap (λ l. l ++ (byte_at s n ∷ [])) (digits_number n s f (omega arith)))
