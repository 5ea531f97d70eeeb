-- What a JSON text is not. Assumes nothing.
use mathlib.Core.Path.{◌≡◌, refl}
use Prim.Native.Nat.{ℕ, ◌≤◌}
use mathlib.Core.List.{List, [], ◌∷◌}
use mathlib.Core.Bool.{true, false}
use native.Mathlib.Omega.{arith}
use native.Mathlib.Decide.{dec_le}
use lib.ListN.{length}
use Rattle.seq.specs.Bytes.{chars}
use Rattle.seq.proofs.Logic.{clash}
use Rattle.lex.specs.Lex.{run, past, space, first, next, number, minus, integer, some_digits, fraction, exponent}
use Rattle.json_text.specs.Json.{series, enclosed, by_first, value, value_at, is_text, max_bytes}
use Rattle.json_text.proofs.Laws.{at_long, text-not}

-- a text has 1 to 2,048 bytes
empty-not : is_text [] ≡ false
unfolding is_text value_at value by_first
empty-not = refl

pub text-size : (s : List ℕ) → is_text s ≡ true → (1 ≤ length s) × (length s ≤ max_bytes)
text-size [] h = clash h empty-not
text-size (x ∷ s) h = (
  omega arith,
  elim (dec_le (length (x ∷ s)) max_bytes) [
    | yes l ↦ l
    | no l ↦ clash h (text-not (x ∷ s) (space (x ∷ s) 0) refl (at_long 8 (x ∷ s) (space (x ∷ s) 0) (omega arith)))
  ],
)

-- depth 8 passes, 9 does not
depth-8 : is_text (chars " [[[[[[[[1]]]]]]]]\n") ≡ true
unfolding is_text value_at value by_first enclosed series first next past run number minus integer some_digits fraction exponent
depth-8 = refl

depth-9 : is_text (chars "[[[[[[[[[]]]]]]]]]") ≡ false
unfolding is_text value_at value by_first enclosed series first next past run
depth-9 = refl
