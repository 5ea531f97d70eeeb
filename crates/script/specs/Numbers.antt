-- A number in a script: decimal digits, leading zeros among them, whose value fits 64 bits.
use Rattle.std.specs.Prelude.{ℕ, Result, Ok, Err, ◌+◌, ◌*◌, ◌-◌, cond, not, ◌||◌, List, [], ◌∷◌, leb}
use Prim.Native.Char.{code}
use Rattle.seq.specs.Lists.{every, is_empty}
use Rattle.seq.specs.Bytes.{is_digit}
use Rattle.script.specs.declared.Reason.{Reason}
use Rattle.script.specs.declared.Reason.TheVariants.{TooLarge}

-- 2^64 - 1
abbrev pub max_number : ℕ
max_number = 18446744073709551615

-- the number that digits stand for, after digits that stand for v
unfoldable pub value_from : ℕ → List ℕ → ℕ
value_from v [] = v
value_from v (b ∷ bs) = value_from (v * 10 + (b - code "0")) bs

-- a number that fits
unfoldable pub fitting : ℕ → Result ℕ Reason
fitting n = cond (leb n max_number) (Ok n) (Err TooLarge)

-- the number that a word is, or why it is none; `missing` is the reason where it is empty or has another byte than a digit
unfoldable pub number_of : Reason → List ℕ → Result ℕ Reason
number_of missing word = cond (is_empty word || not (every is_digit word)) (Err missing) (fitting (value_from 0 word))
