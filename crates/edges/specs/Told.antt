-- The step that a line stands for, and what is told of its state and output.
use Rattle.std.specs.Prelude.{ℕ, Result, ◌+◌, ◌-◌, ◌*◌, ◌%◌, Bool, List, [], ◌∷◌, eqb, drop}
use Rattle.seq.specs.Lists.{every}
use Rattle.model.specs.declared.Event.{Event}
use Rattle.model.specs.declared.Event.TheVariants.{Attach, Detach, Message}
use Rattle.model.specs.Step.{Step}
use Rattle.hub.specs.Answer.{given}
use Rattle.script.specs.declared.Reason.{Reason}
use Rattle.std.specs.Result.{result_unwrap_or}

-- the step of an event; only a message has bytes
abbrev pub step_of : ℕ → Event → List ℕ → Step
step_of slot (Attach f) bytes = given slot (Attach f) []
step_of slot Detach bytes = given slot Detach []
step_of slot (Message number) bytes = given slot (Message number) bytes

-- Adler-32 (RFC 1950, section 8.2): a is 1 plus the sum of the bytes, b the sum of the values of a, both modulo 65521
unfoldable pub adler_from : ℕ → ℕ → List ℕ → ℕ
adler_from a b [] = b * 65536 + a
adler_from a b (x ∷ xs) = adler_from ((a + x) % 65521) ((b + (a + x) % 65521) % 65521) xs

abbrev pub adler32 : List ℕ → ℕ
adler32 xs = adler_from 1 0 xs

-- the byte that fills the output before a step
abbrev pub unwritten : ℕ
unwritten = 238

-- every byte from a place on is as it was before the step
abbrev pub kept : List ℕ → ℕ → Bool
kept out from = every (eqb unwritten) (drop from out)

-- the number of two bytes, big-endian
abbrev pub pair_of : ℕ → ℕ → ℕ
pair_of high low = high * 256 + low

-- the number that a word is; 0 for a word that is none
abbrev pub number_or0 : Result ℕ Reason → ℕ
number_or0 r = result_unwrap_or r 0

-- the lesser of a number and a limit
abbrev pub limited : ℕ → ℕ → ℕ
limited limit n = limit - (limit - n)
