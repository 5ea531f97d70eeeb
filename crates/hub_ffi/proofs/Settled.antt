-- The one number of a call on settings, by what the call answers. Assumes nothing.
use Prim.Native.Nat.{ℕ, ◌≤◌}
use mathlib.Core.List.{List, []}
use mathlib.Core.Path.{◌≡◌, ◌∙◌}
use lib.ListN.{length}
use Rattle.std.specs.Result.{result_and}
use Rattle.std.specs.Prelude.{⊤, Result, Ok, Err, IfOk, MatchResult}
use Rattle.settings_file.specs.declared.Refusal.{Refusal}
use Rattle.settings_file.specs.File.{refusal_no, refusal}
use Rattle.settings_io.specs.Written.{most_file}
use Rattle.hub_ffi.specs.Boundary.{packed}

pub answer-short : (o : Result ⊤ Refusal) (b : List ℕ) → length b ≤ most_file → IfOk (result_and o (Ok (length b))) (λ n. n ≤ most_file)
answer-short (Ok _) b h = h
answer-short (Err r) b h = tt

-- a refused call writes nothing
pub settles : (o : Result ⊤ Refusal) (b : List ℕ) (n : ℕ) → (¬ (o ≡ Ok tt) → b ≡ [])
    → MatchResult (result_and o (Ok (length b))) (λ k. n ≡ packed k 0) (λ r. n ≡ packed 0 (refusal_no r))
    → n ≡ packed (length b) (refusal o)
settles (Ok _) b n h e = e
settles (Err r) b n h e = rw (h (λ x. cc)) e
