-- The C boundary: the one number that a call answers.
use Rattle.std.specs.Prelude.{ℕ, ◌+◌, ◌*◌, length}
use Rattle.model.specs.Step.{Stepped, refusal}
use Rattle.settings_file.specs.File as File
use Rattle.settings_file.specs.File.{Told}

abbrev pub packed : ℕ → ℕ → ℕ
packed count refused = count * 256 + refused

abbrev pub answer : Stepped → ℕ
answer t = packed t.count (refusal t.outcome)

-- the same of a call on settings
abbrev pub settled : Told → ℕ
settled t = packed (length t.bytes) (File.refusal t.outcome)
