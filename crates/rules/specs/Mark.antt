-- What is noted of a table's rows before their pairs are tested: their numbers, and marks. A mark is a number that rows of one policy and text
-- have in common, so that most pairs of texts need not be compared.
use Rattle.std.specs.Prelude.{ℕ, ◌+◌, ◌*◌, ◌-◌, Bool, ◌&&◌, List, ◌≡◌, length}
use Rattle.seq.specs.Bytes.{byte_at, same}
use Rattle.uri.specs.Uri.{policy_no, same_policy}
use Rattle.pattern.specs.declared.Row.{Row}
use Rattle.pattern.specs.Choice.{row_text}

-- of a policy's number and a text: the number, and the text's last two bytes
unfoldable pub mark_of : ℕ → List ℕ → ℕ
mark_of policy text = policy + 4 * (byte_at text (length text - 1) + 256 * byte_at text (length text - 2))

unfoldable pub mark : Row → ℕ
mark r = mark_of (policy_no r.policy) (row_text r)

abbrev pub row_number : Row → ℕ
row_number r = r.number

-- one policy and text
abbrev pub same_text : Row → Row → Bool
same_text a b = same_policy a.policy b.policy && same (row_text a) (row_text b)

-- the number and the mark that are noted of a row
pub record Noted (r : Row) (number mark' : ℕ) : Type 0 where
  pub number_is : number ≡ r.number
  pub mark-is : mark' ≡ mark r
