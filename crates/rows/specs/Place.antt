-- The place of a new row, and a row that a slot leaves.
use Rattle.std.specs.Prelude.{ℕ, cond, None, Option}
use Rattle.seq.specs.Lists.{first}
use Rattle.model.specs.declared.Table.{Table}
use Rattle.outgoing.specs.Outgoing.{Outgoing}
use Rattle.model.specs.declared.Hub.{Hub}
use Rattle.model.specs.State.{unused, left, row_at}
use Rattle.model.specs.Step.{Next, has_number, says}
use Rattle.image.specs.declared.Kind.{Kind}
use Rattle.image.specs.Image.{table_in}
use Rattle.next.specs.Next.{with_row_of}

-- the place of a new row: the lowest free one, if a number is left
unfoldable pub place_in : Table → Option ℕ
place_in t = cond (has_number t) (first unused t.rows) None

-- slot i leaves row k, and is answered
abbrev pub leaving : Kind → Hub → ℕ → Outgoing → ℕ → Next
leaving kind h i message k = says (with_row_of kind h k (table_in kind h).counter (left i (row_at (table_in kind h) k))) i message
