-- A head that is written after what stands behind it.
use Rattle.std.specs.Prelude.{ℕ, ◌+◌, List, length}
use Rattle.seq.specs.Bytes.{part}
use Rattle.buffer.specs.Over.{over}

-- the bytes from just past o up to q moved behind the head h, which is written from o on
unfoldable pub headed : List ℕ → ℕ → ℕ → List ℕ → List ℕ
headed old o q h = over (over old (o + length h) (part (o + 1) q old)) o h
