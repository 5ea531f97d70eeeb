-- A count in its shortest form, as the heads of arrays and of maps have it.
use Rattle.std.specs.Prelude.{ℕ, ◌+◌, List, [], ◌∷◌, cond, ltb}
use Rattle.values.specs.Write.{wide}

-- in one byte, from `few` on; behind the byte `many` in two bytes, or behind the byte after it in four
unfoldable pub counted : ℕ → ℕ → ℕ → List ℕ
counted few many n =
    cond (ltb n 0x10) ((few + n) ∷ [])
    (cond (ltb n 0x10000) (many ∷ wide 2 n)
    ((many + 1) ∷ wide 4 n))
