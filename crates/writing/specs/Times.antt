-- A text written more than once.
use Rattle.std.specs.Prelude.{ℕ, zero, suc, List, [], ◌++◌}

-- so many times, one after the other
unfoldable pub repeated : ℕ → List ℕ → List ℕ
repeated zero t = []
repeated (suc n) t = t ++ repeated n t
