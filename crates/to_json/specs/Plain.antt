-- A MessagePack value with no bytes behind its head.
use Rattle.std.specs.Prelude.{ℕ, true, false, cond, eqb}
use Rattle.msgpack.specs.Head.{nil, no, yes, whole}
use Rattle.values.specs.Value.{Scalar}
use Rattle.values.specs.Value.Scalar.{Null, Flag, Whole, Below}

-- a null, a boolean or an integer, by its head's kind and number
unfoldable pub plain : ℕ → ℕ → Scalar
plain kind n =
    cond (eqb kind nil) Null
    (cond (eqb kind no) (Flag false)
    (cond (eqb kind yes) (Flag true)
    (cond (eqb kind whole) (Whole n)
    (Below n))))
