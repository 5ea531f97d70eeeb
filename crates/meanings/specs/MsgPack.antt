-- What the bytes of a MessagePack value mean (PROTOCOL, "Values"), as sets of texts by the format's own table (msgpack/specs/Grammar.antt,
-- arrays/specs/Grammar.antt): `Means depth v` has the texts that are the value v, in any of the table's forms. A float, a bin, an ext and a map
-- with a key that is no str mean nothing. A byte is below 256. values/specs/Stands.antt says the same as a reader of places in a text;
-- proofs/MsgPack.antt proves that both agree. Keys may be alike here: that no two are is asked apart (msgpack/specs/Grammar.antt, `Map`).
use Rattle.std.specs.Prelude.{ℕ, zero, suc, ◌+◌, ◌^◌, ◌≤◌, ◌<◌, List, [], ◌∷◌, true, false, ◌≡◌, length}
use Rattle.utf8.specs.Table.{Encoded}
use Rattle.lex.specs.Grammar.{Language, Is, ◌·◌, ◌∪◌}
use Rattle.msgpack.specs.Grammar.{Code, Number, Str, ArrayHead, MapHead}
use Rattle.arrays.specs.Grammar.{Whole as IsWhole}
use Rattle.values.specs.Value.{Scalar, Layer, Member, Value}
use Rattle.values.specs.Value.Scalar.{Null, Flag, Whole, Below, Text}
use Rattle.values.specs.Value.Layer.{Plain, Items, Members}

-- ---- integers below 0
-- the integer -1 - n in one byte
abbrev pub NegativeFix : ℕ → Language
NegativeFix n t = (b : ℕ) × (n ≤ 31) × (b + n ≡ 255) × Code b t

-- the same in two's complement: so many bytes tell the number m, which is 256 ^ width above -1 - n
abbrev pub Minus : ℕ → ℕ → ℕ → ℕ → Language
Minus first width half n t = (m : ℕ) × (n < half) × (m + n + 1 ≡ 256 ^ width) × (Code first · Number width m) t

-- negative fixint E0 to FF; int 8, 16, 32 and 64
abbrev pub IsBelow : ℕ → Language
IsBelow n =
    NegativeFix n ∪ Minus 0xd0 1 0x80 n ∪ Minus 0xd1 2 0x8000 n ∪ Minus 0xd2 4 0x80000000 n ∪ Minus 0xd3 8 0x8000000000000000 n

-- ---- values
-- a str of these bytes, which are UTF-8
abbrev pub IsText : List ℕ → Language
IsText u t = Encoded u × Str u t

abbrev pub MeansScalar : Scalar → Language
MeansScalar Null = Code 0xc0
MeansScalar (Flag false) = Code 0xc2
MeansScalar (Flag true) = Code 0xc3
MeansScalar (Whole n) = IsWhole n
MeansScalar (Below n) = IsBelow n
MeansScalar (Text u) = IsText u

-- a text for each of these, one after the other
abbrev pub Each : {A : Type 0} → (A → Language) → List A → Language
Each Inner [] = Is []
Each Inner (x ∷ xs) = Inner x · Each Inner xs

-- a key that is a str, and a value
abbrev pub MeansMember : {A : Type 0} → (A → Language) → Member A → Language
MeansMember Inner m = IsText m.key · Inner m.value

abbrev pub MeansLayer : {A : Type 0} → (A → Language) → Layer A → Language
MeansLayer Inner (Plain v) = MeansScalar v
MeansLayer Inner (Items vs) = ArrayHead (length vs) · Each Inner vs
MeansLayer Inner (Members ms) = MapHead (length ms) · Each (MeansMember Inner) ms

abbrev pub Means : (depth : ℕ) → Value depth → Language
Means zero v = MeansScalar v
Means (suc depth) v = MeansLayer (Means depth) v
