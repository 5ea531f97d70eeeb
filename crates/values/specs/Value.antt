-- The values that JSON and MessagePack both have (PROTOCOL, "Values").
use Rattle.std.specs.Prelude.{ℕ, zero, suc, ◌<◌, ◌≡◌, List, Bool, true, length}
use Rattle.seq.specs.Lists.{All, Pairs}
use Rattle.utf8.specs.Utf8.{well_formed}

-- a value that is no list and no dict
pub data Scalar : Type 0 where
  Null : Scalar
  Flag : Bool → Scalar
  -- the integer n
  Whole : ℕ → Scalar
  -- the integer -1 - n
  Below : ℕ → Scalar
  -- a string, as UTF-8
  Text : List ℕ → Scalar

-- a dict's member
pub record Member (A : Type 0) : Type 0 where
  pub key : List ℕ
  pub value : A

-- a value whose lists and dicts hold values of A
pub data Layer (A : Type 0) : Type 0 where
  Plain : Scalar → Layer A
  Items : List A → Layer A
  -- in their order
  Members : List (Member A) → Layer A

-- a value in which `depth` lists and dicts may be opened, one within the other
abbrev pub Value : ℕ → Type 0
Value zero = Scalar
Value (suc depth) = Layer (Value depth)

-- ---- values that can be written: integers from -2^63 to 2^64 - 1, texts of UTF-8, keys all different, and lengths that both formats can tell
abbrev pub short : ℕ → Type 0
short n = n < 0x100000000

pub record GoodText (t : List ℕ) : Type 0 where
  pub utf8 : well_formed t ≡ true
  pub sized : short (length t)

abbrev pub GoodScalar : Scalar → Type 0
GoodScalar Null = Unit {0}
GoodScalar (Flag b) = Unit {0}
GoodScalar (Whole n) = n < 0x10000000000000000
GoodScalar (Below n) = n < 0x8000000000000000
GoodScalar (Text t) = GoodText t

pub record GoodMember {A : Type 0} (P : A → Type 0) (m : Member A) : Type 0 where
  pub key : GoodText m.key
  pub value : P m.value

abbrev pub Differ : {A : Type 0} → Member A → Member A → Type 0
Differ m n = m.key ≡ n.key → ⊥

abbrev pub GoodLayer : {A : Type 0} → (A → Type 0) → Layer A → Type 0
GoodLayer P (Plain v) = GoodScalar v
GoodLayer P (Items vs) = short (length vs) × All P vs
GoodLayer P (Members ms) = short (length ms) × All (GoodMember P) ms × Pairs Differ ms

abbrev pub Good : (depth : ℕ) → Value depth → Type 0
Good zero v = GoodScalar v
Good (suc depth) v = GoodLayer (Good depth) v
