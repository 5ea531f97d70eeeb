-- What a JSON text means (PROTOCOL, "Values"): each value by the texts of RFC 8259's grammar that stand for it. `stands` of values/specs/Stands.antt
-- says the same as a function that reads; proofs/Json.antt proves that both agree. That no two keys of a dict are alike is said elsewhere
-- (json/specs/Grammar.antt, `Object`).
use Rattle.std.specs.Prelude.{ℕ, zero, suc, ◌+◌, ◌<◌, true, false, List, map, ◌⊎◌, ◌≡◌}
use Rattle.seq.specs.Bytes.{chars}
use Rattle.seq.specs.Decimal.{decimal}
use Rattle.seq.specs.Lists.{Both}
use Rattle.strings.specs.Strings.{has_lone, inner, meant}
use Rattle.lex.specs.Grammar.{Language, Is, Sign, ◌·◌, String}
use Rattle.json_text.specs.Grammar.{Array, Enclosed, IsMember, Member as MemberText}
use Rattle.values.specs.Value.{Scalar, Layer, Member, Value}
use Rattle.values.specs.Value.Scalar.{Null, Flag, Whole, Below, Text}
use Rattle.values.specs.Value.Layer.{Plain, Items, Members}

-- section 7: a string with both its quotes that stands for this text; a half of a surrogate pair that stands alone is no character
abbrev pub Says : List ℕ → Language
Says text t = String t × (has_lone (inner t) ≡ false) × (meant t ≡ text)

-- section 3: the literal names, and strings; section 6: integers from -2^63 to 2^64 - 1, each an int with or without a minus and neither frac nor
-- exp. The int of n has n's shortest digits. A zero may have a minus
abbrev pub MeansScalar : Scalar → Language
MeansScalar Null t = Is (chars "null") t
MeansScalar (Flag true) t = Is (chars "true") t
MeansScalar (Flag false) t = Is (chars "false") t
MeansScalar (Whole n) t = ((n < 0x10000000000000000) × Is (decimal n) t) ⊎ ((n ≡ 0) × (Sign "-" · Sign "0") t)
MeansScalar (Below n) t = (n < 0x8000000000000000) × (Sign "-" · Is (decimal (n + 1))) t
MeansScalar (Text text) t = Says text t

-- section 4: a member whose key and value mean these
abbrev pub MeansMember : {A : Type 0} → (A → Language) → MemberText → Member A → Type 0
MeansMember Inner p m = Says m.key p.key × IsMember (Inner m.value) p

-- sections 4 and 5: the elements of a list, and the members of a dict, each with its meaning, in this order
abbrev pub MeansLayer : {A : Type 0} → (A → Language) → Layer A → Language
MeansLayer Inner (Plain v) t = MeansScalar v t
MeansLayer Inner (Items vs) t = (elements : List (List ℕ)) × Both (λ e v. Inner v e) elements vs × Array elements t
MeansLayer Inner (Members ms) t =
    (members : List MemberText) × Both (MeansMember Inner) members ms × Enclosed "{" "}" (map (λ p. p.text) members) t

-- a value in which `depth` lists and dicts may be opened, one within the other
abbrev pub Means : (depth : ℕ) → Value depth → Language
Means zero v = MeansScalar v
Means (suc depth) v = MeansLayer (Means depth) v
