-- What the pairs of a map are that is an element of a message, by the format's own table as sets of texts (msgpack/specs/Grammar.antt).
-- specs/Maps.antt says the same as spans of the text; proofs/Grammar.antt proves that both agree.
use Rattle.std.specs.Prelude.{List, length}
use Rattle.seq.specs.Lists.{All, Pairs, joined}
use Rattle.lex.specs.Grammar.{Language, Is, ◌·◌}
use Rattle.msgpack.specs.Grammar.{MapHead, Pair, IsPair, Apart, both, Value}

-- one map of these pairs, in this order. PROTOCOL, "Sizes": depth 8 in all, the map being depth 2
abbrev pub MapOf : List Pair → Language
MapOf ps t = All (IsPair (Value 6)) ps × Pairs Apart ps × (MapHead (length ps) · Is (joined both ps)) t
