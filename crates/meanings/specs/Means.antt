-- The texts of a format that are a value, by the format's own grammar (PROTOCOL, "Values").
use Rattle.std.specs.Prelude.{ℕ}
use Rattle.seq.specs.declared.Format.{Format}
use Rattle.seq.specs.declared.Format.TheVariants.{Json, MsgPack}
use Rattle.lex.specs.Grammar.{Language}
use Rattle.values.specs.Value.{Value}
use Rattle.meanings.specs.Json as InJson
use Rattle.meanings.specs.MsgPack as InMsgPack

abbrev pub Means : Format → (depth : ℕ) → Value depth → Language
Means Json depth v = InJson.Means depth v
Means MsgPack depth v = InMsgPack.Means depth v
