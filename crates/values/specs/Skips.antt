-- Where the value at a place ends, in both formats, as the readers of messages take it.
use Rattle.std.specs.Prelude.{ℕ, ◌<◌, true, ◌≡◌, length, List, Option}
use Rattle.seq.specs.declared.Format.{Format}
use Rattle.seq.specs.declared.Format.TheVariants.{Json, MsgPack}
use Rattle.seq.specs.Lists.{All}
use Rattle.utf8.specs.Utf8.{well_formed}
use Rattle.json_text.specs.Json.{value as json_value}
use Rattle.msgpack.specs.MsgPack.{value as pack_value}
use Rattle.values.specs.Value.{short}

abbrev pub skips : Format → ℕ → List ℕ → ℕ → Option ℕ
skips Json depth s at = json_value depth s at
skips MsgPack depth s at = pack_value depth s at

-- what is asked of a text so that what is read from it can be written again: UTF-8 whose length both formats can tell; bytes
abbrev pub Readable : Format → List ℕ → Type 0
Readable Json s = (well_formed s ≡ true) × short (length s)
Readable MsgPack s = All (λ b. b < 256) s
