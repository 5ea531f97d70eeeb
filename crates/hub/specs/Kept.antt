-- What a step stores over the lent bytes, beside its sessions.
use Rattle.std.specs.Prelude.{ℕ, List}
use Rattle.pattern.specs.declared.Row.{Row}
use Rattle.keep.specs.Keep.{kept_call, kept_row, ended_bytes}
use Rattle.next.specs.declared.Effect.{Effect}
use Rattle.next.specs.declared.Effect.TheVariants as Effect

-- r is the row that is stored, if any
abbrev pub kept_effect : List ℕ → Row → Effect → List ℕ
kept_effect s r Effect.Nothing = s
kept_effect s r (Effect.Call k call) = kept_call s k call
kept_effect s r (Effect.Row kind k counter) = kept_row s kind k counter r
kept_effect s r (Effect.Ends i) = ended_bytes i s
kept_effect s r (Effect.Publishes p) = s
