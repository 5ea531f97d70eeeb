-- How long messages and outputs are. Assumes nothing.
use Prim.Native.Nat.{ℕ, ◌+◌, ◌*◌, ◌≤◌}
use mathlib.Core.List.{List, [], ◌∷◌}
use mathlib.Core.Path.{◌≡◌, refl}
use native.Mathlib.Omega.{arith}
use lib.ListN.{length, length-append}
use Rattle.seq.specs.Numbers.{last_id}
use Rattle.seq.specs.Bytes.{chars}
use Rattle.seq.specs.Lists.{All}
use Rattle.seq.proofs.Digits.{decimal-id}
use Rattle.strings.specs.Strings.{escaped}
use Rattle.seq.specs.declared.Format.{Format}
use Rattle.seq.specs.declared.Format.TheVariants.{Json, MsgPack}
use Rattle.values.specs.Write.{pack_text, pack_str, pack_array, pack_map}
use Rattle.values.proofs.PackLengths.{whole-one, whole-nine}
use Rattle.outgoing.specs.Outgoing.{Failure, Reply, json, msgpack, render}
use Rattle.outgoing.specs.Layout.{Mail, Formats, entry, body, layout}

-- ---- messages
-- a canceled reply
pub canceled-short : (f : Format) (n : ℕ) → n ≤ last_id → length (render f (Reply n (Failure (chars "wamp.error.canceled") []))) ≤ 48
unfolding escaped render json msgpack pack_text pack_str pack_array pack_map
canceled-short Json n h = simp length-append (omega (arith, decimal-id n h))
canceled-short MsgPack n h = simp length-append (omega (arith, whole-one 8 (omega arith), whole-one 48 (omega arith), whole-nine n))

-- ---- the output
module _ (formats : Formats) where
  -- the bytes that a message adds: its entry and itself
  abbrev pub mail-length : Mail → ℕ
  mail-length m = 3 + length (render (formats m.to) m.message)

  -- one message more in front
  pub layout-cons : (m : Mail) (ms : List Mail) → length (layout formats (m ∷ ms)) ≡ length (layout formats ms) + mail-length m
  unfolding layout entry body
  layout-cons m ms = simp length-append (omega arith)

  -- no message: the count alone
  pub layout-none : length (layout formats []) ≡ 2
  unfolding layout
  layout-none = refl

  -- messages that each add at most 51 bytes, with their entries
  pub layout-bound : (ms : List Mail) → All (λ m. mail-length m ≤ 51) ms → length (layout formats ms) ≤ 2 + 51 * length ms
  layout-bound [] h = omega (arith, layout-none)
  layout-bound (m ∷ ms) h = let e = layout-cons m ms in let r = layout-bound ms h.1 in let k = h.0 in omega arith
