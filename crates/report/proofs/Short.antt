-- How long the text of a message gets: at most six times as long as the message, and 12 bytes more. Assumes nothing.
use Prim.Native.Nat.{ℕ, ◌+◌, ◌*◌, ◌≤◌}
use mathlib.Core.Path.{◌≡◌, refl, ap}
use mathlib.Core.Bool.{true, ◌&&◌}
use mathlib.Core.List.{List, [], ◌∷◌}
use native.Mathlib.Omega.{arith}
use lib.Dec.{eqb, leb, ltb}
use lib.ListN.{length, length-append}
use borrow.Author.Tests.{eqb-true}
use Rattle.seq.specs.declared.Format.TheVariants.{Json, MsgPack}
use Rattle.seq.specs.Bytes.{is_byte, byte_at}
use Rattle.seq.specs.Lists.{every}
use Rattle.seq.proofs.Bytes.{bytes-are}
use Rattle.seq.proofs.Logic.{and_left, and_right, cond-case}
use Rattle.hex_text.specs.Hex.{hex_byte, hex_of}
use Rattle.values.specs.Read.{Read}
use Rattle.values.specs.Read.Read.{Gives, Not}
use Rattle.values.specs.Write.{write}
use Rattle.values.specs.Stands.{stands}
use Rattle.values.proofs.Given.{made-gives}
use Rattle.values.proofs.Sizes.{to-json}
use Rattle.conversion.specs.Converts.{convert}
use Rattle.report.specs.Text.{depth, longest, is_shown, hex_text, packed_text, body_text}

digits-length : (s : List ℕ) → length (hex_of s) ≡ 2 * length s
unfolding hex_byte
digits-length [] = refl
digits-length (b ∷ s) = let r = digits-length s in omega arith

hex-short : (body : List ℕ) → length (hex_text body) ≤ 4 + 6 * length body
unfolding hex_text
hex-short body = simp length-append (omega (arith, digits-length body))

-- what it is shown as, where the whole of it is bytes of one value
json-short : (body json : List ℕ) (end : ℕ) → convert MsgPack Json depth body 0 ≡ Gives json end → every is_byte body ≡ true
    → end ≡ length body → length json ≤ 6 * length body
unfolding convert
json-short body json end h b e =
    let m = made-gives (write Json depth) (stands MsgPack depth body 0) json end h in
    let n = to-json depth body ((bytes-are body).0 b) 0 end m.0 m.1 in
    omega (arith, ap length m.2)

packed-by : (body : List ℕ) (r : Read (List ℕ))
    → ((json : List ℕ) (end : ℕ) → r ≡ Gives json end → every is_byte body ≡ true → end ≡ length body → length json ≤ 6 * length body)
    → length (packed_text body r) ≤ 4 + 6 * length body
unfolding packed_text
packed-by body (Gives json end) h =
    let fits : (is_shown body json end ≡ true) → length json ≤ 4 + 6 * length body =
    λ t.
    let some = and_right (every is_byte body) (eqb end (length body) && leb (length json) longest) t in
    let whole = eqb-true end (length body) (and_left (eqb end (length body)) (leb (length json) longest) some) in
    omega (arith, h json end refl (and_left (every is_byte body) (eqb end (length body) && leb (length json) longest) t) whole) in
    cond-case (λ l. length l ≤ 4 + 6 * length body) (is_shown body json end) json (hex_text body) fits (λ _. hex-short body)
packed-by body Not h = hex-short body

pub body-short : (body : List ℕ) → length (body_text body) ≤ 12 + 6 * length body
unfolding body_text
body-short body =
    let n = packed-by body (convert MsgPack Json depth body 0) (json-short body) in
    cond-case (λ l. length l ≤ 12 + 6 * length body) (ltb (byte_at body 0) 128) body _ (λ _. omega arith) (λ _. simp length-append (omega arith))
