-- Laws of a message's text: digits one byte after the other, and one way through each branch. Assumes nothing.
use Rattle.std.specs.Prelude.{Option, Some, None}
use Prim.Native.Nat.{ℕ, ◌+◌, ◌≤◌, ◌<◌}
use mathlib.Core.Path.{◌≡◌, sym, ap, subst, ◌∙◌}
use mathlib.Core.Bool.{true}
use mathlib.Core.List.{List, ◌++◌}
use native.Mathlib.Numerals.{add-one}
use native.Mathlib.Omega.{arith}
use lib.ListN.{length, drop}
use lib.Seq.{drop-cons}
use borrow.Author.Tests.{eq-eqb, ne_eqb, le-leb, lt-leb, lt-ltb, le-ltb}
use Rattle.seq.specs.declared.Format.TheVariants.{Json, MsgPack}
use Rattle.seq.specs.Bytes.{is_byte, byte_at, chars, part}
use Rattle.seq.specs.Lists.{every}
use Rattle.seq.proofs.Holds.{Holds, holds-part}
use Rattle.buffer.proofs.Sums.{capped-exact, capped_le}
use Rattle.buffer.proofs.Over.{over-holds}
use Rattle.hex_text.specs.Hex.{hex_byte, hex_of}
use Rattle.values.specs.Read.{Read}
use Rattle.values.specs.Read.Read.{Gives, Not}
use Rattle.conversion.specs.declared.Converted.{Converted}
use Rattle.conversion.specs.Converts.{Converts, convert, answer, Left}
use Rattle.conversion.proofs.Conv.{Took, took, refused}
use Rattle.report.specs.Text.{depth, longest, hex_text, packed_text, body_text}

pub digits-turn : (s : List ℕ) (i : ℕ) → i < length s → hex_of (drop i s) ≡ hex_byte (byte_at s i) ++ hex_of (drop (i + 1) s)
digits-turn s i h = rw (drop-cons s i 0 h, add-one)

-- ---- a message: b is its first byte
module _ (body : List ℕ) (b : ℕ) (eb : b ≡ byte_at body 0) where
  pub body-plain : b < 128 → body_text body ≡ body
  unfolding body_text
  body-plain h = rw (sym eb, lt-ltb b 128 h)

  pub body-packed : 128 ≤ b → body_text body ≡ chars "msgpack " ++ packed_text body (convert MsgPack Json depth body 0)
  unfolding body_text
  body-packed h = rw (sym eb, le-ltb b 128 h)

-- ---- a message in MessagePack: what the conversion c leaves of it in a buffer
converts : (old : List ℕ) (r : Read (List ℕ)) (c : Option Converted) (left : List ℕ) → c ≡ answer 0 r → Left old 0 r left
    → Converts old 0 (λ w. w) r c left
converts old (Gives w e) c left a b = record { so = (a, b) }
converts old Not c left a b = record { so = a }

packed-not : (body : List ℕ) (r : Read (List ℕ)) → r ≡ Not → packed_text body r ≡ hex_text body
unfolding packed_text
packed-not body r e = rw e

module _ (body : List ℕ) (bytes : every is_byte body ≡ true) (r : Read (List ℕ)) (json : List ℕ) (end : ℕ) (er : r ≡ Gives json end) where
  packed-cut : (end ≡ length body → ⊥) → packed_text body r ≡ hex_text body
  unfolding packed_text
  packed-cut n = rw (er, bytes, ne_eqb end (length body) n)

  module _ (e : end ≡ length body) where
    packed-long : longest < length json → packed_text body r ≡ hex_text body
    unfolding packed_text
    packed-long h = rw (er, bytes, eq-eqb end (length body) e, lt-leb (length json) longest h)

    packed-is : length json ≤ longest → packed_text body r ≡ json
    unfolding packed_text
    packed-is h = rw (er, bytes, eq-eqb end (length body) e, le-leb (length json) longest h)

module _ (body old left : List ℕ) (r : Read (List ℕ)) (c : Option Converted) (a : c ≡ answer 0 r) (l : Left old 0 r left) where
  pub shows-none : c ≡ None → packed_text body r ≡ hex_text body
  shows-none q = packed-not body r (refused (converts old r c left a l) q)

  module _ (bytes : every is_byte body ≡ true) (room : longest ≡ length old) (d : Converted) (q : c ≡ Some d) where
    so : Took old 0 (λ w. w) r d.read d.written left
    so = took (converts old r c left a l) q

    pub shows-cut : (d.read ≡ length body → ⊥) → packed_text body r ≡ hex_text body
    shows-cut n = packed-cut body bytes r so.value d.read so.read n

    pub shows-long : d.read ≡ length body → longest < d.written → packed_text body r ≡ hex_text body
    shows-long e h =
        packed-long body bytes r so.value d.read so.read e
        (omega (arith, so.wrote.ends, capped_le (0 + length so.value)))

    pub shows-json : d.read ≡ length body → d.written ≤ longest → packed_text body r ≡ part 0 d.written left
    shows-json e h =
        let w = so.value in
        let n : d.written ≡ 0 + length w = capped-exact (0 + length w) d.written so.wrote.ends (omega arith) in
        let holds : Holds left 0 w = subst (λ s. Holds s 0 w) (sym so.wrote.leaves) (over-holds old w (omega arith)) in
        packed-is body bytes r w d.read so.read e (omega arith) ∙ sym (ap (λ k. part 0 k left) n ∙ holds-part left 0 w holds)
