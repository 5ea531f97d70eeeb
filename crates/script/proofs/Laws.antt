-- Laws of the definitions of specs/: one turn of each loop, one way through each branch. Assumes nothing.
use mathlib.Core.Path.{◌≡◌, refl, sym, ap}
use Prim.Native.Nat.{ℕ, ◌+◌, ◌*◌, ◌-◌, ◌≤◌, ◌<◌}
use mathlib.Core.Bool.{Bool, true, false, cond, not, ◌||◌}
use mathlib.Core.List.{List, [], ◌∷◌}
use native.Mathlib.Nat.{add-zero}
use native.Mathlib.Numerals.{add-one}
use native.Mathlib.Omega.{arith}
use lib.ListN.{length, drop, drop_of_length-le}
use lib.Seq.{drop-cons}
use lib.Dec.{eqb}
use borrow.Author.Tests.{eq-eqb, ne_eqb, le-leb, lt-leb}
use Rattle.seq.specs.declared.Span.{Span}
use Rattle.seq.specs.Bytes.{is_digit, chars, byte_at, same, text_of}
use Rattle.seq.specs.Lists.{every, is_empty}
use Rattle.seq.proofs.Lists.{empty-length}
use Rattle.lex.specs.Lex.{run, past}
use Rattle.lex.proofs.Laws.{past-go, past_stop}
use Rattle.script.specs.declared.Reason.{Reason}
use Rattle.hex_text.specs.Hex.{is_whole}
use Rattle.script.specs.declared.Reason.TheVariants.{UnknownWord, NoSlot, NoNumber, NoMessage, TooLarge, AfterSlot, NoHex}
use Rattle.std.specs.Prelude.{Result, Ok, Err}
use Rattle.script.specs.declared.Sent.{Sent}
use Rattle.script.specs.declared.Line.TheVariants.{Blank, Attach, AttachMsgPack, Detach, Send, Bytes}
use Rattle.script.specs.Numbers.{max_number, value_from, fitting, number_of}
use Rattle.script.specs.Script.{on_ok, upto, spaces, word_at, slot_alone, rest, message_at, in_hex, step, read_text, text_end}

-- ---- places: i is where the loop stands
pub upto-end : (b : ℕ) (s : List ℕ) (i : ℕ) → length s ≤ i → upto b s i ≡ i
unfolding past run
upto-end b s i h = rw (drop_of_length-le s {i = i} h) (add-zero i)

pub upto-here : (b : ℕ) (s : List ℕ) (i : ℕ) → byte_at s i ≡ b → upto b s i ≡ i
upto-here b s i e = past_stop (λ x. not (eqb x b)) s i (ap not (eq-eqb (byte_at s i) b e))

pub upto-go : (b : ℕ) (s : List ℕ) (i : ℕ) → i < length s → (byte_at s i ≡ b → ⊥) → upto b s i ≡ upto b s (i + 1)
upto-go b s i h n = past-go (λ x. not (eqb x b)) s i h (ap not (ne_eqb (byte_at s i) b n))

-- ---- a number: v is the number read so far
value-more : (v : ℕ) (t : List ℕ) → v ≤ value_from v t
unfolding value_from
value-more v [] = omega arith
value-more v (b ∷ bs) = omega (arith, value-more (v * 10 + (b - 48)) bs)

pub value-large : (v : ℕ) (t : List ℕ) → max_number < v → fitting (value_from v t) ≡ Err TooLarge
unfolding fitting
value-large v t h = rw (lt-leb (value_from v t) max_number (omega (arith, value-more v t)))

pub value-end : (v : ℕ) (t : List ℕ) (i : ℕ) → length t ≤ i → v ≤ max_number → fitting (value_from v (drop i t)) ≡ Ok v
unfolding fitting value_from
value-end v t i h k = rw (drop_of_length-le t {i = i} h, le-leb v max_number k)

-- d is the digit's number
pub value-go : (v : ℕ) (t : List ℕ) (i : ℕ) → i < length t → (d : ℕ) → d ≡ byte_at t i - 48
    → value_from v (drop i t) ≡ value_from (v * 10 + d) (drop (i + 1) t)
unfolding value_from
value-go v t i h d e = rw (e, drop-cons t i 0 h, add-one)

module _ (missing : Reason) (word : List ℕ) where
  pub number-none : length word ≡ 0 → number_of missing word ≡ Err missing
  unfolding number_of
  number-none e = rw (empty-length word, e)

  pub number-other : every is_digit word ≡ false → number_of missing word ≡ Err missing
  unfolding number_of
  number-other e = go (is_empty word)
    where
      go : (b : Bool) → cond (b || not (every is_digit word)) (Err missing) (fitting (value_from 0 word)) ≡ Err missing
      go true = refl
      go false = rw e

  pub number_is : (length word ≡ 0 → ⊥) → every is_digit word ≡ true → number_of missing word ≡ fitting (value_from 0 word)
  unfolding number_of
  number_is n e = rw (empty-length word, ne_eqb (length word) 0 n, e)

-- ---- the message: b is the byte behind the lent number
module _ (s : List ℕ) (slot number at b : ℕ) (eb : b ≡ byte_at s at) where
  pub rest-none : (b ≡ 32 → ⊥) → rest s slot number at ≡ Err NoMessage
  unfolding rest
  rest-none n = rw (sym eb, ne_eqb b 32 n)

  pub rest-is : b ≡ 32 → rest s slot number at
      ≡ Ok (record { slot = slot; number = number; message = record { from = at + 1; to = length s } })
  unfolding rest
  rest-is e = rw (sym eb, e)

-- ---- the end of the text
pub end_none : (s : List ℕ) → length s ≡ 0 → text_end s ≡ 0
unfolding text_end
end_none [] e = refl
end_none (x ∷ s) e = absurd (omega arith)

module _ (s : List ℕ) (b : ℕ) (eb : b ≡ byte_at s (length s - 1)) where
  pub end-return : b ≡ 13 → text_end s ≡ length s - 1
  unfolding text_end
  end-return e = rw (sym eb, e)

  pub end-plain : (b ≡ 13 → ⊥) → text_end s ≡ length s
  unfolding text_end
  end-plain n = rw (sym eb, ne_eqb b 13 n)

-- ---- a slot alone: w is its word, e the place past the spaces behind it
module _ (s : List ℕ) (at : ℕ) (w : Span) (e : ℕ) (ew : w ≡ word_at s at) (ee : e ≡ spaces s w.to) where
  pub alone-more : (e ≡ length s → ⊥) → slot_alone s at ≡ Err AfterSlot
  unfolding slot_alone
  alone-more n = rw (sym ew, sym ee, ne_eqb e (length s) n)

  pub alone-is : e ≡ length s → slot_alone s at ≡ number_of NoSlot (text_of s w)
  unfolding slot_alone
  alone-is h = rw (sym ew, sym ee, eq-eqb e (length s) h)

-- ---- what follows `send` or `bytes`: its first and second word
module _ (s : List ℕ) (at : ℕ) (one two : Span) (e1 : one ≡ word_at s at) (e2 : two ≡ word_at s one.to) where
  pub no_slot : (r : Reason) → number_of NoSlot (text_of s one) ≡ Err r → message_at s at ≡ Err r
  unfolding message_at
  no_slot r h = rw (sym e1, h)

  pub no_number : (slot : ℕ) (r : Reason) → number_of NoSlot (text_of s one) ≡ Ok slot → number_of NoNumber (text_of s two) ≡ Err r
      → message_at s at ≡ Err r
  unfolding message_at
  no_number slot r h k = rw (sym e1, h, sym e2, k)

  pub both-numbers : (slot number : ℕ) → number_of NoSlot (text_of s one) ≡ Ok slot → number_of NoNumber (text_of s two) ≡ Ok number
      → message_at s at ≡ rest s slot number two.to
  unfolding message_at
  both-numbers slot number h k = rw (sym e1, h, sym e2, k)

-- ---- a message that is given in hex: t is its text
module _ (s : List ℕ) (sent : Sent) (t : List ℕ) (et : t ≡ text_of s sent.message) where
  pub hex-is : is_whole t ≡ true → in_hex s sent ≡ Ok (Bytes sent)
  unfolding in_hex
  hex-is h = rw (sym et, h)

  pub hex-none : is_whole t ≡ false → in_hex s sent ≡ Err NoHex
  unfolding in_hex
  hex-none h = rw (sym et, h)

-- ---- a line by its first word: name is the word's text
module _ (s : List ℕ) (word : Span) (name : List ℕ) (en : name ≡ text_of s word) where
  pub step-attach : same name (chars "attach") ≡ true → step s word ≡ on_ok (slot_alone s word.to) (λ slot. Ok (Attach slot))
  unfolding step
  step-attach h = rw (sym en, h)

  module _ (a : same name (chars "attach") ≡ false) where
    pub step-msgpack : same name (chars "attach_msgpack") ≡ true → step s word ≡ on_ok (slot_alone s word.to) (λ slot. Ok (AttachMsgPack slot))
    unfolding step
    step-msgpack h = rw (sym en, a, h)

    module _ (m : same name (chars "attach_msgpack") ≡ false) where
      pub step-detach : same name (chars "detach") ≡ true → step s word ≡ on_ok (slot_alone s word.to) (λ slot. Ok (Detach slot))
      unfolding step
      step-detach h = rw (sym en, a, m, h)

      module _ (d : same name (chars "detach") ≡ false) where
        pub step-send : same name (chars "send") ≡ true → step s word ≡ on_ok (message_at s word.to) (λ sent. Ok (Send sent))
        unfolding step
        step-send h = rw (sym en, a, m, d, h)

        module _ (n : same name (chars "send") ≡ false) where
          pub step-bytes : same name (chars "bytes") ≡ true → step s word ≡ on_ok (message_at s word.to) (in_hex s)
          unfolding step
          step-bytes h = rw (sym en, a, m, d, n, h)

          pub step-unknown : same name (chars "bytes") ≡ false → step s word ≡ Err UnknownWord
          unfolding step
          step-unknown h = rw (sym en, a, m, d, n, h)

-- ---- a line: w is its first word
module _ (s : List ℕ) (w : Span) (ew : w ≡ word_at s 0) where
  pub text-blank : w.from ≡ length s → read_text s ≡ Ok Blank
  unfolding read_text
  text-blank h = rw (sym ew, eq-eqb w.from (length s) h)

  -- b is its first byte
  module _ (n : w.from ≡ length s → ⊥) (b : ℕ) (eb : b ≡ byte_at s w.from) where
    pub text-comment : b ≡ 35 → read_text s ≡ Ok Blank
    unfolding read_text
    text-comment h = rw (sym ew, ne_eqb w.from (length s) n, sym eb, h)

    pub text-step : (b ≡ 35 → ⊥) → read_text s ≡ step s w
    unfolding read_text
    text-step h = rw (sym ew, ne_eqb w.from (length s) n, sym eb, ne_eqb b 35 h)
