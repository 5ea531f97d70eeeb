-- Shapes in MessagePack: heads that count a payload's values, EVENT and INVOCATION by their Details. Assumes nothing.
use Prim.Native.Nat.{ℕ, ◌+◌, ◌<◌}
use mathlib.Core.List.{List, [], ◌∷◌, ◌++◌, append_assoc, append-nil}
use mathlib.Core.Path.{◌≡◌}
use borrow.Author.Tests.{lt-ltb}
use lib.ListN.{length}
use Rattle.seq.specs.declared.Span.{Span}
use Rattle.seq.specs.declared.PayloadSpans.{PayloadSpans}
use Rattle.seq.specs.declared.PayloadSpans.TheVariants.{Absent, Arguments, Keywords}
use Rattle.seq.specs.Bytes.{chars, Payload, Source, payload_in}
use Rattle.values.specs.Write.{pack_whole, pack_str, pack_array, pack_map, pack_text}
use Rattle.outgoing.specs.Outgoing.{concat, array, single, msgpack}
use Rattle.replies.specs.Meaning.{message_of}
use Rattle.replies.specs.declared.Naming.TheVariants.{Plain, Names}
use Rattle.replies.specs.declared.EventReply.{EventReply}
use Rattle.replies.specs.declared.InvocationReply.{InvocationReply}
use Rattle.replies.specs.declared.Reply.TheVariants.{Event, Invocation}

-- ---- heads
-- a head of fewer than 16 elements is one byte
pub few : (b n : ℕ) → n < 0x10 → b ≡ 0x90 + n → b ∷ [] ≡ pack_array n
unfolding pack_array
few b n h e = rw (lt-ltb n 0x10 h, e)

-- how many values a payload has
module _ (m : Source) (p : PayloadSpans) where
  pub none_in : p ≡ Absent → length (payload_in m p) ≡ 0
  none_in e = rw e

  pub one_in : (a : Span) → p ≡ Arguments a → length (payload_in m p) ≡ 1
  one_in a e = rw e

  pub two_in : (a d : Span) → p ≡ Keywords a d → length (payload_in m p) ≡ 2
  two_in a d e = rw e

-- ---- the Details
-- pieces of which two are one element
pub in_two : (h k x y d t : List ℕ) (p : Payload) → h ≡ pack_array (length (k ∷ x ∷ y ∷ (d ++ t) ∷ p))
    → h ++ (k ++ (x ++ (y ++ (d ++ (t ++ (concat p ++ [])))))) ≡ array (k ∷ x ∷ y ∷ (d ++ t) ∷ p)
in_two h k x y d t p e = rw (e, append-nil (concat p), append_assoc d t (concat p))

-- the URI stands behind the map's head and its key, as the pieces have it
topic-is : (t : List ℕ) → single (chars "topic") t ≡ (0x81 ∷ 0xa5 ∷ chars "topic") ++ t
unfolding pack_map pack_str pack_text
topic-is t = rw append-nil

procedure-is : (t : List ℕ) → single (chars "procedure") t ≡ (0x81 ∷ 0xa9 ∷ chars "procedure") ++ t
unfolding pack_map pack_str pack_text
procedure-is t = rw append-nil

module _ (m : Source) (e : EventReply) where
  pub event-plain : e.details ≡ Plain
      → array ((36 ∷ []) ∷ pack_whole e.subscription ∷ pack_whole e.publication ∷ pack_map 0 ∷ payload_in m e.payload)
      ≡ msgpack (message_of m (Event e))
  unfolding message_of msgpack pack_whole
  event-plain q = rw q

  pub event-named : e.details ≡ Names
      → array ((36 ∷ []) ∷ pack_whole e.subscription ∷ pack_whole e.publication
      ∷ ((0x81 ∷ 0xa5 ∷ chars "topic") ++ pack_text m.text) ∷ payload_in m e.payload)
      ≡ msgpack (message_of m (Event e))
  unfolding message_of msgpack pack_whole
  event-named q = rw (q, topic-is (pack_text m.text))

module _ (m : Source) (i : InvocationReply) where
  pub invocation-plain : i.details ≡ Plain
      → array ((68 ∷ []) ∷ pack_whole i.invocation ∷ pack_whole i.registration ∷ pack_map 0 ∷ payload_in m i.payload)
      ≡ msgpack (message_of m (Invocation i))
  unfolding message_of msgpack pack_whole
  invocation-plain q = rw q

  pub invocation-named : i.details ≡ Names
      → array ((68 ∷ []) ∷ pack_whole i.invocation ∷ pack_whole i.registration
      ∷ ((0x81 ∷ 0xa9 ∷ chars "procedure") ++ pack_text m.text) ∷ payload_in m i.payload)
      ≡ msgpack (message_of m (Invocation i))
  unfolding message_of msgpack pack_whole
  invocation-named q = rw (q, procedure-is (pack_text m.text))
