-- The shapes of EVENT and INVOCATION by their Details. Assumes nothing.
use mathlib.Core.List.{[], ◌∷◌, append_assoc}
use mathlib.Core.Path.{◌≡◌}
use Rattle.seq.specs.Bytes.{chars, Source, payload_in}
use Rattle.seq.specs.Decimal.{decimal}
use Rattle.strings.specs.Strings.{escaped}
use Rattle.outgoing.specs.Outgoing.{concat, payload_bytes, json}
use Rattle.replies.specs.Meaning.{message_of}
use Rattle.replies.specs.declared.Naming.TheVariants.{Plain, Names}
use Rattle.replies.specs.declared.EventReply.{EventReply}
use Rattle.replies.specs.declared.InvocationReply.{InvocationReply}
use Rattle.replies.specs.declared.Reply.TheVariants.{Event, Invocation}

module _ (m : Source) (e : EventReply) where
  pub event-plain : e.details ≡ Plain
      → concat (chars "[36," ∷ decimal e.subscription ∷ chars "," ∷ decimal e.publication ∷ chars ",{}"
      ∷ payload_bytes (payload_in m e.payload) ∷ chars "]" ∷ [])
      ≡ json (message_of m (Event e))
  unfolding message_of json
  event-plain q = rw q

  pub event-named : e.details ≡ Names
      → concat (chars "[36," ∷ decimal e.subscription ∷ chars "," ∷ decimal e.publication ∷ chars ",{\"topic\":\""
      ∷ escaped m.text ∷ chars "\"}" ∷ payload_bytes (payload_in m e.payload) ∷ chars "]" ∷ [])
      ≡ json (message_of m (Event e))
  unfolding escaped message_of json
  event-named q = rw q (simp append_assoc)

module _ (m : Source) (i : InvocationReply) where
  pub invocation-plain : i.details ≡ Plain
      → concat (chars "[68," ∷ decimal i.invocation ∷ chars "," ∷ decimal i.registration ∷ chars ",{}"
      ∷ payload_bytes (payload_in m i.payload) ∷ chars "]" ∷ [])
      ≡ json (message_of m (Invocation i))
  unfolding message_of json
  invocation-plain q = rw q

  pub invocation-named : i.details ≡ Names
      → concat (chars "[68," ∷ decimal i.invocation ∷ chars "," ∷ decimal i.registration ∷ chars ",{\"procedure\":\""
      ∷ escaped m.text ∷ chars "\"}" ∷ payload_bytes (payload_in m i.payload) ∷ chars "]" ∷ [])
      ≡ json (message_of m (Invocation i))
  unfolding escaped message_of json
  invocation-named q = rw q (simp append_assoc)
