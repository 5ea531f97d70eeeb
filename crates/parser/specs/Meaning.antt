-- What a parsed message means: over the message's bytes and its text.
use Rattle.std.specs.Prelude.{ℕ, ◌-◌, cond, List, ◌++◌, length, replicate, Some, None, Option}
use Rattle.seq.specs.declared.Format.{Format}
use Rattle.seq.specs.declared.PayloadSpans.{PayloadSpans}
use Rattle.seq.specs.declared.Span.{Span}
use Rattle.seq.specs.Bytes.{Payload, Source, source, text_of, payload_of, payload_in}
use Rattle.uri.specs.Uri.{valid_error}
use Rattle.elements.specs.declared.Elements.{Elements}
use Rattle.elements.specs.Elements.{max_elements, blank}
use Rattle.parser.specs.declared.Parsed.{Parsed}
use Rattle.parser.specs.declared.Parsed.TheVariants as P
use Rattle.parser.specs.declared.Heard.{Heard}
use Rattle.incoming.specs.Incoming.{Incoming, Hello, Abort, Goodbye, Error, Publish, Subscribe, Unsubscribe, Call, Register, Unregister, Yield, Violation}
use Rattle.incoming.specs.Read.{kinds_in, text_by, audience_in}

-- numbers and options as they are, of each span its bytes, and the text; an ERROR is one if its text is a URI
abbrev pub told : Source → Parsed → Incoming
told m P.Hello = Hello m.text
told m P.Abort = Abort
told m P.Goodbye = Goodbye
told m (P.Error e) = cond (valid_error m.text) (Error e.invocation m.text (payload_in m e.payload)) Violation
told m (P.Publish p) =
    Publish p.request p.acknowledge (audience_in p.format m.message p.options) m.text (payload_in m p.payload)
told m (P.Subscribe q) = Subscribe q.request q.policy m.text
told m (P.Unsubscribe r) = Unsubscribe r.request r.id
told m (P.Call c) = Call c.request m.text (payload_in m c.payload)
told m (P.Register q) = Register q.request q.policy m.text
told m (P.Unregister r) = Unregister r.request r.id
told m (P.Yield y) = Yield y.invocation (payload_in m y.payload)
told m P.Violation = Violation

-- over the bytes s of a message of a format alone
abbrev pub meaning : Format → List ℕ → Heard → Incoming
meaning f s h = told (source s (text_by f (text_of s h.text))) h.message

-- the same of what is a message, or none
abbrev pub meant : Format → List ℕ → Option Heard → Incoming
meant f s (Some h) = meaning f s h
meant f s None = Violation

-- the elements and their kinds, in an array of 7
abbrev pub held_in : Format → List ℕ → List Span → Elements
held_in f s ps = record { kinds = kinds_in f s ps; n = length ps; spans = ps ++ replicate (max_elements - length ps) blank }

-- go on with the payload, if one was found
abbrev pub on_tail : List ℕ → Option PayloadSpans → (Payload → Incoming) → Incoming
on_tail s (Some p) message = message (payload_of s p)
on_tail s None message = Violation
