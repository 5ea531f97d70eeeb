-- What a reply means over the incoming message and its text: a message of specs/Outgoing.antt.
use Rattle.std.specs.Prelude.{[]}
use Rattle.seq.specs.Bytes.{Source, payload_in}
use Rattle.outgoing.specs.Outgoing as Out
use Rattle.outgoing.specs.Outgoing.{Outgoing, Request, Details, uri_text}
use Rattle.replies.specs.declared.Kind.{Kind}
use Rattle.replies.specs.declared.Kind.TheVariants.{Publish, Subscribe, Unsubscribe, Register, Unregister}
use Rattle.replies.specs.declared.Naming.{Naming}
use Rattle.replies.specs.declared.Naming.TheVariants.{Plain, Names}
use Rattle.replies.specs.declared.Reply.{Reply}
use Rattle.replies.specs.declared.Reply.TheVariants.{Welcome, Abort, Goodbye, Error, Result, Failure, CallError, Published, Subscribed, Unsubscribed, Event, Registered, Unregistered, Invocation}

-- the request that an ERROR answers
abbrev pub request_of : Kind → Request
request_of kind =
    elim kind [ Publish ↦ Out.Publish | Subscribe ↦ Out.Subscribe | Unsubscribe ↦ Out.Unsubscribe | Register ↦ Out.Register | Unregister ↦ Out.Unregister ]

-- the URI published or called is the message's text
abbrev pub details_of : Source → Naming → Details
details_of m Plain = Out.Plain
details_of m Names = Out.Names m.text

-- the message that a reply stands for (PROTOCOL, "Sent")
unfoldable pub message_of : Source → Reply → Outgoing
message_of m (Welcome session) = Out.Welcome session
message_of m (Abort reason) = Out.Abort (uri_text reason)
message_of m (Goodbye reason) = Out.Goodbye (uri_text reason)
message_of m (Error e) = Out.Error (request_of e.kind) e.request (uri_text e.uri)
message_of m (Result request payload) = Out.Reply request (Out.Result (payload_in m payload))
message_of m (Failure request payload) = Out.Reply request (Out.Failure m.text (payload_in m payload))
message_of m (CallError request uri) = Out.Reply request (Out.Failure (uri_text uri) [])
message_of m (Published request publication) = Out.Published request publication
message_of m (Subscribed request subscription) = Out.Subscribed request subscription
message_of m (Unsubscribed request) = Out.Unsubscribed request
message_of m (Event e) = Out.Event e.subscription e.publication (details_of m e.details) (payload_in m e.payload)
message_of m (Registered request registration) = Out.Registered request registration
message_of m (Unregistered request) = Out.Unregistered request
message_of m (Invocation i) = Out.Invocation i.invocation i.registration (details_of m i.details) (payload_in m i.payload)
