-- What the code's next step is, over the state h before it, and what its messages are written from, m.
use Rattle.std.specs.Prelude.{ℕ, Bool, List, ◌++◌, set, Option}
use Rattle.seq.specs.Lists.{joined}
use Rattle.seq.specs.Bytes.{payload_of}
use Rattle.conversion.specs.Sources.{Sources}
use Rattle.outgoing.specs.Outgoing as Out
use Rattle.outgoing.specs.Outgoing.{Outgoing}
use Rattle.outgoing.specs.Layout.{Mail}
use Rattle.outgoing.specs.declared.Uri.{Uri}
use Rattle.replies.specs.declared.Kind as Request
use Rattle.replies.specs.Meaning.{request_of}
use Rattle.outgoing.specs.Outgoing.{uri_text}
use Rattle.outbox.specs.declared.Cancel.{Cancel}
use Rattle.outbox.specs.declared.Send.{Send}
use Rattle.outbox.specs.Meaning.{own_mails}
use Rattle.pattern.specs.declared.Row.{Row}
use Rattle.model.specs.declared.Hub.{Hub}
use Rattle.model.specs.State.{with_call, format_at}
use Rattle.model.specs.Step as Step
use Rattle.model.specs.Step.{mail, acknowledged, cancels, row_events}
use Rattle.image.specs.declared.Kind.{Kind}
use Rattle.image.specs.Image.{table_in, with_sessions, with_table, freed}
use Rattle.state.specs.declared.Canceled.{Canceled}
use Rattle.state.specs.Change.{in_set}
use Rattle.next.specs.declared.Publication.{Publication}
use Rattle.next.specs.declared.Effect.{Effect}
use Rattle.next.specs.declared.Effect.TheVariants as Effect
use Rattle.next.specs.declared.Next.{Next}

-- the state with a row in place k of a table, and the table's counter
abbrev pub with_row_of : Kind → Hub → ℕ → ℕ → Row → Hub
with_row_of kind h k counter r = with_table kind h (record { counter = counter; rows = set (table_in kind h).rows k r })

-- the state after what a step does beside its sessions and its own message
abbrev pub changed : Hub → Row → Effect → Hub
changed h r Effect.Nothing = h
changed h r (Effect.Call k c) = with_call h k c
changed h r (Effect.Row kind k counter) = with_row_of kind h k counter r
changed h r (Effect.Ends i) = freed i h
changed h r (Effect.Publishes p) = h

-- the events of a publication, which may go to a set of slots
abbrev pub events : Hub → Sources → List Bool → Publication → List Mail
events h m to p =
    joined (row_events h p.slot (in_set to) p.id m.text (payload_of m.message p.payload)) h.subscriptions.rows

-- PUBLISHED, where it is asked for
abbrev pub published : Publication → List Mail
published p = acknowledged p.acknowledge (mail p.slot (Out.Published p.request p.id))

-- all that is sent: the own message first; `to` is the set of slots that a publication's events may go to
abbrev pub sent : Hub → Sources → Option Send → List Bool → Effect → List Mail
sent h m own to Effect.Nothing = own_mails (format_at h) m own
sent h m own to (Effect.Call k c) = own_mails (format_at h) m own
sent h m own to (Effect.Row kind k counter) = own_mails (format_at h) m own
sent h m own to (Effect.Ends i) = own_mails (format_at h) m own ++ cancels i h.calls
sent h m own to (Effect.Publishes p) = published p ++ events h m to p

-- the state after, and the messages sent
abbrev pub next_of : Hub → Sources → Next → Step.Next
next_of h m x =
    record {
      hub = changed (with_sessions h x.sessions) x.row x.effect;
      mails = sent h m x.own x.to x.effect;
    }

-- a step that leads from h to g, and sends a publication
abbrev pub publishing : Hub → Hub → Sources → List Bool → Publication → Step.Next
publishing h g m to p = record { hub = g; mails = published p ++ events h m to p }

-- ERROR to a request other than CALL
abbrev pub error_of : Request.Kind → ℕ → Uri → Outgoing
error_of kind request uri = Out.Error (request_of kind) request (uri_text uri)

-- a canceled call as the outbox has it
abbrev pub cancel_of : Canceled → Cancel
cancel_of c = record { slot = c.slot; request = c.request }
