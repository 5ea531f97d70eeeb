-- What an outbox means over what a step's messages are written from: messages, each with its slot.
use Rattle.std.specs.Prelude.{ℕ, suc, Bool, cond, List, [], ◌∷◌, ◌++◌, eqb, Option, None, Some}
use Rattle.seq.specs.Bytes.{Payload, source}
use Rattle.seq.specs.Lists.{joined}
use Rattle.seq.specs.declared.PayloadSpans.{PayloadSpans}
use Rattle.conversion.specs.Carried.{on_carried}
use Rattle.conversion.specs.Sources.{Sources, source_for, carried_in}
use Rattle.outgoing.specs.Outgoing as Out
use Rattle.outgoing.specs.Outgoing.{Outgoing}
use Rattle.outgoing.specs.Layout.{Mail, Formats}
use Rattle.replies.specs.Meaning.{details_of, message_of}
use Rattle.outgoing.specs.Outgoing.{uri_text}
use Rattle.outgoing.specs.declared.Uri.TheVariants.{Canceled}
use Rattle.outbox.specs.declared.Cancel.{Cancel}
use Rattle.outbox.specs.declared.EventRow.{EventRow}
use Rattle.outbox.specs.declared.Outbox.{Outbox}
use Rattle.outbox.specs.declared.Send.{Send}

-- a message to a slot
abbrev pub mail : ℕ → Outgoing → Mail
mail slot message = record { to = slot; message = message }

-- the message to the session whose step it is, or to a call's other side, or none; its payload stands in what messages of the slot's format are
-- written from
abbrev pub own_mails : Formats → Sources → Option Send → List Mail
own_mails fs m None = []
own_mails fs m (Some s) = mail s.slot (message_of (source_for m (fs s.slot)) s.reply) ∷ []

-- a held call that ends with its callee's session: canceled to the caller; request 0 is none
unfoldable pub cancel_mails : Cancel → List Mail
cancel_mails c = cond (eqb c.request 0) [] (mail c.slot (Out.Reply c.request (Out.Failure (uri_text Canceled) [])) ∷ [])

-- what each slot of a set gets, from slot i on
unfoldable pub to_holders : (ℕ → List Mail) → ℕ → List Bool → List Mail
to_holders gets i [] = []
to_holders gets i (b ∷ bs) = cond b (gets i ++ to_holders gets (suc i) bs) (to_holders gets (suc i) bs)

-- an event to a slot, with its payload in the slot's format; it passes over a slot that the payload does not convert for
unfoldable pub event_to : Formats → Sources → (Payload → Outgoing) → PayloadSpans → Option PayloadSpans → ℕ → List Mail
event_to fs m event payload other slot = on_carried (carried_in m payload other (fs slot)) (λ p. mail slot (event p) ∷ []) []

-- a row's event, by slot; subscription 0 is none
unfoldable pub event_mails : Formats → Sources → ℕ → PayloadSpans → Option PayloadSpans → EventRow → List Mail
event_mails fs m publication payload other r =
    let details = details_of (source m.message m.text) r.details in
    cond (eqb r.subscription 0) []
    (to_holders (event_to fs m (Out.Event r.subscription publication details) payload other) 0 r.holders)

-- PROTOCOL, "What each message does": the session's own message first, then canceled by row; PUBLISHED first, then events by row, then by slot
unfoldable pub mails_of : Formats → Sources → Outbox → List Mail
mails_of fs m o =
    own_mails fs m o.own
    ++ (joined cancel_mails o.cancels ++ joined (event_mails fs m o.publication o.payload o.other) o.events)
