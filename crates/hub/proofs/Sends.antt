-- What a publication's outbox holds are PUBLISHED and the model's events. Assumes nothing.
use Rattle.std.specs.Prelude.{Option}
use Prim.Native.Nat.{ℕ}
use mathlib.Core.Bool.{Bool, true}
use mathlib.Core.List.{List, ◌++◌, map}
use mathlib.Core.Path.{◌≡◌, ap, ap₂, ◌∙◌}
use Rattle.seq.specs.declared.Format.{Format}
use Rattle.seq.specs.declared.PayloadSpans.{PayloadSpans}
use Rattle.seq.specs.Lists.{joined}
use Rattle.seq.specs.Bytes.{payload_of}
use Rattle.conversion.specs.Carried.{converted, carried_by}
use Rattle.conversion.specs.Converts.{other}
use Rattle.conversion.specs.Sources.{Sources, sources, source_for}
use Rattle.outgoing.specs.Layout.{Formats}
use Rattle.replies.specs.Meaning.{message_of}
use Rattle.replies.specs.declared.Reply.TheVariants.{Published}
use Rattle.outbox.specs.declared.EventRow.{EventRow}
use Rattle.outbox.specs.declared.Outbox.{Outbox}
use Rattle.outbox.specs.declared.Send.{Send}
use Rattle.outbox.specs.Meaning.{own_mails, event_mails, mails_of}
use Rattle.model.specs.declared.Hub.{Hub}
use Rattle.model.specs.State.{format_at}
use Rattle.model.specs.Step.{mail, acknowledged}
use Rattle.next.specs.declared.Publication.{Publication}
use Rattle.next.specs.Next.{published, events}
use Rattle.relay.specs.Relay.{event_of, rows_cross}
use Rattle.relay.proofs.Laws.{events-sent}

-- the outbox, its own message and its rows, and what the payload was converted to, as the functions that make them promise
module _ (h : Hub) (p : Publication) (to : List Bool) (message text conv : List ℕ) (fs : Formats) (from : Format) (rows : List EventRow) (q : Option PayloadSpans)
    (own : Option Send) (box : Outbox)
    (speaks : fs ≡ format_at h)
    (from_is : from ≡ fs p.slot)
    (rows_are : rows ≡ map (event_of to text) h.subscriptions.rows)
    (crossed : rows_cross fs from rows ≡ true → carried_by conv q ≡ converted from (other from) (payload_of message p.payload))
    (own_is : (fs : Formats) (m : Sources)
    → own_mails fs m own ≡ acknowledged p.acknowledge (mail p.slot (message_of (source_for m (fs p.slot)) (Published p.request p.id))))
    (box-is : (fs : Formats) (m : Sources) → mails_of fs m box ≡ own_mails fs m own ++ joined (event_mails fs m p.id p.payload q) rows)
  where
    abbrev m : Sources
    m = sources from message conv text

    abbrev made : List EventRow
    made = map (event_of to text) h.subscriptions.rows

    crosses : rows_cross (format_at h) from made ≡ true → carried_by conv q ≡ converted from (other from) (payload_of message p.payload)
    crosses t = crossed (ap₂ (λ (g : Formats) rs. rows_cross g from rs) speaks rows_are ∙ t)

    events-are : joined (event_mails (format_at h) m p.id p.payload q) rows ≡ events h m to p
    events-are =
        ap (joined (event_mails (format_at h) m p.id p.payload q)) rows_are
        ∙ events-sent h p.slot to p.id m (from_is ∙ ap (λ (g : Formats). g p.slot) speaks) p.payload q h.subscriptions.rows crosses

    own-told : own_mails (format_at h) m own ≡ published p
    unfolding message_of
    own-told = own_is (format_at h) m

    pub publication-sent : (f : Format) (c : List ℕ) → mails_of fs m box ≡ published p ++ events h (sources f message c text) to p
    publication-sent f c = ap (λ (g : Formats). mails_of g m box) speaks ∙ (box-is (format_at h) m ∙ ap₂ ◌++◌ own-told events-are)
