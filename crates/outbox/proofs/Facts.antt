-- The order of a step's messages, computed on a small outbox: an own message, a canceled call, and two rows of events that slots 0 and 1 hold;
-- and what slots of two formats get. Each edit of must-fail/ that changes the order or what is got makes it false. Assumes nothing.
use Rattle.std.specs.Prelude.{Some, None, Option}
use mathlib.Core.Bool.{true, false}
use mathlib.Core.List.{[], ◌∷◌, ◌++◌}
use mathlib.Core.Path.{◌≡◌, refl}
use Prim.Native.Nat.{ℕ}
use Rattle.seq.specs.Bytes.{chars}
use Rattle.seq.specs.Lists.{joined}
use Rattle.seq.specs.declared.PayloadSpans.{PayloadSpans}
use Rattle.seq.specs.declared.PayloadSpans.TheVariants.{Absent, Arguments}
use Rattle.seq.specs.declared.Format.TheVariants.{Json}
use Rattle.conversion.specs.Sources.{Sources, sources}
use Rattle.outgoing.specs.Outgoing as Out
use Rattle.outgoing.specs.Layout.{Mail, Formats, all_json, formats_of}
use Rattle.replies.specs.Meaning.{message_of}
use Rattle.outgoing.specs.Outgoing.{uri_text}
use Rattle.replies.specs.declared.Naming.TheVariants.{Plain}
use Rattle.replies.specs.declared.Reply.TheVariants.{Published, Result}
use Rattle.outgoing.specs.declared.Uri.TheVariants.{Canceled}
use Rattle.outbox.specs.Meaning.{mail, own_mails, cancel_mails, to_holders, event_to, event_mails, mails_of}
use Rattle.outbox.specs.declared.EventRow.{EventRow}
use Rattle.outbox.specs.declared.Outbox.{Outbox}

-- an event of a row, to slots 0 and 1
abbrev row : ℕ → EventRow
row subscription = record { subscription = subscription; details = Plain; holders = true ∷ true ∷ [] }

abbrev event : ℕ → ℕ → Mail
event slot subscription = mail slot (Out.Event subscription 7 Out.Plain [])

abbrev small : Outbox
small =
    record {
      own = Some (record { slot = 3; reply = Published 5 7 });
      cancels = record { slot = 2; request = 9 } ∷ [];
      publication = 7;
      payload = Absent;
      other = None;
      events = row 1 ∷ row 2 ∷ [];
    }

-- PROTOCOL, "What each message does": the own message, then canceled, then events by row, then by slot
order : mails_of all_json (sources Json [] [] []) small
    ≡ mail 3 (Out.Published 5 7) ∷ mail 2 (Out.Reply 9 (Out.Failure (uri_text Canceled) []))
    ∷ event 0 1 ∷ event 1 1 ∷ event 0 2 ∷ event 1 2 ∷ []
unfolding mails_of cancel_mails event_mails event_to to_holders message_of
order = refl

-- ---- slot 0 speaks JSON, slot 1 MessagePack; the message is JSON, its payload [7], in MessagePack 91 07
abbrev both : Formats
both = formats_of (false ∷ true ∷ [])

abbrev from-json : Sources
from-json = sources Json (chars "[7]") (145 ∷ 7 ∷ []) []

-- a row that both slots hold
abbrev to_both : Option PayloadSpans → Outbox
to_both other =
    record {
      own = None;
      cancels = [];
      publication = 7;
      payload = Arguments (record { from = 0; to = 3 });
      other = other;
      events = row 1 ∷ [];
    }

-- PROTOCOL, "Values": slot 1 gets the payload converted
converted : mails_of both from-json (to_both (Some (Arguments (record { from = 0; to = 2 }))))
    ≡ mail 0 (Out.Event 1 7 Out.Plain (chars "[7]" ∷ [])) ∷ mail 1 (Out.Event 1 7 Out.Plain ((145 ∷ 7 ∷ []) ∷ [])) ∷ []
unfolding mails_of event_mails event_to to_holders
converted = refl

-- an event passes over a slot that its payload does not convert for
passed-over : mails_of both from-json (to_both None) ≡ mail 0 (Out.Event 1 7 Out.Plain (chars "[7]" ∷ [])) ∷ []
unfolding mails_of event_mails event_to to_holders
passed-over = refl

-- a reply's payload stands in the message for slot 0, and in what it was converted to for slot 1
replied : own_mails both from-json (Some (record { slot = 0; reply = Result 5 (Arguments (record { from = 0; to = 3 })) }))
    ++ own_mails both from-json (Some (record { slot = 1; reply = Result 5 (Arguments (record { from = 0; to = 2 })) }))
    ≡ mail 0 (Out.Reply 5 (Out.Result (chars "[7]" ∷ []))) ∷ mail 1 (Out.Reply 5 (Out.Result ((145 ∷ 7 ∷ []) ∷ []))) ∷ []
unfolding message_of
replied = refl

pub in-order : (fs : Formats) (m : Sources) (o : Outbox)
    → mails_of fs m o
    ≡ own_mails fs m o.own ++ (joined cancel_mails o.cancels ++ joined (event_mails fs m o.publication o.payload o.other) o.events)
unfolding mails_of
in-order fs m o = refl
