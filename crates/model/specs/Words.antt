-- The words that the definitions of this crate are written in: numbers, lists and tests (their operators come from the library itself); the
-- types of src/lib.rt; and, of the crates below, texts, rows and messages.
pub use Rattle.std.specs.Prelude.{Option, Some, None, ℕ, zero, suc, Bool, true, false, not, cond, List, [], map, length, get_or, set, replicate, drop, take, eqb, leb, ltb}
pub use Rattle.seq.specs.Lists.{first, on_found, tally, every, pairwise, All, Pairs, joined, bit}
pub use Rattle.seq.specs.declared.Format.{Format, TheVariants.Json, TheVariants.MsgPack}
pub use Rattle.seq.specs.{Bytes.same, Bytes.chars, Bytes.Payload, Numbers.last_id}
pub use Rattle.uri.specs.declared.Policy.{Policy, TheVariants.Exact, TheVariants.Prefix, TheVariants.Wildcard}
pub use Rattle.uri.specs.Uri.{longest, same_policy, policy_no, TextRule, valid_topic, valid_procedure, valid_published, valid_called}
pub use Rattle.pattern.specs.{declared.Row.Row, Choice.no_row, Choice.row_text, Choice.fits_row, Choice.choice, Right.Right}
pub use Rattle.incoming.specs.{Incoming.Incoming, Read.read}
pub use Rattle.options.specs.Audience.{Audience, leaves, any_wrong}
pub use Rattle.outgoing.specs.Outgoing.{Outgoing, Answer, Result, Failure, Request, Details, uri_text}
pub use Rattle.outgoing.specs.{declared.Uri.Uri, Layout.Mail, Layout.layout}
pub use Rattle.conversion.specs.Carried.{Carried, As, NotConvertible, on_carried, carried}
pub use Rattle.model.specs.declared.{Session.Session, Table.Table, HeldCall.HeldCall, Hub.Hub}
pub use Rattle.model.specs.declared.Status.{Status, TheVariants.Closed, TheVariants.Attached, TheVariants.Open, TheVariants.AttachedMsgPack, TheVariants.OpenMsgPack}
pub use Rattle.model.specs.declared.Event.{Event, TheVariants.Attach, TheVariants.Detach, TheVariants.Message}
pub use Rattle.model.specs.declared.Outcome.{Outcome, TheVariants.Done, TheVariants.BadState, TheVariants.BadSlot, TheVariants.WrongTime, TheVariants.BadNumber, TheVariants.NoRoom}
