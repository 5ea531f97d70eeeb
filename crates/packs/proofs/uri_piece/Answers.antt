use mathlib.Core.Path.{sym, ap}
use Rattle.pieces.specs.Pieces.{texts, bytes_of}
use Rattle.outgoing.specs.Outgoing.{uri_text}
use Rattle.values.specs.Write.{wide, pack_str, pack_text}
use Rattle.packs.proofs.uri_piece.Goals as goal

pub returns-in-ProtocolViolation : goal.returns-in-ProtocolViolation
unfolding texts bytes_of wide pack_str pack_text
returns-in-ProtocolViolation c = λ m. ap (λ u. pack_text (uri_text u)) (sym c.in-ProtocolViolation.is)

pub returns-in-NoSuchRealm : goal.returns-in-NoSuchRealm
unfolding texts bytes_of wide pack_str pack_text
returns-in-NoSuchRealm c = λ m. ap (λ u. pack_text (uri_text u)) (sym c.in-NoSuchRealm.is)

pub returns-in-GoodbyeAndOut : goal.returns-in-GoodbyeAndOut
unfolding texts bytes_of wide pack_str pack_text
returns-in-GoodbyeAndOut c = λ m. ap (λ u. pack_text (uri_text u)) (sym c.in-GoodbyeAndOut.is)

pub returns-in-InvalidArgument : goal.returns-in-InvalidArgument
unfolding texts bytes_of wide pack_str pack_text
returns-in-InvalidArgument c = λ m. ap (λ u. pack_text (uri_text u)) (sym c.in-InvalidArgument.is)

pub returns-in-InvalidUri : goal.returns-in-InvalidUri
unfolding texts bytes_of wide pack_str pack_text
returns-in-InvalidUri c = λ m. ap (λ u. pack_text (uri_text u)) (sym c.in-InvalidUri.is)

pub returns-in-ProcedureAlreadyExists : goal.returns-in-ProcedureAlreadyExists
unfolding texts bytes_of wide pack_str pack_text
returns-in-ProcedureAlreadyExists c = λ m. ap (λ u. pack_text (uri_text u)) (sym c.in-ProcedureAlreadyExists.is)

pub returns-in-NoSuchProcedure : goal.returns-in-NoSuchProcedure
unfolding texts bytes_of wide pack_str pack_text
returns-in-NoSuchProcedure c = λ m. ap (λ u. pack_text (uri_text u)) (sym c.in-NoSuchProcedure.is)

pub returns-in-NoSuchSubscription : goal.returns-in-NoSuchSubscription
unfolding texts bytes_of wide pack_str pack_text
returns-in-NoSuchSubscription c = λ m. ap (λ u. pack_text (uri_text u)) (sym c.in-NoSuchSubscription.is)

pub returns-in-NoSuchRegistration : goal.returns-in-NoSuchRegistration
unfolding texts bytes_of wide pack_str pack_text
returns-in-NoSuchRegistration c = λ m. ap (λ u. pack_text (uri_text u)) (sym c.in-NoSuchRegistration.is)

pub returns-in-NoRoom : goal.returns-in-NoRoom
unfolding texts bytes_of wide pack_str pack_text
returns-in-NoRoom c = λ m. ap (λ u. pack_text (uri_text u)) (sym c.in-NoRoom.is)

pub returns-in-NotConvertible : goal.returns-in-NotConvertible
unfolding texts bytes_of wide pack_str pack_text
returns-in-NotConvertible c = λ m. ap (λ u. pack_text (uri_text u)) (sym c.in-NotConvertible.is)

pub returns-in-Canceled : goal.returns-in-Canceled
unfolding texts bytes_of wide pack_str pack_text
returns-in-Canceled c = λ m. ap (λ u. pack_text (uri_text u)) (sym c.in-Canceled.is)
