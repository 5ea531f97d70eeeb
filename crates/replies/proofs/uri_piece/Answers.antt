use mathlib.Core.Path.{sym, ap}
use Rattle.outgoing.specs.Outgoing.{quoted}
use Rattle.strings.specs.Strings.{escaped}
use Rattle.pieces.specs.Pieces.{texts, bytes_of}
use Rattle.outgoing.specs.Outgoing.{uri_text}
use Rattle.replies.proofs.uri_piece.Goals as goal

pub returns-in-ProtocolViolation : goal.returns-in-ProtocolViolation
unfolding escaped texts bytes_of
returns-in-ProtocolViolation c = λ m. ap (λ u. quoted (uri_text u)) (sym c.in-ProtocolViolation.is)

pub returns-in-NoSuchRealm : goal.returns-in-NoSuchRealm
unfolding escaped texts bytes_of
returns-in-NoSuchRealm c = λ m. ap (λ u. quoted (uri_text u)) (sym c.in-NoSuchRealm.is)

pub returns-in-GoodbyeAndOut : goal.returns-in-GoodbyeAndOut
unfolding escaped texts bytes_of
returns-in-GoodbyeAndOut c = λ m. ap (λ u. quoted (uri_text u)) (sym c.in-GoodbyeAndOut.is)

pub returns-in-InvalidArgument : goal.returns-in-InvalidArgument
unfolding escaped texts bytes_of
returns-in-InvalidArgument c = λ m. ap (λ u. quoted (uri_text u)) (sym c.in-InvalidArgument.is)

pub returns-in-InvalidUri : goal.returns-in-InvalidUri
unfolding escaped texts bytes_of
returns-in-InvalidUri c = λ m. ap (λ u. quoted (uri_text u)) (sym c.in-InvalidUri.is)

pub returns-in-ProcedureAlreadyExists : goal.returns-in-ProcedureAlreadyExists
unfolding escaped texts bytes_of
returns-in-ProcedureAlreadyExists c = λ m. ap (λ u. quoted (uri_text u)) (sym c.in-ProcedureAlreadyExists.is)

pub returns-in-NoSuchProcedure : goal.returns-in-NoSuchProcedure
unfolding escaped texts bytes_of
returns-in-NoSuchProcedure c = λ m. ap (λ u. quoted (uri_text u)) (sym c.in-NoSuchProcedure.is)

pub returns-in-NoSuchSubscription : goal.returns-in-NoSuchSubscription
unfolding escaped texts bytes_of
returns-in-NoSuchSubscription c = λ m. ap (λ u. quoted (uri_text u)) (sym c.in-NoSuchSubscription.is)

pub returns-in-NoSuchRegistration : goal.returns-in-NoSuchRegistration
unfolding escaped texts bytes_of
returns-in-NoSuchRegistration c = λ m. ap (λ u. quoted (uri_text u)) (sym c.in-NoSuchRegistration.is)

pub returns-in-NoRoom : goal.returns-in-NoRoom
unfolding escaped texts bytes_of
returns-in-NoRoom c = λ m. ap (λ u. quoted (uri_text u)) (sym c.in-NoRoom.is)

pub returns-in-NotConvertible : goal.returns-in-NotConvertible
unfolding escaped texts bytes_of
returns-in-NotConvertible c = λ m. ap (λ u. quoted (uri_text u)) (sym c.in-NotConvertible.is)

pub returns-in-Canceled : goal.returns-in-Canceled
unfolding escaped texts bytes_of
returns-in-Canceled c = λ m. ap (λ u. quoted (uri_text u)) (sym c.in-Canceled.is)
