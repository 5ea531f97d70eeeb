use mathlib.Core.List.{◌++◌, append-nil}
use mathlib.Core.Path.{ap}
use Rattle.seq.specs.Lists.{joined}
use Rattle.outbox.specs.Meaning.{own_mails, cancel_mails, event_mails, mails_of}
use Rattle.outbox.proofs.ending.Goals as goal

pub returns : goal.returns
unfolding mails_of cancel_mails event_mails
returns c = λ fs m. ap (λ l. own_mails fs m c.args.own ++ l) (append-nil (joined cancel_mails c.args.cancels))
