use Rattle.outbox.specs.Meaning.{cancel_mails, mails_of}
use mathlib.Core.Path.{refl}
use Rattle.outbox.proofs.publishing.Goals as goal

pub returns : goal.returns
unfolding mails_of cancel_mails
returns c = λ fs m. refl
