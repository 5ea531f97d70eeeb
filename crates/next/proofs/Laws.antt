-- The canceled calls of a session's end, and the events of a publication, are the model's. Assumes nothing.
use Prim.Native.Nat.{ℕ}
use mathlib.Core.Bool.{Bool, true, false}
use mathlib.Core.List.{List, [], ◌∷◌, map}
use mathlib.Core.Path.{◌≡◌, refl}
use borrow.Author.Tests.{not-true}
use lib.Dec.{eqb}
use Rattle.seq.specs.Lists.{joined}
use Rattle.seq.proofs.Logic.{split, and_left}
use Rattle.outbox.specs.Meaning.{cancel_mails}
use Rattle.model.specs.declared.HeldCall.{HeldCall}
use Rattle.model.specs.State.{idle, serves_other}
use Rattle.model.specs.Step.{cancels}
use Rattle.state.specs.Change.{canceled_of, in_set}
use Rattle.seq.specs.Bytes.{payload_of}
use Rattle.conversion.specs.Sources.{Sources}
use Rattle.seq.proofs.Joined.{joined_same}
use Rattle.model.specs.declared.Session.{Session}
use Rattle.model.specs.declared.Hub.{Hub}
use Rattle.model.proofs.Formats.{Alike, row_any}
use Rattle.image.specs.Image.{with_sessions}
use Rattle.next.specs.declared.Publication.{Publication}
use Rattle.next.specs.Next.{cancel_of, events}

-- a call that is served for another is in use
served-used : (i : ℕ) (c : HeldCall) → serves_other i c ≡ true → eqb c.request 0 ≡ false
unfolding serves_other idle
served-used i c t = not-true _ (and_left _ _ t)

pub cancels-sent : (i : ℕ) (calls : List HeldCall) → joined cancel_mails (map cancel_of (map (canceled_of i) calls)) ≡ cancels i calls
unfolding cancel_mails canceled_of cancels
cancels-sent i [] = refl
cancels-sent i (c ∷ cs) =
    split (serves_other i c)
    (λ t. rw (t, served-used i c t, cancels-sent i cs))
    (λ t. rw (t, cancels-sent i cs))

-- the events are the same where sessions speak the same formats
pub events-any : (h : Hub) (ss : List Session) → Alike h (with_sessions h ss) → (m : Sources) (to : List Bool) (p : Publication)
    → events h m to p ≡ events (with_sessions h ss) m to p
events-any h ss e m to p =
    joined_same _ _ (row_any h (with_sessions h ss) e p.slot (in_set to) p.id m.text (payload_of m.message p.payload)) h.subscriptions.rows
