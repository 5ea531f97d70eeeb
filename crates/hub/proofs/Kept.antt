-- What a step stores over a state's bytes are the bytes of the model's next state. Assumes nothing.
use Prim.Native.Nat.{ℕ, ◌<◌}
use mathlib.Core.Bool.{true}
use mathlib.Core.List.{List}
use mathlib.Core.Path.{◌≡◌, sym, ap, ◌∙◌}
use lib.Dec.{leb}
use lib.ListN.{length}
use Rattle.seq.specs.Lists.{All}
use Rattle.seq.proofs.Logic.{split}
use Rattle.uri.specs.Uri.{longest}
use Rattle.pattern.specs.declared.Row.{Row}
use Rattle.model.specs.declared.Session.{Session}
use Rattle.model.specs.declared.Hub.{Hub}
use Rattle.model.specs.State.{slots}
use Rattle.model.specs.Rules.{Sized}
use Rattle.model.specs.Step.{Next, output_of, done, refused, fitted}
use Rattle.image.specs.Image.{load, held, store, with_sessions}
use Rattle.image.proofs.RoundTrip.{claims}
use Rattle.keep.specs.Keep.{kept_sessions, kept_call, kept_row}
use Rattle.keep.proofs.Keep.{kept-sessions, kept-call, kept-row, sized-sessions, ended-kept}
use Rattle.next.specs.declared.Effect.{Effect}
use Rattle.next.specs.declared.Effect.TheVariants as Effect
use Rattle.next.specs.Next.{changed}
use Rattle.hub.specs.Answer.{if_done, kept}
use Rattle.hub.specs.Kept.{kept_effect}

module _ (s : List ℕ) (b : All (λ x. x < 256) s) (ok : (load s).ok ≡ true) (ss : List Session) (e : length ss ≡ slots) where
  abbrev after : Hub
  after = with_sessions (held s) ss

  sized : Sized after
  sized = sized-sessions (held s) (claims.sized s) ss e

  sessions-stored : kept_sessions s ss ≡ store after
  sessions-stored = ap (λ t. kept_sessions t ss) (sym (claims.loaded s b ok)) ∙ kept-sessions (held s) (claims.sized s) ss e

  pub effect-stored : (r : Row) (effect : Effect) → length r.text ≡ longest → kept_effect (kept_sessions s ss) r effect ≡ store (changed after r effect)
  effect-stored r Effect.Nothing t = sessions-stored
  effect-stored r (Effect.Call k c) t = ap (λ q. kept_call q k c) sessions-stored ∙ kept-call after sized k c
  effect-stored r (Effect.Row kind k counter) t = ap (λ q. kept_row q kind k counter r) sessions-stored ∙ kept-row after sized kind k counter r t
  effect-stored r (Effect.Ends i) t = ended-kept i s b ok ss e
  effect-stored r (Effect.Publishes p) t = sessions-stored

-- with room the next state is stored, without room nothing is
pub fitted-kept : (h : Hub) (room : ℕ) (x : Next) (new old : List ℕ) → new ≡ store x.hub
    → if_done (fitted h room x).outcome new old ≡ kept (fitted h room x) old
unfolding fitted done refused
fitted-kept h room x new old e = split (leb (length (output_of h x.mails)) room) (λ t. rw t e) (λ t. rw t)
