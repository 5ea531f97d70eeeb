-- Messages sent that are nothing to the book, and the requests that send no others and leave sessions and held calls alone: SUBSCRIBE,
-- UNSUBSCRIBE, REGISTER, UNREGISTER and PUBLISH. Assumes nothing.
use Rattle.std.specs.Prelude.{Some, None, Option}
use Prim.Native.Nat.{ℕ, suc}
use mathlib.Core.Path.{◌≡◌, refl}
use mathlib.Core.Logic.{inl, inr}
use mathlib.Core.Bool.{Bool, true, false, not, cond, ◌&&◌}
use mathlib.Core.List.{List, [], ◌∷◌, ◌++◌, append-nil}
use Rattle.seq.specs.Lists.{first, on_found, joined, All}
use Rattle.seq.proofs.Logic.{split, clash}
use Rattle.seq.proofs.Rules.{all_append, all-joined}
use Rattle.uri.specs.declared.Policy.{Policy}
use Rattle.uri.specs.Uri.{valid_topic, valid_procedure, valid_published}
use Rattle.pattern.specs.declared.Row.{Row}
use Rattle.pattern.specs.Choice.{fits_row}
use Rattle.outgoing.specs.Outgoing as Out
use Rattle.seq.specs.Bytes.{Payload}
use Rattle.outgoing.specs.Outgoing.{Outgoing, Request}
use Rattle.seq.specs.declared.Format.{Format}
use Rattle.conversion.specs.Carried.{carried}
use Rattle.conversion.proofs.Carried.{carried-case}
use Rattle.outgoing.specs.Layout.{Mail}
use Rattle.options.specs.Audience.{Audience, any_wrong}
use Rattle.model.specs.declared.Table.{Table}
use Rattle.model.specs.declared.Hub.{Hub}
use Rattle.model.specs.State.{format_at, unused, is_of, is_held_by, with_subscriptions, with_registrations}
use Rattle.model.specs.Step.{Next, mail, says, has_number, on_place, subscribe_new, subscribe_join, subscribe, register_new, register, unsubscribe, unregister, event_to, events_to, row_events, leaves_at, acknowledged, publishes, publish_error, publish}
use Rattle.model.specs.Book.{Book, none, Seen, Opens, Else, Invokes, Replies, names, seen, opens, welcomed, invocation_in, replies}
use Rattle.model.specs.Run.{In}

-- ---- the messages
-- neither WELCOME nor INVOCATION nor a reply to a call
abbrev pub Unseen : Mail → Type 0
Unseen m = seen m.message ≡ Else

pub past-replies : (ν : ℕ → ℕ) (φ : ℕ → Format) (own ms : List Mail) → All Unseen own → replies ν φ (own ++ ms) ≡ replies ν φ ms
unfolding replies
past-replies ν φ [] ms k = refl
past-replies ν φ (x ∷ xs) ms k = rw (k.0) (past-replies ν φ xs ms k.1)

pub past-invocation : (own ms : List Mail) → All Unseen own → invocation_in (own ++ ms) ≡ invocation_in ms
unfolding invocation_in
past-invocation [] ms k = refl
past-invocation (x ∷ xs) ms k = rw (k.0) (past-invocation xs ms k.1)

pub no-replies : (ν : ℕ → ℕ) (φ : ℕ → Format) (ms : List Mail) → All Unseen ms → replies ν φ ms ≡ []
unfolding replies
no-replies ν φ ms k = rw append-nil at (past-replies ν φ ms [] k)

pub no-invocation : (ms : List Mail) → All Unseen ms → invocation_in ms ≡ none
unfolding invocation_in
no-invocation ms k = rw append-nil at (past-invocation ms [] k)

-- ---- WELCOME
pub past-welcome : (own ms : List Mail) → All Unseen own → welcomed (own ++ ms) ≡ welcomed ms
unfolding welcomed
past-welcome [] ms k = refl
past-welcome (x ∷ xs) ms k = rw (k.0) (past-welcome xs ms k.1)

pub no-welcome : (ms : List Mail) → All Unseen ms → welcomed ms ≡ false
unfolding welcomed
no-welcome ms k = rw append-nil at (past-welcome ms [] k)

opens_still : (s : Seen) → opens s true ≡ true
opens_still Opens = refl
opens_still (Invokes v) = refl
opens_still (Replies n a) = refl
opens_still Else = refl

welcome-in : (i id : ℕ) (ms : List Mail) → In (mail i (Out.Welcome id)) ms → welcomed ms ≡ true
unfolding welcomed seen
welcome-in i id [] p = absurd p
welcome-in i id (m ∷ ms) (inl e) = rw (← e)
welcome-in i id (m ∷ ms) (inr p) = rw (welcome-in i id ms p) (opens_still (seen m.message))

-- a slot that is sent a WELCOME has a session of this name after
pub record Welcomes (ms : List Mail) (b : Book) (name : ℕ) : Type 0 where
  pub named : (i id : ℕ) → In (mail i (Out.Welcome id)) ms → names b.entrants i ≡ name

pub welcomes-none : {ms : List Mail} {b : Book} {name : ℕ} → welcomed ms ≡ false → Welcomes ms b name
welcomes-none {ms = ms} e = record { named = λ i id p. clash (welcome-in i id ms p) e }

-- ---- what a request leads to, from a hub g: sessions and calls stay, and no message is anything to the book
pub record Quiet (g : Hub) (x : Next) : Type 0 where
  pub sessions : x.hub.sessions ≡ g.sessions
  pub calls : x.hub.calls ≡ g.calls
  pub mails : All Unseen x.mails

quiet-cond : {g : Hub} {x y : Next} (t : Bool) → Quiet g x → Quiet g y → Quiet g (cond t x y)
quiet-cond true p q = p
quiet-cond false p q = q

quiet-found : {g : Hub} {x : ℕ → Next} {y : Next} (f : Option ℕ) → ((k : ℕ) → Quiet g (x k)) → Quiet g y → Quiet g (on_found f x y)
quiet-found (Some k) p q = p k
quiet-found None p q = q

-- one message, with the tables changed or not
module _ (g : Hub) (i : ℕ) (m : Outgoing) (e : seen m ≡ Else) where
  quiet-says : Quiet g (says g i m)
  unfolding says
  quiet-says = record { sessions = refl; calls = refl; mails = (e, tt) }

  quiet-subscriptions : (t : Table) → Quiet g (says (with_subscriptions g t) i m)
  unfolding says with_subscriptions
  quiet-subscriptions t = record { sessions = refl; calls = refl; mails = (e, tt) }

  quiet-registrations : (t : Table) → Quiet g (says (with_registrations g t) i m)
  unfolding says with_registrations
  quiet-registrations t = record { sessions = refl; calls = refl; mails = (e, tt) }

module _ (g : Hub) (i n : ℕ) where
  quiet-error : (r : Request) (uri : List ℕ) → Quiet g (says g i (Out.Error r n uri))
  unfolding seen
  quiet-error r uri = quiet-says g i _ refl

  quiet-place : {x : ℕ → Next} {y : Next} (t : Table) → ((k : ℕ) → Quiet g (x k)) → Quiet g y → Quiet g (on_place t x y)
  unfolding on_place
  quiet-place t p q = quiet-cond (has_number t) (quiet-found (first unused t.rows) p q) q

  pub subscribe-quiet : (policy : Option Policy) (topic : List ℕ) → Quiet g (subscribe g i n policy topic)
  unfolding subscribe subscribe_join subscribe_new seen
  subscribe-quiet None topic = quiet-error _ _
  subscribe-quiet (Some policy) topic =
      quiet-cond (valid_topic topic policy)
      (quiet-found (first (is_of policy topic) g.subscriptions.rows)
      (λ k. quiet-subscriptions g i _ refl _)
      (quiet-place _ (λ k. quiet-subscriptions g i _ refl _) (quiet-error _ _)))
      (quiet-error _ _)

  pub register-quiet : (policy : Option Policy) (procedure : List ℕ) → Quiet g (register g i n policy procedure)
  unfolding register register_new seen
  register-quiet None procedure = quiet-error _ _
  register-quiet (Some policy) procedure =
      quiet-cond (valid_procedure procedure policy)
      (quiet-found (first (is_of policy procedure) g.registrations.rows)
      (λ k. quiet-error _ _)
      (quiet-place _ (λ k. quiet-registrations g i _ refl _) (quiet-error _ _)))
      (quiet-error _ _)

  pub unsubscribe-quiet : (id : ℕ) → Quiet g (unsubscribe g i n id)
  unfolding unsubscribe seen
  unsubscribe-quiet id =
      quiet-found (first (is_held_by i id) g.subscriptions.rows) (λ k. quiet-subscriptions g i _ refl _) (quiet-error _ _)

  pub unregister-quiet : (id : ℕ) → Quiet g (unregister g i n id)
  unfolding unregister seen
  unregister-quiet id =
      quiet-found (first (is_held_by i id) g.registrations.rows) (λ k. quiet-registrations g i _ refl _) (quiet-error _ _)

-- ---- PUBLISH: PUBLISHED or an error, and events
event-unseen : (g : Hub) (i : ℕ) (event : Payload → Outgoing) (payload : Payload) → ((p : Payload) → seen (event p) ≡ Else) → (j : ℕ)
    → All Unseen (event_to g i event payload j)
unfolding event_to
event-unseen g i event payload e j = carried-case (All Unseen) (carried (format_at g i) (format_at g j) payload) _ _ (λ p _. (e p, tt)) (λ _. tt)

events-unseen : (event : ℕ → List Mail) → ((j : ℕ) → All Unseen (event j)) → (to : ℕ → Bool) (j : ℕ) (bs : List Bool) → All Unseen (events_to event to j bs)
unfolding events_to
events-unseen event e to j [] = tt
events-unseen event e to j (b ∷ bs) =
    let r = events-unseen event e to (suc j) bs in
    split (b && to j) (λ t. rw t (all_append Unseen (event j) _ (e j) r)) (λ t. rw t r)

row-unseen : (g : Hub) (i : ℕ) (to : ℕ → Bool) (publication : ℕ) (topic : List ℕ) (payload : Payload) (r : Row)
    → All Unseen (row_events g i to publication topic payload r)
unfolding row_events seen
row-unseen g i to publication topic payload r =
    split (fits_row topic r)
    (λ t. rw t (events-unseen _ (event-unseen g i _ payload (λ _. refl)) to 0 r.holders))
    (λ t. rw t tt)

acknowledged-unseen : (t : Bool) (m : Mail) → Unseen m → All Unseen (acknowledged t m)
unfolding acknowledged
acknowledged-unseen true m e = (e, tt)
acknowledged-unseen false m e = tt

pub publish-quiet : (g : Hub) (i n : ℕ) (acknowledge : Bool) (audience : Audience) (topic : List ℕ) (payload : Payload) (publication : ℕ)
    → Quiet g (publish g i n acknowledge audience topic payload publication)
unfolding publish publishes publish_error seen
publish-quiet g i n acknowledge audience topic payload publication =
    quiet-cond (any_wrong audience)
    (record { sessions = refl; calls = refl; mails = acknowledged-unseen acknowledge _ refl })
    (quiet-cond (valid_published topic)
    (record {
      sessions = refl;
      calls = refl;
      mails =
          let own = mail i (Out.Published n publication) in
          let events = row_events g i (leaves_at g i audience) publication topic payload in
          all_append Unseen (acknowledged acknowledge own) (joined events g.subscriptions.rows)
          (acknowledged-unseen acknowledge own refl)
          (all-joined Unseen events (row-unseen g i (leaves_at g i audience) publication topic payload) g.subscriptions.rows);
    })
    (record { sessions = refl; calls = refl; mails = acknowledged-unseen acknowledge _ refl }))
