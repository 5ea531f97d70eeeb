-- The first 129 bytes of a message's text lead to the same as the whole: a text of more than 128 is no URI and not the realm, cut or not.
-- Assumes nothing.
use Rattle.std.specs.Prelude.{Some, None, Option}
use Prim.Native.Nat.{ℕ, ◌≤◌, ◌<◌}
use mathlib.Core.Bool.{Bool, true, false}
use mathlib.Core.List.{List}
use mathlib.Core.Path.{◌≡◌, refl, ap}
use native.Mathlib.Omega.{arith}
use borrow.Author.Tests.{leb-true, leb-false}
use lib.Dec.{leb}
use lib.ListN.{length, take}
use lib.Seq.{take_all, length-take-le}
use Rattle.seq.specs.Bytes.{Payload, source, same}
use Rattle.seq.proofs.Bytes.{same-long}
use Rattle.seq.proofs.Logic.{split}
use Rattle.strings.specs.Places.{most_kept}
use Rattle.uri.specs.declared.Policy.{Policy}
use Rattle.uri.specs.Uri.{longest, valid_topic, valid_procedure, valid_published, valid_called, valid_error}
use Rattle.uri.proofs.Uses.{short-topic, short-procedure, short-published, short-called, short-error}
use Rattle.options.specs.Audience.{Audience}
use Rattle.parser.specs.declared.Parsed.{Parsed}
use Rattle.parser.specs.declared.Parsed.TheVariants as P
use Rattle.parser.specs.Meaning.{told}
use Rattle.model.specs.State.{Phase, IsClosed, IsAttached, IsOpen}
use Rattle.model.specs.declared.Event.{Event}
use Rattle.model.specs.declared.Event.TheVariants.{Attach, Detach, Message}
use Rattle.model.specs.declared.Session.{Session}
use Rattle.model.specs.declared.Hub.{Hub}
use Rattle.model.specs.Step.{realm_name, numbered, publish, subscribe, call, register, request, on_open, early, on_attached, hears, accepts}
use Rattle.hub.specs.declared.Early.{Early}
use Rattle.hub.specs.declared.Early.TheVariants.{Greets, Leaves, Wrong}
use Rattle.hub.specs.Answer.{early_of, event_bad, leads_to}

-- a rule whose texts have at most 128 bytes refuses a longer one
too_long : (v : Bool) (t : List ℕ) → (v ≡ true → length t ≤ longest) → longest < length t → v ≡ false
too_long v t short h = split v (λ e. let k = short e in absurd (omega arith)) (λ e. e)

not-realm : (t : List ℕ) → longest < length t → same t realm_name ≡ false
not-realm t h = same-long t realm_name (λ e. omega (arith, e))

-- two texts of more than 128 bytes each
module _ (a b : List ℕ) (la : longest < length a) (lb : longest < length b) where
  publish-long : (h : Hub) (i n : ℕ) (acknowledge : Bool) (audience : Audience) (payload : Payload) (id : ℕ)
      → publish h i n acknowledge audience a payload id ≡ publish h i n acknowledge audience b payload id
  unfolding publish
  publish-long h i n acknowledge audience payload id =
      rw (too_long (valid_published a) a (short-published a) la, too_long (valid_published b) b (short-published b) lb)

  subscribe-long : (h : Hub) (i n : ℕ) (wanted : Option Policy) → subscribe h i n wanted a ≡ subscribe h i n wanted b
  unfolding subscribe
  subscribe-long h i n None = refl
  subscribe-long h i n (Some policy) =
      rw (too_long (valid_topic a policy) a (short-topic a policy) la, too_long (valid_topic b policy) b (short-topic b policy) lb)

  call_long : (h : Hub) (i n : ℕ) (payload : Payload) → call h i n a payload ≡ call h i n b payload
  unfolding call
  call_long h i n payload = rw (too_long (valid_called a) a (short-called a) la, too_long (valid_called b) b (short-called b) lb)

  register-long : (h : Hub) (i n : ℕ) (wanted : Option Policy) → register h i n wanted a ≡ register h i n wanted b
  unfolding register
  register-long h i n None = refl
  register-long h i n (Some policy) =
      rw (too_long (valid_procedure a policy) a (short-procedure a policy) la, too_long (valid_procedure b policy) b (short-procedure b policy) lb)

  -- over the bytes s of a message
  module _ (s : List ℕ) (h : Hub) (i number : ℕ) where
    open-long : (p : Parsed) → on_open h i number (told (source s a) p) ≡ on_open h i number (told (source s b) p)
    unfolding on_open request
    open-long P.Hello = refl
    open-long P.Abort = refl
    open-long P.Goodbye = refl
    open-long (P.Error e) = rw (too_long (valid_error a) a (short-error a) la, too_long (valid_error b) b (short-error b) lb)
    open-long (P.Publish p) = rw (publish-long (numbered h i p.request) i p.request p.acknowledge _ _ number)
    open-long (P.Subscribe q) = rw (subscribe-long (numbered h i q.request) i q.request q.policy)
    open-long (P.Unsubscribe r) = refl
    open-long (P.Call c) = rw (call_long (numbered h i c.request) i c.request _)
    open-long (P.Register q) = rw (register-long (numbered h i q.request) i q.request q.policy)
    open-long (P.Unregister r) = refl
    open-long (P.Yield y) = refl
    open-long P.Violation = refl

    attached-long : (p : Parsed) → on_attached h i number (early (told (source s a) p)) ≡ on_attached h i number (early (told (source s b) p))
    unfolding on_attached early
    attached-long P.Hello = rw (not-realm a la, not-realm b lb)
    attached-long P.Abort = refl
    attached-long P.Goodbye = refl
    attached-long (P.Error e) = rw (too_long (valid_error a) a (short-error a) la, too_long (valid_error b) b (short-error b) lb)
    attached-long (P.Publish p) = refl
    attached-long (P.Subscribe q) = refl
    attached-long (P.Unsubscribe r) = refl
    attached-long (P.Call c) = refl
    attached-long (P.Register q) = refl
    attached-long (P.Unregister r) = refl
    attached-long (P.Yield y) = refl
    attached-long P.Violation = refl

    hears-long : (p : Parsed) (status : Phase) → hears h i number (told (source s a) p) status ≡ hears h i number (told (source s b) p) status
    unfolding hears
    hears-long p IsOpen = open-long p
    hears-long p IsAttached = attached-long p
    hears-long p IsClosed = refl

  accepts-long : (status : Phase) (e : Early) → accepts status (early_of a e) ≡ accepts status (early_of b e)
  unfolding accepts
  accepts-long IsAttached Greets = rw (not-realm a la, not-realm b lb)
  accepts-long IsAttached Leaves = refl
  accepts-long IsAttached Wrong = refl
  accepts-long IsClosed e = refl
  accepts-long IsOpen e = refl

-- what is the same for all texts of more than 128 bytes is the same for a text's first 129
cut : {A : Type 0} (f : List ℕ → A) (t : List ℕ) → ((a : List ℕ) → longest < length a → longest < length t → f a ≡ f t)
    → f (take most_kept t) ≡ f t
cut f t alike =
    split (leb (length t) longest)
    (λ e. let k = leb-true (length t) longest e in ap f (take_all most_kept t (omega arith)))
    (λ e.
    let k = leb-false (length t) longest e in
    let l = length-take-le most_kept t (omega arith) in
    alike (take most_kept t) (omega arith) k)

-- u is the first 129 bytes of t
module _ (t u : List ℕ) (kept : u ≡ take most_kept t) where
  -- what a message leads to, over its bytes s
  pub leads-cut : (s : List ℕ) (h : Hub) (i : ℕ) (event : Event) (p : Parsed) (status : Phase)
      → leads_to h i event (told (source s u) p) status ≡ leads_to h i event (told (source s t) p) status
  leads-cut s h i (Attach f) p status = refl
  leads-cut s h i Detach p status = refl
  leads-cut s h i (Message number) p status =
      rw kept (cut (λ x. hears h i number (told (source s x) p) status) t (λ a la lt. hears-long a t la lt s h i number p status))

  -- whether its lent number is bad
  pub bad-cut : (sessions : List Session) (event : Event) (status : Phase) (e : Early)
      → event_bad sessions event status (early_of u e) ≡ event_bad sessions event status (early_of t e)
  bad-cut sessions (Attach f) status e = refl
  bad-cut sessions Detach status e = refl
  bad-cut sessions (Message number) status e =
      rw (kept, cut (λ x. accepts status (early_of x e)) t (λ a la lt. accepts-long a t la lt status e))
