-- What a status is, and the slots' formats: what leaves every status leaves them. Assumes nothing.
use Prim.Native.Nat.{ℕ, zero, suc}
use mathlib.Core.Bool.{Bool, cond, ◌&&◌}
use mathlib.Core.List.{List, [], ◌∷◌, ◌++◌}
use mathlib.Core.Path.{◌≡◌, refl, ap, ap₂}
use native.Mathlib.Omega.{arith}
use lib.ListN.{get_or, set}
use Rattle.seq.proofs.Logic.{split}
use Rattle.pattern.specs.declared.Row.{Row}
use Rattle.pattern.specs.Choice.{fits_row}
use Rattle.outgoing.specs.Outgoing.{Outgoing}
use Rattle.outgoing.specs.Layout.{Mail}
use Rattle.seq.specs.declared.Format.{Format}
use Rattle.seq.specs.declared.Format.TheVariants.{Json, MsgPack}
use Rattle.seq.specs.Bytes.{Payload}
use Rattle.model.specs.declared.Session.{Session}
use Rattle.model.specs.declared.Hub.{Hub}
use Rattle.model.specs.State.{no_session, session, IsClosed, IsAttached, IsOpen, phase, format_of, format_at, attached_in, open_in, with_session}
use Rattle.model.specs.Step.{numbered, event_to, events_to, row_events}

-- a session that keeps a field leaves that field of every session as it was
field-keep : {B : Type 0} (field : Session → B) (ss : List Session) (k : ℕ) (s : Session) → field s ≡ field (get_or ss k no_session) → (j : ℕ)
    → field (get_or (set ss k s) j no_session) ≡ field (get_or ss j no_session)
field-keep field [] k s q j = refl
field-keep field (x ∷ xs) zero s q zero = q
field-keep field (x ∷ xs) zero s q (suc j) = refl
field-keep field (x ∷ xs) (suc k) s q zero = refl
field-keep field (x ∷ xs) (suc k) s q (suc j) = field-keep field xs k s q j

pub status-keep : (ss : List Session) (k : ℕ) (s : Session) → s.status ≡ (get_or ss k no_session).status → (j : ℕ)
    → (get_or (set ss k s) j no_session).status ≡ (get_or ss j no_session).status
status-keep = field-keep (λ s. s.status)

-- a request's number
pub numbered-format : (h : Hub) (i n j : ℕ) → format_at (numbered h i n) j ≡ format_at h j
unfolding format_at numbered with_session session
numbered-format h i n j = ap format_of (status-keep h.sessions i _ refl j)

pub numbered-id : (h : Hub) (i n j : ℕ) → (session (numbered h i n) j).id ≡ (session h j).id
unfolding numbered with_session session
numbered-id h i n j = field-keep (λ s. s.id) h.sessions i _ refl j

-- ---- attached and open in a format
pub phase-attached : (f : Format) → phase (attached_in f) ≡ IsAttached
phase-attached Json = refl
phase-attached MsgPack = refl

pub phase-open : (f : Format) → phase (open_in f) ≡ IsOpen
phase-open Json = refl
phase-open MsgPack = refl

pub format-attached : (f : Format) → format_of (attached_in f) ≡ f
format-attached Json = refl
format-attached MsgPack = refl

pub format-open : (f : Format) → format_of (open_in f) ≡ f
format-open Json = refl
format-open MsgPack = refl

-- no two phases are one
pub closed-open : IsClosed ≡ IsOpen → ⊥
closed-open e = let z : ◌≡◌ {A = ℕ} 0 1 = cc in omega arith

pub attached-open : IsAttached ≡ IsOpen → ⊥
attached-open e = let z : ◌≡◌ {A = ℕ} 0 1 = cc in omega arith

pub closed-attached : IsClosed ≡ IsAttached → ⊥
closed-attached e = let z : ◌≡◌ {A = ℕ} 0 1 = cc in omega arith

-- ---- events, by the formats of hubs alone
pub events-same : (f g : ℕ → List Mail) → ((j : ℕ) → f j ≡ g j) → (to : ℕ → Bool) (j : ℕ) (bs : List Bool) → events_to f to j bs ≡ events_to g to j bs
unfolding events_to
events-same f g e to j [] = refl
events-same f g e to j (b ∷ bs) =
    let r = events-same f g e to (suc j) bs in
    split (b && to j) (λ t. rw t (ap₂ ◌++◌ (e j) r)) (λ t. rw t r)

-- slots of two hubs speak the same formats
abbrev pub Alike : Hub → Hub → Type 0
Alike g h = (j : ℕ) → format_at g j ≡ format_at h j

event-any : (g h : Hub) → Alike g h → (i : ℕ) (event : Payload → Outgoing) (p : Payload) (j : ℕ) → event_to g i event p j ≡ event_to h i event p j
unfolding event_to
event-any g h e i event p j = rw (e i, e j)

pub row_any : (g h : Hub) → Alike g h → (i : ℕ) (to : ℕ → Bool) (publication : ℕ) (topic : List ℕ) (p : Payload) (r : Row)
    → row_events g i to publication topic p r ≡ row_events h i to publication topic p r
unfolding row_events
row_any g h e i to publication topic p r =
    ap (λ ms. cond (fits_row topic r) ms []) (events-same _ _ (event-any g h e i _ p) to 0 r.holders)
