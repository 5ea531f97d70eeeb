-- Laws that carry the tests and the output of the code to the model's step. Assumes nothing.
use Rattle.std.specs.Prelude.{Some, None}
use Prim.Native.Nat.{ℕ, ◌≤◌, ◌<◌}
use mathlib.Core.Bool.{true, false, not, ◌&&◌}
use mathlib.Core.List.{List, []}
use mathlib.Core.Path.{◌≡◌, refl, sym, ap, ◌∙◌}
use native.Mathlib.Omega.{arith}
use borrow.Author.Tests.{le-leb, lt-leb}
use lib.Dec.{leb}
use lib.ListN.{length}
use Rattle.seq.specs.declared.Format.{Format}
use Rattle.seq.proofs.Logic.{split, clash}
use Rattle.incoming.specs.Read.{read}
use Rattle.outbox.specs.Emit.{emitted, emitted_bytes}
use Rattle.model.specs.declared.Hub.{Hub}
use Rattle.model.specs.declared.Event.{Event}
use Rattle.model.specs.declared.Event.TheVariants.{Attach, Detach, Message}
use Rattle.model.specs.declared.Outcome.TheVariants.{Done, BadState, BadSlot, WrongTime, BadNumber, NoRoom}
use Rattle.seq.specs.Numbers.{last_id}
use Rattle.model.specs.State.{Phase, IsClosed, IsAttached, IsOpen, phase_at, format_at}
use Rattle.model.specs.Rules.{in_range, rules}
use Rattle.model.specs.Step.{Step, Next, output_of, early, wrong_time, bad_number, next}
use Rattle.model.specs.Step.{done, refused, fitted, step}
use Rattle.image.specs.Image.{load, held}
use Rattle.hub.specs.Answer.{given, answer_of, written, lent, event_bad, heard, leads_to}

-- ---- the time
pub wrong-attach : (f : Format) (s : Phase) → not (wrong_time Detach s) ≡ wrong_time (Attach f) s
unfolding wrong_time
wrong-attach f IsClosed = refl
wrong-attach f IsAttached = refl
wrong-attach f IsOpen = refl

pub wrong-message : (number : ℕ) (s : Phase) → wrong_time Detach s ≡ wrong_time (Message number) s
unfolding wrong_time
wrong-message number IsClosed = refl
wrong-message number IsAttached = refl
wrong-message number IsOpen = refl

-- ---- the lent number
pub in-range : (n : ℕ) → (n ≡ 0 → ⊥) → n ≤ last_id → in_range n last_id ≡ true
in-range n a b = rw (le-leb 1 n (omega (arith, a)), le-leb n last_id b)

pub range-above : (n : ℕ) → last_id < n → in_range n last_id ≡ false
range-above n h = split (leb 1 n) (λ e. rw (e, lt-leb n last_id h)) (λ e. rw e)

-- ---- the output
-- with room: the step is done, and the count is the layout's length
pub emits-done : (h : Hub) (x : Next) (old : List ℕ) (n : ℕ) → emitted (format_at h) x.mails old ≡ Some n
    → record { outcome = Done; count = n } ≡ answer_of (fitted h (length old) x)
unfolding fitted done refused
emits-done h x old n e = split (leb (length (output_of h x.mails)) (length old))
    (λ t. let d = rw t at e in let c : length (output_of h x.mails) ≡ n = cc in rw (t, c))
    (λ t. let d = rw t at e in let z : ◌≡◌ {A = ℕ} 0 1 = cc in absurd (omega arith))

pub outcome-done : (h : Hub) (x : Next) (old : List ℕ) (n : ℕ) → emitted (format_at h) x.mails old ≡ Some n → (fitted h (length old) x).outcome ≡ Done
outcome-done h x old n e = ap (λ a. a.outcome) (sym (emits-done h x old n e))

-- without room: NO ROOM
pub emits_none : (h : Hub) (x : Next) (old : List ℕ) → emitted (format_at h) x.mails old ≡ None
    → answer_of (refused h NoRoom) ≡ answer_of (fitted h (length old) x)
unfolding fitted done
emits_none h x old e = split (leb (length (output_of h x.mails)) (length old))
    (λ t. let d = rw t at e in let z : ◌≡◌ {A = ℕ} 0 1 = cc in absurd (omega arith))
    (λ t. rw t)

pub outcome-none : (h : Hub) (x : Next) (old : List ℕ) → emitted (format_at h) x.mails old ≡ None → (fitted h (length old) x).outcome ≡ NoRoom
unfolding refused
outcome-none h x old e = ap (λ a. a.outcome) (sym (emits_none h x old e))

pub emits-bytes : (h : Hub) (x : Next) (old : List ℕ) → emitted_bytes (format_at h) x.mails old ≡ written (format_at h) (fitted h (length old) x) old
unfolding fitted done refused
emits-bytes h x old = split (leb (length (output_of h x.mails)) (length old)) (λ t. rw t) (λ t. rw t)

-- ---- lent bytes
pub lent-formed : (s : List ℕ) (x : Step) (room : ℕ) → (load s).ok ≡ true → lent s x room ≡ step (held s) x room
unfolding lent
lent-formed s x room e = rw e

pub lent-unformed : (s : List ℕ) (x : Step) (room : ℕ) → (load s).ok ≡ false → lent s x room ≡ refused (held s) BadState
unfolding lent
lent-unformed s x room e = rw e

-- ---- the checks, in their order
pub step-state : (h : Hub) (x : Step) (room : ℕ) → rules h ≡ false → step h x room ≡ refused h BadState
unfolding step
step-state h x room e = rw e

-- bytes that are no state's, or of one that breaks a rule
pub lent-bad : (s : List ℕ) (x : Step) (room : ℕ) → ((load s).ok && rules (held s)) ≡ false → lent s x room ≡ refused (held s) BadState
lent-bad s x room e =
    split (load s).ok
    (λ t. lent-formed s x room t ∙ step-state (held s) x room (rw t at e))
    (λ t. lent-unformed s x room t)

module _ (h : Hub) (i : ℕ) (bytes : List ℕ) (room : ℕ) (lawful : rules h ≡ true) where
  pub step-slot : (event : Event) → 8 ≤ i → step h (given i event bytes) room ≡ refused h BadSlot
  unfolding step
  step-slot event a = rw (lawful, le-leb 8 i a)

  pub step-time : (event : Event) (status : Phase) → i < 8 → status ≡ phase_at h i → wrong_time event status ≡ true
      → step h (given i event bytes) room ≡ refused h WrongTime
  unfolding step
  step-time event status b s w = rw (lawful, lt-leb 8 i b, ← s, w)

  -- the rest, judged by what the code read of the message
  module _ (status : Phase) (format : Format) (b : i < 8) (s : status ≡ phase_at h i) (f : format ≡ format_at h i) where
    pub step-number : (event : Event) → wrong_time event status ≡ false → event_bad h.sessions event status (early (heard format event bytes)) ≡ true
        → step h (given i event bytes) room ≡ refused h BadNumber
    unfolding step bad_number
    step-number (Attach g) w t = clash t refl
    step-number Detach w t = clash t refl
    step-number (Message number) w t = rw (lawful, lt-leb 8 i b, ← s, w, ← f, t)

    pub step-leads : (event : Event) → wrong_time event status ≡ false → event_bad h.sessions event status (early (heard format event bytes)) ≡ false
        → step h (given i event bytes) room ≡ fitted h room (leads_to h i event (heard format event bytes) status)
    unfolding step bad_number next
    step-leads (Attach g) w t = rw (lawful, lt-leb 8 i b, ← s, w)
    step-leads Detach w t = rw (lawful, lt-leb 8 i b, ← s, w)
    step-leads (Message number) w t = rw (lawful, lt-leb 8 i b, ← s, w, ← f, t)

-- ---- reading
-- more than 2,048 bytes are a violation, as none are
pub read_past : (f : Format) (s : List ℕ) → 2048 < length s → read f [] ≡ read f s
unfolding read
read_past f s h = split (leb 1 (length s)) (λ t. rw (t, lt-leb (length s) 2048 h)) (λ t. rw t)

-- so a message whose bytes are not looked at is heard as it is
pub heard-bounded : (f : Format) (event : Event) (s t : List ℕ) → ((f : Format) → read f s ≡ read f t) → heard f event s ≡ heard f event t
heard-bounded f (Attach g) s t e = refl
heard-bounded f Detach s t e = refl
heard-bounded f (Message number) s t e = e f
