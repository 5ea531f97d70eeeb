-- Rows of canceled replies and of events, and loops over them. Assumes nothing.
use Rattle.std.specs.Prelude.{Option}
use Prim.Native.Nat.{ℕ, suc, ◌+◌, ◌≤◌, ◌<◌}
use mathlib.Core.Bool.{Bool, true, false}
use mathlib.Core.List.{List, [], ◌∷◌, ◌++◌}
use mathlib.Core.Path.{◌≡◌, refl, sym, ap, ap₂, ◌∙◌}
use lib.ListN.{length, take, get_or}
use borrow.Author.Tests.{eq-eqb, ne_eqb}
use Rattle.seq.specs.declared.PayloadSpans.{PayloadSpans}
use Rattle.seq.specs.Bytes.{Payload, Source}
use Rattle.seq.specs.Lists.{joined}
use Rattle.seq.proofs.Joined.{joined-append, joined-suc}
use Rattle.seq.specs.declared.Format.{Format}
use Rattle.conversion.specs.Carried.{Carried, As, NotConvertible, on_carried}
use Rattle.conversion.specs.Sources.{Sources, carried_in}
use Rattle.outgoing.specs.Outgoing.{Outgoing, render}
use Rattle.outgoing.specs.Layout.{Mail, Formats}
use Rattle.replies.specs.Meaning.{message_of}
use Rattle.replies.specs.declared.Naming.TheVariants.{Plain}
use Rattle.replies.specs.declared.EventReply.{EventReply}
use Rattle.replies.specs.declared.Reply.TheVariants.{CallError}
use Rattle.outgoing.specs.declared.Uri.TheVariants.{Canceled}
use Rattle.buffer.specs.Capped.{capped, largest}
use Rattle.buffer.proofs.Wrote.{Wrote, wrote-both}
use Rattle.sections.specs.Sections.{put_in, put_to_each, event_in, event_of, added, event_adds, sizes}
use Rattle.sections.specs.declared.Section.{Section}
use Rattle.outbox.specs.Meaning.{mail, cancel_mails, to_holders, event_to, event_mails}
use Rattle.outbox.specs.Emit.{section, added_by}
use Rattle.outbox.specs.declared.Cancel.{Cancel}
use Rattle.outbox.specs.declared.EventRow.{EventRow}
use Rattle.outbox.proofs.Mails.{section-one, section-in, added-in, added-append, sized-then}

-- what stands past the end of the tables
abbrev pub no-cancel : Cancel
no-cancel = record { slot = 0; request = 0 }

abbrev pub no-event : EventRow
no-event = record { subscription = 0; details = Plain; holders = [] }

module _ (fs : Formats) where
  -- ---- a canceled reply, or none
  pub cancel-none : (c : Cancel) → c.request ≡ 0 → [] ≡ cancel_mails c
  unfolding cancel_mails
  cancel-none c e = rw (eq-eqb c.request 0 e)

  cancel-mail : (m : Source) (c : Cancel) → (c.request ≡ 0 → ⊥)
      → mail c.slot (message_of m (CallError c.request Canceled)) ∷ [] ≡ cancel_mails c
  unfolding cancel_mails message_of
  cancel-mail m c n = rw (ne_eqb c.request 0 n)

  pub cancel-some : (m : Source) (c : Cancel) (s : Section) → (c.request ≡ 0 → ⊥) → (g : Format) → g ≡ fs c.slot
      → put_in s c.slot (render g (message_of m (CallError c.request Canceled))) ≡ joined (section fs s) (cancel_mails c)
  cancel-some m c s n g q =
      section-in fs s c.slot (message_of m (CallError c.request Canceled)) g q ∙ ap (joined (section fs s)) (cancel-mail m c n)

  pub cancel-adds : (m : Source) (c : Cancel) → (c.request ≡ 0 → ⊥) → (g : Format) → g ≡ fs c.slot
      → added (render g (message_of m (CallError c.request Canceled))) ≡ added_by fs (cancel_mails c)
  cancel-adds m c n g q =
      added-in fs c.slot (message_of m (CallError c.request Canceled)) g q ∙ ap (added_by fs) (cancel-mail m c n)

  -- ---- what each slot of a set gets
  to-each : (s : Section) (f : ℕ → List ℕ) (gets : ℕ → List Mail) → ((j : ℕ) → f j ≡ joined (section fs s) (gets j)) → (i : ℕ) (bs : List Bool)
      → put_to_each f i bs ≡ joined (section fs s) (to_holders gets i bs)
  unfolding put_to_each to_holders
  to-each s f gets e i [] = refl
  to-each s f gets e i (true ∷ bs) =
      ap₂ ◌++◌ (e i) (to-each s f gets e (suc i) bs) ∙ sym (joined-append (section fs s) (gets i) (to_holders gets (suc i) bs))
  to-each s f gets e i (false ∷ bs) = to-each s f gets e (suc i) bs

  adds-each : (f : ℕ → ℕ) (gets : ℕ → List Mail) → ((j : ℕ) → f j ≡ added_by fs (gets j)) → (i : ℕ) (bs : List Bool)
      → sizes f i bs ≡ added_by fs (to_holders gets i bs)
  unfolding sizes to_holders added_by
  adds-each f gets e i [] = refl
  adds-each f gets e i (true ∷ bs) =
      ap₂ ◌+◌ (e i) (adds-each f gets e (suc i) bs) ∙ sym (added-append fs (gets i) (to_holders gets (suc i) bs))
  adds-each f gets e i (false ∷ bs) = adds-each f gets e (suc i) bs

  -- an event to a slot, by what its payload comes to
  event-to : (s : Section) (event : Payload → Outgoing) (slot : ℕ) (c : Carried)
      → on_carried c (λ p. put_in s slot (render (fs slot) (event p))) [] ≡ joined (section fs s) (on_carried c (λ p. mail slot (event p) ∷ []) [])
  event-to s event slot (As p) = section-one fs s slot (event p)
  event-to s event slot NotConvertible = refl

  adds-to : (event : Payload → Outgoing) (slot : ℕ) (c : Carried)
      → on_carried c (λ p. added (render (fs slot) (event p))) 0 ≡ added_by fs (on_carried c (λ p. mail slot (event p) ∷ []) [])
  unfolding added_by
  adds-to event slot (As p) = added-in fs slot (event p) (fs slot) refl
  adds-to event slot NotConvertible = refl

  -- ---- a row's event, or none
  abbrev event_by : ℕ → PayloadSpans → EventRow → EventReply
  event_by publication payload r =
      record { subscription = r.subscription; publication = publication; details = r.details; payload = payload }

  module _ (m : Sources) (publication : ℕ) (payload : PayloadSpans) (other : Option PayloadSpans) (r : EventRow) where
    pub event-none : r.subscription ≡ 0 → [] ≡ event_mails fs m publication payload other r
    unfolding event_mails
    event-none e = rw (eq-eqb r.subscription 0 e)

    pub event-some : (s : Section) → (r.subscription ≡ 0 → ⊥)
        → put_to_each (event_in s fs m (event_by publication payload r) other) 0 r.holders
        ≡ joined (section fs s) (event_mails fs m publication payload other r)
    unfolding event_mails event_to
    event-some s n =
        rw (ne_eqb r.subscription 0 n)
        (to-each s _ _ (λ j. event-to s (event_of m (event_by publication payload r)) j (carried_in m payload other (fs j))) 0 r.holders)

    pub event-adds : (r.subscription ≡ 0 → ⊥)
        → sizes (event_adds fs m (event_by publication payload r) other) 0 r.holders ≡ added_by fs (event_mails fs m publication payload other r)
    unfolding event_mails event_to
    event-adds n =
        rw (ne_eqb r.subscription 0 n)
        (adds-each _ _ (λ j. adds-to (event_of m (event_by publication payload r)) j (carried_in m payload other (fs j))) 0 r.holders)

-- ---- rows: F gives a row's messages
pub row-turn : {A : Type 0} (fs : Formats) (F : A → List Mail) (d : A) (xs : List A) (i : ℕ) → i < length xs → (s : Section) {l m k : List ℕ} {at o p : ℕ}
    → length l ≤ largest → Wrote l at (joined (section fs s) (joined F (take i xs))) o m → Wrote m o (joined (section fs s) (F (get_or xs i d))) p k
    → Wrote l at (joined (section fs s) (joined F (take (i + 1) xs))) p k
row-turn fs F d xs i h s f w v =
    let e = joined-append (section fs s) (joined F (take i xs)) (F (get_or xs i d)) in
    wrote-both (sym (ap (joined (section fs s)) (joined-suc F d xs i h) ∙ e)) f w v

pub row_sized : {A : Type 0} (fs : Formats) (F : A → List Mail) (d : A) (xs : List A) (i : ℕ) → i < length xs → (at o p : ℕ)
    → o ≡ capped (at + added_by fs (joined F (take i xs))) → p ≡ capped (o + added_by fs (F (get_or xs i d)))
    → p ≡ capped (at + added_by fs (joined F (take (i + 1) xs)))
row_sized fs F d xs i h at o p w v =
    sized-then fs (joined F (take i xs)) (F (get_or xs i d)) (joined F (take (i + 1) xs)) (sym (joined-suc F d xs i h)) at o p w v
