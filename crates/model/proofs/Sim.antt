-- A step and the book's entry for it: in a lawful state that matches the book, the state after matches the book after, and what the book
-- is fed is fit for it. Assumes nothing; that a lawful state passes the test of the rules is handed over (proofs/Lawful.antt).
use Prim.Native.Nat.{ℕ, suc, ◌<◌}
use mathlib.Core.Path.{◌≡◌, refl, sym, ◌∙◌}
use mathlib.Core.Bool.{true, false}
use mathlib.Core.List.{List, []}
use native.Mathlib.Omega.{arith}
use lib.ListN.{length}
use lib.Dec.{leb}
use borrow.Author.Tests.{lt-ltb, le-ltb, leb-false}
use Rattle.seq.proofs.Logic.{split, clash}
use Rattle.incoming.specs.Read.{read}
use Rattle.incoming.proofs.Whole.{read_whole}
use Rattle.model.specs.declared.Status.TheVariants.{Closed, Attached, AttachedMsgPack}
use Rattle.model.specs.declared.Hub.{Hub}
use Rattle.model.specs.declared.Event.{Event}
use Rattle.model.specs.declared.Event.TheVariants.{Attach, Detach, Message}
use Rattle.model.specs.declared.Outcome.{Outcome}
use Rattle.model.specs.declared.Outcome.TheVariants.{BadSlot, WrongTime, BadNumber, NoRoom}
use Rattle.model.specs.State.{slots, Phase, IsClosed, IsAttached, IsOpen, phase_at, format_at}
use Rattle.seq.specs.declared.Format.{Format}
use Rattle.seq.specs.declared.Format.TheVariants.{Json, MsgPack}
use Rattle.model.proofs.Formats.{closed-attached}
use Rattle.model.specs.Rules.{OpenAt, Lawful, rules}
use Rattle.model.specs.Step.{Step, Stepped, Next, output_of, refusal, early, attaches, detaches, hears, next, wrong_time, bad_number, refused, done, fitted, step}
use Rattle.model.specs.Book.{Book, entrant, names, format_in, present, welcomed, replies, invocation_in, nothing, on_done, tick, enter}
use Rattle.model.specs.Run.{Given, Fed, result, fed, entry}
use Rattle.model.proofs.Fit.{Fit}
use Rattle.model.proofs.Matches.{Matches, open-named, unnamed, ticked, fresh}
use Rattle.model.proofs.Lookup.{unique}
use Rattle.model.proofs.Quiet.{Welcomes, welcomes-none}
use Rattle.model.proofs.BookAgrees.{Agrees, noted-open, ending, heard-agrees, closed-agrees, noted-agrees, unheard-agrees}

-- what the book is fed of a step
abbrev pub fed_of : Step → Stepped → Fed
fed_of x y = record { input = x; refusal = refusal y.outcome; mails = y.mails }

-- what a step keeps
pub record Kept (b : Book) (x : Step) (y : Stepped) : Type 0 where
  pub matches : Matches y.hub (enter b x (refusal y.outcome) y.mails).book
  pub fit : Fit b (fed_of x y)
  pub opens : Welcomes y.mails (enter b x (refusal y.outcome) y.mails).book (suc b.now)

module _ (h : Hub) (b : Book) (m : Matches h b) (l : Lawful h) where
  -- ---- what an event leads to, by the slot's status, where it is not the wrong time
  module _ (i : ℕ) (inside : i < length h.sessions) where
    present-open : OpenAt h i → present (tick b) i ≡ true
    unfolding present entrant tick
    present-open o = lt-ltb 0 (names b.entrants i) (open-named h b m i o)

    present-shut : names b.entrants i ≡ 0 → present (tick b) i ≡ false
    unfolding present entrant tick
    present-shut z = le-ltb 0 (names b.entrants i) (omega arith)

    attach-agrees : (f : Format) (bytes : List ℕ) (s : Phase) → phase_at h i ≡ s → wrong_time (Attach f) s ≡ false
        → Agrees (tick b) (attaches h i f) (on_done (tick b) i (Attach f) bytes (attaches h i f).mails)
    unfolding attaches on_done wrong_time tick
    attach-agrees Json bytes IsClosed e w = noted-agrees h (tick b) (ticked h b m) i inside (unnamed h b m i IsClosed e refl) Attached refl
    attach-agrees MsgPack bytes IsClosed e w = noted-agrees h (tick b) (ticked h b m) i inside (unnamed h b m i IsClosed e refl) AttachedMsgPack refl
    attach-agrees f bytes IsAttached e w = clash refl w
    attach-agrees f bytes IsOpen e w = clash refl w

    detach-agrees : (bytes : List ℕ) (s : Phase) → phase_at h i ≡ s → wrong_time Detach s ≡ false
        → Agrees (tick b) (detaches h i s) (on_done (tick b) i Detach bytes (detaches h i s).mails)
    unfolding detaches on_done wrong_time tick
    detach-agrees bytes IsClosed e w = clash refl w
    detach-agrees bytes IsAttached e w =
        let z = unnamed h b m i IsAttached e refl in
        rw (present-shut z) (closed-agrees h (tick b) (ticked h b m) i inside z)
    detach-agrees bytes IsOpen e w = rw (present-open e) (ending h (tick b) (ticked h b m) i e l Closed refl (λ n. absurd (n refl)) [] tt)

    message-agrees : (number : ℕ) (bytes : List ℕ) (s : Phase) → phase_at h i ≡ s → wrong_time (Message number) s ≡ false
        → Agrees (tick b) (hears h i number (read (format_at h i) bytes) s)
        (on_done (tick b) i (Message number) bytes (hears h i number (read (format_at h i) bytes) s).mails)
    unfolding hears on_done wrong_time tick
    message-agrees number bytes IsClosed e w = clash refl w
    message-agrees number bytes IsAttached e w =
        let z = unnamed h b m i IsAttached e refl in
        let f = (ticked h b m).formats i (λ c. closed-attached (sym c ∙ e)) in
        rw (present-shut z) (unheard-agrees h (tick b) (ticked h b m) i inside z l (fresh h b m) number f (early (read (format_at h i) bytes)))
    message-agrees number bytes IsOpen e w =
        rw (present-open e, noted-open h (tick b) (ticked h b m) i e) (heard-agrees h (tick b) (ticked h b m) l i e number (read (format_at h i) bytes) (read_whole (format_at h i) bytes))

    next-agrees : (e : Event) (bytes : List ℕ) → wrong_time e (phase_at h i) ≡ false
        → Agrees (tick b) (next h i e bytes) (on_done (tick b) i e bytes (next h i e bytes).mails)
    unfolding next
    next-agrees (Attach f) bytes w = attach-agrees f bytes _ refl w
    next-agrees Detach bytes w = detach-agrees bytes _ refl w
    next-agrees (Message number) bytes w = message-agrees number bytes _ refl w

  -- ---- the step
  -- a refused step changes nothing but the count of steps
  kept-refused : (x : Step) (e : Outcome) (n : ℕ) → refusal e ≡ suc n → Kept b x (refused h e)
  unfolding refused enter nothing entry replies invocation_in welcomed
  kept-refused x e n q =
      record {
        matches = rw q (ticked h b m);
        fit = record { roomy = tt; unique = unique h b m l; paid = rw q tt };
        opens = welcomes-none refl;
      }

  kept-fitted : (x : Step) (room : ℕ) (y : Next) → Agrees (tick b) y (on_done (tick b) x.slot x.event x.bytes y.mails)
      → Kept b x (fitted h room y)
  unfolding fitted done enter entry tick format_in
  kept-fitted x room y a =
      split (leb (length (output_of h y.mails)) room)
      (λ t. rw t
      (record {
        matches = a.matches;
        fit = record { roomy = a.roomy; unique = unique h b m l; paid = a.paid };
        opens = record { named = a.opens.named };
      }))
      (λ t. rw t (kept-refused x NoRoom 4 refl))

  step_kept : (x : Step) (room : ℕ) → rules h ≡ true → Kept b x (step h x room)
  unfolding step
  step_kept x room r =
      rw r
      (split (leb slots x.slot)
      (λ t. rw t (kept-refused x BadSlot 1 refl))
      (λ t. rw t
      (split (wrong_time x.event (phase_at h x.slot))
      (λ u. rw u (kept-refused x WrongTime 2 refl))
      (λ u. rw u
      (split (bad_number h x.slot x.event x.bytes)
      (λ v. rw v (kept-refused x BadNumber 3 refl))
      (λ v. rw v (kept-fitted x room _ (next-agrees x.slot (inside t) x.event x.bytes u))))))))
    where
      inside : leb slots x.slot ≡ false → x.slot < length h.sessions
      inside t = let p = leb-false slots x.slot t in let q = m.sessions in omega arith

-- hub and book match after a step and its entry, and what the book is fed is fit for it
pub step-matches : (h : Hub) (b : Book) → Lawful h → Matches h b → (x : Step) (room : ℕ) → rules h ≡ true → Kept b x (step h x room)
step-matches h b l m x room r = step_kept h b m l x room r

-- the same of a step of a run, and a WELCOME that it sends
pub run-matches : (h : Hub) (b : Book) → Lawful h → Matches h b → (g : Given) → rules h ≡ true
    → Matches (result h g).hub (entry b (fed h g)).book × Fit b (fed h g)
unfolding result fed entry
run-matches h b l m g r = let k = step_kept h b m l g.input g.room r in (k.matches, k.fit)

pub run-welcomes : (h : Hub) (b : Book) → Lawful h → Matches h b → (g : Given) → rules h ≡ true
    → Welcomes (fed h g).mails (entry b (fed h g)).book (suc b.now)
unfolding result fed entry
run-welcomes h b l m g r = (step_kept h b m l g.input g.room r).opens
