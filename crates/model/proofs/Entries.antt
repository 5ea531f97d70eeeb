-- What an entry of the book can be: each theorem about entries has these seven cases.
-- Assumes nothing.
use Prim.Native.Nat.{ℕ, zero, suc, ◌+◌, ◌<◌}
use mathlib.Core.Path.{◌≡◌, refl}
use mathlib.Core.Bool.{true, false, cond, ◌&&◌}
use mathlib.Core.List.{List}
use native.Mathlib.Omega.{arith}
use borrow.Author.Tests.{eqb-true, ltb-true, ltb-false, ne_eqb}
use lib.Dec.{eqb, leb}
use Rattle.seq.specs.Lists.{bit}
use Rattle.seq.proofs.Logic.{split, and_left, and-false}
use Rattle.seq.specs.declared.Format.{Format}
use Rattle.incoming.specs.Read.{read}
use Rattle.outgoing.specs.Outgoing.{Answer}
use Rattle.outgoing.specs.Layout.{Mail}
use Rattle.model.specs.declared.Event.{Event}
use Rattle.model.specs.declared.Event.TheVariants.{Attach, Detach, Message}
use Rattle.model.specs.Step.{Step}
use Rattle.model.specs.Book as Book
use Rattle.model.specs.Book.{Book, Place, Entry, View, Ends, Calls, Asks, Answers, names, entrant, format_in, present, awaits, in_order, view, invocation_in, welcomed, with_format, with_entrant, nothing, over, asked, called, heard, unheard, on_done, tick, enter}
use Rattle.model.specs.Run.{call_in, event_in, taken_at, Answered, Not, By, answering, answer_in, answer_on}

-- An entry of book b for slot i, with the messages sent, the CALLs of session c under number n that it takes in, and its answer to call p.
pub data Entered (c n : ℕ) (p : Place) (b : Book) (i : ℕ) (ms : List Mail) : Entry → ℕ → Answered → Type 0 where
  -- nothing changes
  idle : Entered c n p b i ms (nothing b) 0 Not
  -- a slot is attached, for a format
  attached : (f : Format) → Entered c n p b i ms (nothing (with_format b i f)) 0 Not
  -- a session opens where none was, named by this step
  opens : names b.entrants i ≡ 0
      → Entered c n p b i ms (nothing (with_entrant b i (record { name = b.now; request = 0; invocation = 0 }))) 0 Not
  -- the open session ends
  ends : 0 < names b.entrants i → Entered c n p b i ms (over b i) 0 Not
  -- a request other than a CALL
  asks : (m : ℕ) → 0 < names b.entrants i → m ≡ suc (entrant b i).request → Entered c n p b i ms (nothing (asked b i m)) 0 Not
  -- a CALL, routed or not
  calls : (m : ℕ) → 0 < names b.entrants i → m ≡ suc (entrant b i).request
      → Entered c n p b i ms (called (asked b i m) i m ms (invocation_in ms)) (bit (eqb (names b.entrants i) c && eqb m n)) Not
  -- a callee's answer
  answers : (v : ℕ) (a : Answer) → Entered c n p b i ms (Book.answers b i v a) 0 (cond (awaits (names b.entrants i) v p) (By (format_in b i) a) Not)

-- a request's number is its session's last plus 1
next-number : (r m : ℕ) → in_order r m ≡ true → m ≡ suc r
unfolding in_order
next-number r m t = let q = eqb-true m (r + 1) (and_left (eqb m (r + 1)) _ t) in omega arith

present-named : (b : Book) (i : ℕ) → present b i ≡ true → 0 < names b.entrants i
unfolding present entrant
present-named b i t = ltb-true 0 _ t

absent-unnamed : (b : Book) (i : ℕ) → present b i ≡ false → names b.entrants i ≡ 0
unfolding present entrant
absent-unnamed b i t = let e = ltb-false 0 (names b.entrants i) t in omega arith

module _ (c n : ℕ) (p : Place) where
  heard-entered : (b : Book) (i : ℕ) (m : View) (ms : List Mail) → 0 < names b.entrants i
      → Entered c n p b i ms (heard b i m ms) (call_in c n (entrant b i) m) (answering (format_in b i) (entrant b i) m p)
  unfolding heard call_in answering entrant
  heard-entered b i Ends ms pos = ends pos
  heard-entered b i (Asks m) ms pos =
      split (in_order (entrant b i).request m) (λ t. rw t (asks m pos (next-number _ m t))) (λ t. rw t (ends pos))
  heard-entered b i (Calls m) ms pos =
      split (in_order (entrant b i).request m)
      (λ t. rw t (calls m pos (next-number _ m t)))
      (λ t. rw (t, and-false (eqb (names b.entrants i) c) false refl) (ends pos))
  heard-entered b i (Answers v a) ms pos =
      split (leb v (entrant b i).invocation) (λ t. rw t (answers v a)) (λ t. rw t (ends pos))

  -- no CALL is taken in from a slot without a session
  no-call : 0 < c → (b : Book) (i : ℕ) (m : View) → names b.entrants i ≡ 0 → call_in c n (entrant b i) m ≡ 0
  unfolding call_in entrant
  no-call c1 b i Ends z = refl
  no-call c1 b i (Asks m) z = refl
  no-call c1 b i (Calls m) z = rw (z, ne_eqb 0 c (λ q. omega arith))
  no-call c1 b i (Answers v a) z = refl

  unheard-entered : (b : Book) (i : ℕ) (ms : List Mail) → names b.entrants i ≡ 0 → Entered c n p b i ms (unheard b i ms) 0 Not
  unfolding unheard
  unheard-entered b i ms z = split (welcomed ms) (λ t. rw t (opens z)) (λ t. rw t idle)

  done-entered : 0 < c → (b : Book) (i : ℕ) (x : Event) (bytes : List ℕ) (ms : List Mail)
      → Entered c n p b i ms (on_done b i x bytes ms) (event_in c n b i x bytes) (answer_in b i x bytes p)
  unfolding on_done event_in answer_in
  done-entered c1 b i (Attach f) bytes ms = attached f
  done-entered c1 b i Detach bytes ms = split (present b i) (λ t. rw t (ends (present-named b i t))) (λ t. rw t idle)
  done-entered c1 b i (Message number) bytes ms =
      split (present b i)
      (λ t. rw t (heard-entered b i (view (read (format_in b i) bytes)) ms (present-named b i t)))
      (λ t. let z = absent-unnamed b i t in rw (t, no-call c1 b i (view (read (format_in b i) bytes)) z) (unheard-entered b i ms z))

  -- the step's own number is no part of what it takes in or answers
  event-tick : (b : Book) (i : ℕ) (x : Event) (bytes : List ℕ) → event_in c n (tick b) i x bytes ≡ event_in c n b i x bytes
  unfolding event_in entrant format_in tick
  event-tick b i (Attach f) bytes = refl
  event-tick b i Detach bytes = refl
  event-tick b i (Message number) bytes = refl

  answer-tick : (b : Book) (i : ℕ) (x : Event) (bytes : List ℕ) → answer_in (tick b) i x bytes p ≡ answer_in b i x bytes p
  unfolding answer_in present entrant format_in tick
  answer-tick b i (Attach f) bytes = refl
  answer-tick b i Detach bytes = refl
  answer-tick b i (Message number) bytes = refl

  pub entered : 0 < c → (b : Book) (x : Step) (e : ℕ) (ms : List Mail)
      → Entered c n p (tick b) x.slot ms (enter b x e ms) (taken_at c n b x e) (answer_on b x e p)
  unfolding enter taken_at answer_on
  entered c1 b x zero ms =
      rw (← (event-tick b x.slot x.event x.bytes), ← (answer-tick b x.slot x.event x.bytes))
      (done-entered c1 (tick b) x.slot x.event x.bytes ms)
  entered c1 b x (suc e) ms = idle
