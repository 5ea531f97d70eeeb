-- A run: a list of steps from an empty hub, each with the room lent for its output; what the book makes of it; the counts of calls and
-- replies; and how long a call is held (PROTOCOL, "The book of demand 3").
use Rattle.std.specs.Prelude.{◌∷◌, ◌+◌, ◌&&◌, ◌<◌, ◌≡◌}
use Rattle.model.specs.Words.{ℕ, cond, List, [], get_or, take, HeldCall, Hub, Attach, Mail, Payload, zero, suc, Bool, not, eqb, bit, tally, read, Format, Event, Detach, Message, true, length, leb, chars, Answer, Failure}
pub use Rattle.seq.specs.Lists.{In}
use Rattle.incoming.specs.Incoming.{Call}
use Rattle.model.specs.State.{empty_hub, idle}
use Rattle.model.specs.Carries.{Carries}
use Rattle.model.specs.Step.{Step, Stepped, step, refusal}
use Rattle.model.specs.Book.{Book, Place, no_place, Entry, Due, names, empty_book, enter, replies_in, format_in, Entrant, View, Ends, Calls, Asks, Answers, entrant, vacant, in_order, view, due, chosen, present, awaits, involves, served_for, invocation_in, lowest}

-- a step and the room lent for its output
abbrev pub Given : Type 0
Given = record { input : Step; room : ℕ }

-- what the book is fed: a step, its refusal number, and the messages sent
abbrev pub Fed : Type 0
Fed = record { input : Step; refusal : ℕ; mails : List Mail }

unfoldable pub result : Hub → Given → Stepped
result h g = step h g.input g.room

unfoldable pub fed : Hub → Given → Fed
fed h g = record { input = g.input; refusal = refusal (result h g).outcome; mails = (result h g).mails }

unfoldable pub hub_after : Hub → List Given → Hub
hub_after h [] = h
hub_after h (g ∷ gs) = hub_after (result h g).hub gs

unfoldable pub feed : Hub → List Given → List Fed
feed h [] = []
feed h (g ∷ gs) = fed h g ∷ feed (result h g).hub gs

unfoldable pub entry : Book → Fed → Entry
entry b f = enter b f.input f.refusal f.mails

unfoldable pub book_after : Book → List Fed → Book
book_after b [] = b
book_after b (f ∷ fs) = book_after (entry b f).book fs

-- for each step, the replies owed
unfoldable pub owed_in : Book → List Fed → List (List Due)
owed_in b [] = []
owed_in b (f ∷ fs) = (entry b f).owed ∷ owed_in (entry b f).book fs

-- for each step, the replies sent, each named by the session in its receiver's slot
unfoldable pub sent_in : Book → List Fed → List (List Due)
sent_in b [] = []
sent_in b (f ∷ fs) = replies_in b f.mails ∷ sent_in (entry b f).book fs

-- a held-call row as a place: sessions matched by their slots
unfoldable pub place_of : (ℕ → ℕ) → HeldCall → Place
place_of name c =
    cond (idle c) no_place
    (record { caller = name c.caller; request = c.request; callee = name c.callee; invocation = c.invocation })

-- ---- a run from the empty hub
abbrev pub fed_by : List Given → List Fed
fed_by gs = feed empty_hub gs

abbrev pub hub_of : List Given → Hub
hub_of gs = hub_after empty_hub gs

abbrev pub book_of : List Given → Book
book_of gs = book_after empty_book (fed_by gs)

-- after the first j steps
abbrev pub book_at : List Given → ℕ → Book
book_at gs j = book_of (take j gs)

-- step j, counted from 0
abbrev pub step_at : List Given → ℕ → Given
step_at gs j = get_or gs j (record { input = record { slot = 0; event = Detach; bytes = [] }; room = 0 })

abbrev pub fed_at : List Given → ℕ → Fed
fed_at gs j = fed (hub_of (take j gs)) (step_at gs j)

-- the replies to calls that step j sent
abbrev pub replies_at : List Given → ℕ → List Due
replies_at gs j = replies_in (book_at gs j) (fed_at gs j).mails

-- ==== the counts of a run: for a session, named by the step that began it, and a request number: the CALLs taken in, the replies sent, the calls
-- held, and those held when their caller's session ended.

-- a reply to session c for number n
unfoldable pub is_for : ℕ → ℕ → Due → Bool
is_for c n d = eqb d.session c && eqb d.request n

unfoldable pub is_held : ℕ → ℕ → Place → Bool
is_held c n p = not (vacant p) && (eqb p.caller c && eqb p.request n)

-- calls of session c under number n that the book holds
unfoldable pub held_now : ℕ → ℕ → Book → ℕ
held_now c n b = tally (is_held c n) b.places

-- results and call errors sent to session c for number n
unfoldable pub total : ℕ → ℕ → List (List Due) → ℕ
total c n [] = 0
total c n (ds ∷ dss) = tally (is_for c n) ds + total c n dss

unfoldable pub replies_to : ℕ → ℕ → Book → List Fed → ℕ
replies_to c n b fs = total c n (sent_in b fs)

-- a CALL taken in: a CALL read from the bytes, on an open session, in a done step, no violation
unfoldable pub call_in : ℕ → ℕ → Entrant → View → ℕ
call_in c n e x =
    elim x [ Ends ↦ 0 | Asks m ↦ 0 | Calls m ↦ bit (eqb e.name c && (in_order e.request m && eqb m n)) | Answers v a ↦ 0 ]

unfoldable pub event_in : ℕ → ℕ → Book → ℕ → Event → List ℕ → ℕ
event_in c n b i e bytes = elim e [ Attach f ↦ 0 | Detach ↦ 0 | Message number ↦ call_in c n (entrant b i) (view (read (format_in b i) bytes)) ]

unfoldable pub taken_at : ℕ → ℕ → Book → Step → ℕ → ℕ
taken_at c n b x zero = event_in c n b x.slot x.event x.bytes
taken_at c n b x (suc e) = 0

unfoldable pub taken_in : ℕ → ℕ → Book → List Fed → ℕ
taken_in c n b [] = 0
taken_in c n b (f ∷ fs) = taken_at c n b f.input f.refusal + taken_in c n (entry b f).book fs

-- the session that a step ends, by its name: 0 if none
unfoldable pub ended_by : Book → Book → ℕ → ℕ
ended_by b b' i = cond (eqb (names b'.entrants i) 0) (names b.entrants i) 0

-- calls of session c under number n held when a step ends c
unfoldable pub lost_at : ℕ → ℕ → Book → Book → ℕ → ℕ
lost_at c n b b' i = cond (eqb (ended_by b b' i) c) (held_now c n b) 0

unfoldable pub lost_in : ℕ → ℕ → Book → List Fed → ℕ
lost_in c n b [] = 0
lost_in c n b (f ∷ fs) = lost_at c n b (entry b f).book f.input.slot + lost_in c n (entry b f).book fs

-- ==== how long a call is held, and what replies to it, over the steps of a run, counted from 0.

-- a message on an open session that answers the call at a place, without violation: what it carries, and in which format
pub data Answered : Type 0 where
  Not : Answered
  By : (format : Format) (answer : Answer) → Answered

unfoldable pub answering : Format → Entrant → View → Place → Answered
answering f e x p =
    elim x [ Ends ↦ Not | Asks n ↦ Not | Calls n ↦ Not | Answers v a ↦ cond (leb v e.invocation && awaits e.name v p) (By f a) Not ]

unfoldable pub answer_in : Book → ℕ → Event → List ℕ → Place → Answered
answer_in b i e bytes p =
    elim e [ Attach f ↦ Not | Detach ↦ Not | Message number ↦ cond (present b i) (answering (format_in b i) (entrant b i) (view (read (format_in b i) bytes)) p) Not ]

-- a done step that is an answer of the call's callee to it
unfoldable pub answer_on : Book → Step → ℕ → Place → Answered
answer_on b x zero p = answer_in b x.slot x.event x.bytes p
answer_on b x (suc e) p = Not

abbrev pub answer_at : Book → Fed → Place → Answered
answer_at b f p = answer_on b f.input f.refusal p

-- the session that step j ends, by its name; 0 if none
abbrev pub ended_at : List Given → ℕ → ℕ
ended_at gs j = ended_by (book_at gs j) (book_at gs (suc j)) (fed_at gs j).input.slot

-- step j answers the call p, or ends its caller's or callee's session
pub data Settles (gs : List Given) (p : Place) (j : ℕ) : Type 0 where
  answers : (f : Format) (a : Answer) → answer_at (book_at gs j) (fed_at gs j) p ≡ By f a → Settles gs p j
  ends : 0 < ended_at gs j → involves (ended_at gs j) p ≡ true → Settles gs p j

-- the CALL of step i was routed: the step is done, its bytes read as a CALL, and it sent an INVOCATION; p is the call of these two, and k
-- the lowest empty place before the step
pub record Routed (gs : List Given) (i k : ℕ) (p : Place) : Type 0 where
  pub within : i < length gs
  pub done : (fed_at gs i).refusal ≡ 0
  -- the CALL
  pub lent : ℕ
  pub request : ℕ
  pub procedure : List ℕ
  pub payload : Payload
  pub event : (step_at gs i).input.event ≡ Message lent
  pub message : read (format_in (book_at gs i) (step_at gs i).input.slot) (step_at gs i).input.bytes ≡ Call request procedure payload
  -- the INVOCATION
  pub receiver : ℕ
  pub number : ℕ
  pub invocation : invocation_in (fed_at gs i).mails ≡ chosen receiver number
  pub lowest_place : k ≡ lowest (book_at gs i).places
  pub call : p ≡ record {
    caller = names (book_at gs i).entrants (step_at gs i).input.slot;
    request = request;
    callee = names (book_at gs i).entrants receiver;
    invocation = number;
  }

-- a place in the book after j steps
abbrev pub place_at : List Given → ℕ → ℕ → Place
place_at gs j k = get_or (book_at gs j).places k no_place

-- the reply that is sent meets the one that is owed: to that session, for that number, and it carries that answer
pub record Meets (owed sent : Due) : Type 0 where
  pub session : sent.session ≡ owed.session
  pub request : sent.request ≡ owed.request
  pub answer : Carries owed.format sent.format owed.answer sent.answer

abbrev pub due_of : Place → Format → Answer → Due
due_of p f a = due p.caller p.request f a

-- no step after i and before j settles the call
abbrev pub Unsettled : List Given → Place → ℕ → ℕ → Type 0
Unsettled gs p i j = (m : ℕ) → i < m → m < j → Settles gs p m → ⊥

-- a call routed at step i, with the first step m after it that settles the call
pub record Replied (gs : List Given) (p : Place) (m : ℕ) : Type 0 where
  -- its callee's answer: the one reply carries that answer
  pub carries : (f : Format) (a : Answer) → answer_at (book_at gs m) (fed_at gs m) p ≡ By f a
      → (d : Due) × (replies_at gs m ≡ d ∷ []) × Meets (due_of p f a) d
  -- its callee's session ended, and its caller's did not: canceled
  pub says : 0 < ended_at gs m → served_for (ended_at gs m) p ≡ true
      → (f : Format) × In (due_of p f (Failure (chars "wamp.error.canceled") [])) (replies_at gs m)
