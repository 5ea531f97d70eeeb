-- The three demands (PROTOCOL, "The three demands"), each a record of statements; proofs/ proves all of them, for every hub and step, or
-- every list of steps. A hub of the code has its arrays' sizes (`Sized`); one that keeps the five state rules is `Lawful`.
use Rattle.outgoing.specs.declared.Uri.TheVariants as Uri
use Rattle.std.specs.Prelude.{◌+◌, ◌≤◌, ◌<◌, ◌≡◌, ◌⊎◌, ◌↔◌, ◌||◌, ◌∷◌, ◌++◌}
use Rattle.model.specs.Words.{last_id, Uri, Answer, Outgoing, Bool, Payload, uri_text, ℕ, suc, true, false, List, [], map, length, get_or, eqb, Some, None, Pairs, valid_topic, valid_procedure, valid_published, valid_called, no_row, row_text, fits_row, Right, read, As, NotConvertible, carried, Format, Status, Closed, Table, Hub, Event, Attach, Detach, Message, Done, BadState, BadSlot, WrongTime, BadNumber, NoRoom, Policy, Row, Incoming, Result, Failure, Request, Mail, Audience}
use Rattle.options.specs.Audience as OptionValue
use Rattle.incoming.specs.Incoming as In
use Rattle.outgoing.specs.Outgoing as Out
use Rattle.seq.specs.Lists.{Both}
use Rattle.model.specs.State.{slots, with_status, no_call, session, Phase, IsClosed, IsAttached, IsOpen, phase_at, format_at, attached_in, open_in, unused, holds, owner, row_at, idle, call_at, with_session, with_subscriptions, with_registrations, with_call}
use Rattle.model.specs.Rules.{OpenAt, Sized, Lawful, CallsApart}
use Rattle.model.specs.Step.{Step, step, next, mail, issued, details_for, realm_name, canceled, not_convertible, output_of}
use Rattle.model.specs.Book.{Place, no_place, names, format_in, vacant, empty_book}
use Rattle.model.specs.Run.{Given, place_of, hub_of, book_of, book_at, fed_by, fed_at, result, owed_in, sent_in, held_now, replies_to, taken_in, lost_in, In, Meets, Routed, Settles, Unsettled, Replied, place_at}

-- ==== Demand 1: any bytes, in any state, get one fixed answer (`step` is a function of them); five numbered refusals, each exactly when
-- its rule says; a refused step changes nothing

-- attaching a slot that isn't closed; detaching or a message on a closed one
abbrev pub OutOfTime : Event → Phase → Type 0
OutOfTime e p = elim e [ Attach f ↦ ¬ (p ≡ IsClosed) | Detach ↦ p ≡ IsClosed | Message number ↦ p ≡ IsClosed ]

-- the number is an open session's
abbrev pub Taken : Hub → ℕ → Type 0
Taken h number = (j : ℕ) × OpenAt h j × ((session h j).id ≡ number)

-- a lent number outside 1 to 2^53; or a HELLO otherwise accepted while that number is an open session's
abbrev pub NumberRefused : Hub → ℕ → Event → List ℕ → Type 0
NumberRefused h i (Attach f) bytes = ⊥
NumberRefused h i Detach bytes = ⊥
NumberRefused h i (Message number) bytes =
    (¬ ((1 ≤ number) × (number ≤ last_id))) ⊎ ((phase_at h i ≡ IsAttached) × (read (format_at h i) bytes ≡ In.Hello realm_name) × Taken h number)

module _ (h : Hub) (x : Step) (room : ℕ) where
  -- rules 2 to 5 of the table of refusals, each where no earlier one applies
  abbrev pub InSlots : Type 0
  InSlots = Lawful h × (x.slot < slots)

  abbrev pub InTime : Type 0
  InTime = InSlots × ¬ (OutOfTime x.event (phase_at h x.slot))

  abbrev pub Numbered : Type 0
  Numbered = InTime × ¬ (NumberRefused h x.slot x.event x.bytes)

  -- the output needed: what the step sends where there is room
  abbrev pub needed : ℕ
  needed = length (output_of h (next h x.slot x.event x.bytes).mails)

  pub record Demand1 : Type 0 where
    -- 1 BAD STATE: the state breaks a state rule
    pub bad_state : (step h x room).outcome ≡ BadState ↔ ¬ (Lawful h)
    -- 2 BAD SLOT: the slot number is 8 or more
    pub bad_slot : (step h x room).outcome ≡ BadSlot ↔ (Lawful h × (slots ≤ x.slot))
    -- 3 WRONG TIME
    pub wrong_time : (step h x room).outcome ≡ WrongTime ↔ (InSlots × OutOfTime x.event (phase_at h x.slot))
    -- 4 BAD NUMBER
    pub bad_number : (step h x room).outcome ≡ BadNumber ↔ (InTime × NumberRefused h x.slot x.event x.bytes)
    -- 5 NO ROOM: the output needed is longer than the output lent
    pub no_room : (step h x room).outcome ≡ NoRoom ↔ (Numbered × (room < needed))
    -- 0 means done
    pub done : (step h x room).outcome ≡ Done ↔ (Numbered × (needed ≤ room))
    -- each refusal reports 0 bytes written, sends nothing, and keeps the state
    pub nothing : ¬ ((step h x room).outcome ≡ Done) → ((step h x room).hub ≡ h) × ((step h x room).mails ≡ []) × ((step h x room).count ≡ 0)
    -- the count of a done step is that of its output's bytes
    pub counted : (step h x room).outcome ≡ Done → (step h x room).count ≡ length (output_of h (step h x room).mails)

-- ==== Demand 2: what each message does

-- ---- rows and held calls
-- used rows of a table: one of this policy and text; one that slot i holds under this ID
abbrev pub Used : Table → ℕ → Type 0
Used t k = (k < length t.rows) × (unused (row_at t k) ≡ false)

abbrev pub RowOf : Table → Policy → List ℕ → ℕ → Type 0
RowOf t p s k = Used t k × ((row_at t k).policy ≡ p) × (row_text (row_at t k) ≡ s)

abbrev pub NoRowOf : Table → Policy → List ℕ → Type 0
NoRowOf t p s = (k : ℕ) → ¬ (RowOf t p s k)

abbrev pub RowHeld : Table → ℕ → ℕ → ℕ → Type 0
RowHeld t i id k = Used t k × ((row_at t k).number ≡ id) × (holds i (row_at t k) ≡ true)

-- the lowest unused row
pub record LowestFree (t : Table) (k : ℕ) : Type 0 where
  pub inside : k < length t.rows
  pub free : unused (row_at t k) ≡ true
  pub lowest : (j : ℕ) → j < k → unused (row_at t j) ≡ false

-- no row is free, or the ID counter stands at 2^53
abbrev pub Full : Table → Type 0
Full t = ((k : ℕ) → k < length t.rows → unused (row_at t k) ≡ false) ⊎ (t.counter ≡ last_id)

-- the table after: row k is new, under the next ID, held by slot i alone; the other rows stay
pub record Took (t t' : Table) (k : ℕ) (p : Policy) (i : ℕ) (s : List ℕ) : Type 0 where
  pub counter : t'.counter ≡ t.counter + 1
  pub number : (row_at t' k).number ≡ t.counter + 1
  pub policy : (row_at t' k).policy ≡ p
  pub text : row_text (row_at t' k) ≡ s
  pub holders : (j : ℕ) → holds j (row_at t' k) ≡ eqb j i
  pub others : (j : ℕ) → ¬ (j ≡ k) → row_at t' j ≡ row_at t j

-- the same row but for its holders
abbrev pub SameBut : Row → Row → Type 0
SameBut r r' = (r'.number ≡ r.number) × (r'.policy ≡ r.policy) × (row_text r' ≡ row_text r)

-- slot i joined row k
pub record Joined (t t' : Table) (k i : ℕ) : Type 0 where
  pub counter : t'.counter ≡ t.counter
  pub row : SameBut (row_at t k) (row_at t' k)
  pub holders : (j : ℕ) → holds j (row_at t' k) ≡ (eqb j i || holds j (row_at t k))
  pub others : (j : ℕ) → ¬ (j ≡ k) → row_at t' j ≡ row_at t j

-- slot i left a row: freed where it was the last holder, held after by exactly the others that held it
pub record LeftRow (r r' : Row) (i : ℕ) : Type 0 where
  pub freed : ((j : ℕ) → holds j r ≡ true → j ≡ i) → r' ≡ no_row
  pub kept : (j : ℕ) → ¬ (j ≡ i) → holds j r ≡ true → SameBut r r' × (holds j r' ≡ true)
  pub gone : holds i r' ≡ false
  pub others : (j : ℕ) → ¬ (j ≡ i) → holds j r' ≡ holds j r

pub record LeftTable (t t' : Table) (k i : ℕ) : Type 0 where
  pub counter : t'.counter ≡ t.counter
  pub row : LeftRow (row_at t k) (row_at t' k) i
  pub others : (j : ℕ) → ¬ (j ≡ k) → row_at t' j ≡ row_at t j

-- room for a call to the owner of a registration: place k is the lowest free one, and the callee's invocation counter is not at its end
pub record CallRoom (h : Hub) (callee k : ℕ) : Type 0 where
  pub inside : k < length h.calls
  pub free : idle (call_at h k) ≡ true
  pub lowest : (j : ℕ) → j < k → idle (call_at h j) ≡ false
  pub counter : (session h callee).invocation < last_id

abbrev pub NoCallRoom : Hub → ℕ → Type 0
NoCallRoom h callee = ((k : ℕ) → k < length h.calls → idle (call_at h k) ≡ false) ⊎ ((session h callee).invocation ≡ last_id)

-- held call k is the one that slot i serves under an invocation number; it is one that slot i serves for another session
abbrev pub Serves : Hub → ℕ → ℕ → ℕ → Type 0
Serves h i v k =
    (k < length h.calls) × (idle (call_at h k) ≡ false) × ((call_at h k).callee ≡ i) × ((call_at h k).invocation ≡ v)

abbrev pub ServedForOther : Hub → ℕ → ℕ → Type 0
ServedForOther h i k = (idle (call_at h k) ≡ false) × ((call_at h k).callee ≡ i) × ¬ ((call_at h k).caller ≡ i)

abbrev pub cancel_mail : Hub → ℕ → Mail
cancel_mail h k = mail (call_at h k).caller (Out.Reply (call_at h k).request canceled)

-- the state after a session's end: the slot has the status, its holdings and its held calls are freed, all else stays
pub record Ended (h h' : Hub) (i : ℕ) (status : Status) : Type 0 where
  pub slot : session h' i ≡ with_status status
  pub sessions : (j : ℕ) → ¬ (j ≡ i) → session h' j ≡ session h j
  pub subscription_counter : h'.subscriptions.counter ≡ h.subscriptions.counter
  pub registration_counter : h'.registrations.counter ≡ h.registrations.counter
  pub members : (k : ℕ) → holds i (row_at h.subscriptions k) ≡ true → LeftRow (row_at h.subscriptions k) (row_at h'.subscriptions k) i
  pub owners : (k : ℕ) → holds i (row_at h.registrations k) ≡ true → row_at h'.registrations k ≡ no_row
  pub subscriptions : (k : ℕ) → holds i (row_at h.subscriptions k) ≡ false → row_at h'.subscriptions k ≡ row_at h.subscriptions k
  pub registrations : (k : ℕ) → holds i (row_at h.registrations k) ≡ false → row_at h'.registrations k ≡ row_at h.registrations k
  pub freed : (k : ℕ) → idle (call_at h k) ≡ false → ((call_at h k).caller ≡ i) ⊎ ((call_at h k).callee ≡ i) → call_at h' k ≡ no_call
  pub calls : (k : ℕ) → ¬ ((call_at h k).caller ≡ i) → ¬ ((call_at h k).callee ≡ i) → call_at h' k ≡ call_at h k
  -- an unused row names slot 0, which may be the one that ends
  pub unused : (k : ℕ) → idle (call_at h k) ≡ true → call_at h' k ≡ call_at h k

-- the ID of the session in a slot
abbrev pub id_at : Hub → ℕ → ℕ
id_at h j = (session h j).id

-- the options of slot i's PUBLISH leave the session in slot j: it is the publisher only where `exclude_me` is false; its ID is not in `exclude`
-- where that is given, and in `eligible` where that is
abbrev pub Leaves : Hub → ℕ → Audience → ℕ → Type 0
Leaves h i a j =
    (id_at h j ≡ id_at h i → a.exclude_me ≡ OptionValue.Given false)
    × ((ids : List ℕ) → a.exclude ≡ OptionValue.Given ids → ¬ (In (id_at h j) ids))
    × ((ids : List ℕ) → a.eligible ≡ OptionValue.Given ids → In (id_at h j) ids)

-- row k and its member j, which the options leave: a receiver of the event
abbrev pub Receives : Hub → ℕ → Audience → List ℕ → ℕ → ℕ → Type 0
Receives h i a topic k j =
    (k < length h.subscriptions.rows) × (fits_row topic (row_at h.subscriptions k) ≡ true)
    × (holds j (row_at h.subscriptions k) ≡ true) × Leaves h i a j

-- none of the options is wrong; or one is
abbrev pub Proper : Audience → Type 0
Proper a = ¬ (a.exclude_me ≡ OptionValue.Wrong) × ¬ (a.exclude ≡ OptionValue.Wrong) × ¬ (a.eligible ≡ OptionValue.Wrong)

abbrev pub Improper : Audience → Type 0
Improper a = (a.exclude_me ≡ OptionValue.Wrong) ⊎ (a.exclude ≡ OptionValue.Wrong) ⊎ (a.eligible ≡ OptionValue.Wrong)

-- the payload p of a message from slot i is q in the format of slot j; or it does not convert for it
abbrev pub GoesAs : Hub → ℕ → ℕ → Payload → Payload → Type 0
GoesAs h i j p q = carried (format_at h i) (format_at h j) p ≡ As q

abbrev pub Unconverted : Hub → ℕ → ℕ → Payload → Type 0
Unconverted h i j p = carried (format_at h i) (format_at h j) p ≡ NotConvertible

-- a receiver, with the payload as its format has it
abbrev pub Receiver : Type 0
Receiver = record { row : ℕ; slot : ℕ; payload : Payload }

-- by row, then by slot
abbrev pub Before : Receiver → Receiver → Type 0
Before a b = (a.row < b.row) ⊎ ((a.row ≡ b.row) × (a.slot < b.slot))

abbrev pub event_mail : Hub → ℕ → List ℕ → Receiver → Mail
event_mail h publication topic a =
    let r = row_at h.subscriptions a.row in
    mail a.slot (Out.Event r.number publication (details_for r.policy topic) a.payload)

-- ---- steps
module _ (h : Hub) (x : Step) where
  -- with room for it, the step is done, sends exactly these messages, and leaves this state
  abbrev pub Leads : List Mail → Hub → Type 0
  Leads ms h' =
      (room : ℕ) → length (output_of h ms) ≤ room
      → step h x room ≡ record { outcome = Done; hub = h'; mails = ms; count = length (output_of h ms) }

  module _ (i : ℕ) where
    -- a step on a slot that is closed, attached or open, in a lawful state
    pub record OnSlot (e : Event) (state : Phase) : Type 0 where
      pub sized : Sized h
      pub lawful : Lawful h
      pub slot : x.slot ≡ i
      pub inside : i < slots
      pub event : x.event ≡ e
      pub status : phase_at h i ≡ state

    -- a session's end sends its own message first, if any, then canceled for each held call it was serving for another session, by row
    pub record EndsWith (status : Status) (own : List Mail) : Type 0 where
      pub rows : List ℕ
      pub rising : Pairs ◌<◌ rows
      pub exactly : (k : ℕ) → In k rows ↔ ServedForOther h i k
      pub after : Hub
      pub ended : Ended h after i status
      pub leads : Leads (own ++ map (cancel_mail h) rows) after

    module _ (number : ℕ) where
      -- a message, read from the bytes of such a step under a lent number in range
      pub record Heard (state : Phase) (m : Incoming) : Type 0 where
        pub on : OnSlot (Message number) state
        pub positive : 1 ≤ number
        pub limit : number ≤ last_id
        pub message : read (format_at h i) x.bytes ≡ m

      -- a request on an open session whose number is the session's last plus 1
      pub record Asked (n : ℕ) (m : Incoming) : Type 0 where
        pub heard : Heard IsOpen m
        pub next : n ≡ suc (session h i).request
        pub limit : n ≤ last_id

      -- an event reaches the members of every matching subscription that the options leave, those that it converts for, each once
      pub record Reaches (audience : Audience) (topic : List ℕ) (payload : Payload) (first : List Mail) (after : Hub) : Type 0 where
        pub receivers : List Receiver
        pub order : Pairs Before receivers
        pub exactly : (k j : ℕ) (q : Payload)
            → In (record { row = k; slot = j; payload = q }) receivers ↔ (Receives h i audience topic k j × GoesAs h i j payload q)
        pub leads : Leads (first ++ map (event_mail h number topic) receivers) after

      -- the request's number becomes the session's last, refused and unanswered ones too
      abbrev pub after_request : ℕ → Hub
      after_request n =
          with_session h i (record { status = (session h i).status; id = (session h i).id; request = n; invocation = (session h i).invocation })

      abbrev pub Sends : ℕ → Outgoing → Hub → Type 0
      Sends j m after = Leads (mail j m ∷ []) after

      -- the request is answered with an ERROR, and changes nothing else
      abbrev pub Fails : ℕ → Request → Uri → Type 0
      Fails n type uri = Sends i (Out.Error type n (uri_text uri)) (after_request n)

      abbrev pub CallFails : ℕ → Uri → Type 0
      CallFails n uri = Sends i (Out.Reply n (Failure (uri_text uri) [])) (after_request n)

      -- held call k is answered and freed
      abbrev pub Answers : ℕ → Answer → Type 0
      Answers k a = Sends (call_at h k).caller (Out.Reply (call_at h k).request a) (with_call h k no_call)

      -- what follows a SUBSCRIBE, REGISTER, PUBLISH or CALL, whose text obeys its rule or not
      abbrev pub Subscribing : Bool → (ℕ → Policy → List ℕ → Type 0) → Type 0
      Subscribing good Then =
          (n : ℕ) (p : Policy) (s : List ℕ) → Asked n (In.Subscribe n (Some p) s) → valid_topic s p ≡ good → Then n p s

      abbrev pub Registering : Bool → (ℕ → Policy → List ℕ → Type 0) → Type 0
      Registering good Then =
          (n : ℕ) (p : Policy) (s : List ℕ) → Asked n (In.Register n (Some p) s) → valid_procedure s p ≡ good → Then n p s

      abbrev pub Publishing : Bool → Bool → (ℕ → Audience → List ℕ → Payload → Type 0) → Type 0
      Publishing acknowledge good Then =
          (n : ℕ) (a : Audience) (s : List ℕ) (p : Payload) → Asked n (In.Publish n acknowledge a s p) → Proper a → valid_published s ≡ good
          → Then n a s p

      -- a PUBLISH of which an option is wrong
      abbrev pub PublishingWrong : Bool → (ℕ → Type 0) → Type 0
      PublishingWrong acknowledge Then =
          (n : ℕ) (a : Audience) (s : List ℕ) (p : Payload) → Asked n (In.Publish n acknowledge a s p) → Improper a → Then n

      abbrev pub Calling : Bool → (ℕ → List ℕ → Payload → Type 0) → Type 0
      Calling good Then =
          (n : ℕ) (s : List ℕ) (p : Payload) → Asked n (In.Call n s p) → valid_called s ≡ good → Then n s p

      pub record Demand2 : Type 0 where
        -- HELLO: WELCOME, and a session opens under the lent number; another realm gets ABORT and the slot closes
        pub welcome : Heard IsAttached (In.Hello realm_name) → ¬ (Taken h number)
            → Sends i (Out.Welcome number) (with_session h i (record { status = open_in (format_at h i); id = number; request = 0; invocation = 0 }))
        pub other_realm : (realm : List ℕ) → ¬ (realm ≡ realm_name) → Heard IsAttached (In.Hello realm)
            → Sends i (Out.Abort (uri_text Uri.NoSuchRealm)) (with_session h i (with_status Closed))
        -- GOODBYE: answered; the session ends, the slot stays attached. ABORT: no reply, session ends, slot closes
        pub goodbye : Heard IsOpen In.Goodbye → EndsWith (attached_in (format_at h i)) (mail i (Out.Goodbye (uri_text Uri.GoodbyeAndOut)) ∷ [])
        pub abort : Heard IsOpen In.Abort → EndsWith Closed []
        pub abort_early : Heard IsAttached In.Abort → Leads [] (with_session h i (with_status Closed))
        -- SUBSCRIBE: the errors in their order (`None`: `match` names no policy), then a new row, or the row that is there
        pub subscribe_match : (n : ℕ) (s : List ℕ) → Asked n (In.Subscribe n None s) → Fails n Out.Subscribe Uri.InvalidArgument
        pub subscribe_uri : Subscribing false λ n p s. Fails n Out.Subscribe Uri.InvalidUri
        pub subscribe_full : Subscribing true λ n p s.
            NoRowOf h.subscriptions p s → Full h.subscriptions → Fails n Out.Subscribe Uri.NoRoom
        pub subscribe_new : Subscribing true λ n p s.
            NoRowOf h.subscriptions p s → (k : ℕ) → LowestFree h.subscriptions k → h.subscriptions.counter < last_id
            → (t : Table) × Took h.subscriptions t k p i s
            × Sends i (Out.Subscribed n (h.subscriptions.counter + 1)) (with_subscriptions (after_request n) t)
        pub subscribe_join : Subscribing true λ n p s. (k : ℕ) → RowOf h.subscriptions p s k
            → (t : Table) × Joined h.subscriptions t k i
            × Sends i (Out.Subscribed n (row_at h.subscriptions k).number) (with_subscriptions (after_request n) t)
        -- REGISTER: the errors in their order, then a new row
        pub register_match : (n : ℕ) (s : List ℕ) → Asked n (In.Register n None s) → Fails n Out.Register Uri.InvalidArgument
        pub register_uri : Registering false λ n p s. Fails n Out.Register Uri.InvalidUri
        pub register_twice : Registering true λ n p s.
            (k : ℕ) → RowOf h.registrations p s k → Fails n Out.Register Uri.ProcedureAlreadyExists
        pub register_full : Registering true λ n p s.
            NoRowOf h.registrations p s → Full h.registrations → Fails n Out.Register Uri.NoRoom
        pub register_new : Registering true λ n p s.
            NoRowOf h.registrations p s → (k : ℕ) → LowestFree h.registrations k → h.registrations.counter < last_id
            → (t : Table) × Took h.registrations t k p i s
            × Sends i (Out.Registered n (h.registrations.counter + 1)) (with_registrations (after_request n) t)
        -- UNSUBSCRIBE and UNREGISTER: of an ID that the session holds, or not
        pub unsubscribe : (n id k : ℕ) → Asked n (In.Unsubscribe n id) → RowHeld h.subscriptions i id k
            → (t : Table) × LeftTable h.subscriptions t k i
            × Sends i (Out.Unsubscribed n) (with_subscriptions (after_request n) t)
        pub unsubscribe_none : (n id : ℕ) → Asked n (In.Unsubscribe n id) → ((k : ℕ) → ¬ (RowHeld h.subscriptions i id k))
            → Fails n Out.Unsubscribe Uri.NoSuchSubscription
        pub unregister : (n id k : ℕ) → Asked n (In.Unregister n id) → RowHeld h.registrations i id k
            → (t : Table) × (row_at t k ≡ no_row) × LeftTable h.registrations t k i
            × Sends i (Out.Unregistered n) (with_registrations (after_request n) t)
        pub unregister_none : (n id : ℕ) → Asked n (In.Unregister n id) → ((k : ℕ) → ¬ (RowHeld h.registrations i id k))
            → Fails n Out.Unregister Uri.NoSuchRegistration
        -- PUBLISH: answered, even with an error, only if `acknowledge` is literally true; the errors in their order, or PUBLISHED first, then
        -- the events
        pub publish_argument : PublishingWrong true λ n. Fails n Out.Publish Uri.InvalidArgument
        pub publish_wrong : PublishingWrong false λ n. Leads [] (after_request n)
        pub publish_uri : Publishing true false λ n a s p. Fails n Out.Publish Uri.InvalidUri
        pub publish_silent : Publishing false false λ n a s p. Leads [] (after_request n)
        pub publish : Publishing false true λ n a s p. Reaches a s p [] (after_request n)
        pub publish_acknowledged : Publishing true true λ n a s p. Reaches a s p (mail i (Out.Published n number) ∷ []) (after_request n)
        -- CALL: to the exact registration, else the longest prefix, else the best wildcard (`Right`); told none only when none matches
        pub call_uri : Calling false λ n s p. CallFails n Uri.InvalidUri
        pub call_none : Calling true λ n s p. Right h.registrations.rows s None → CallFails n Uri.NoSuchProcedure
        -- a payload that does not convert for the callee, before no room
        pub call_unconverted : Calling true λ n s p. (r : ℕ) → Right h.registrations.rows s (Some r)
            → Unconverted h i (owner (row_at h.registrations r)) p → CallFails n Uri.NotConvertible
        pub call_full : Calling true λ n s p. (r : ℕ) (q : Payload) → Right h.registrations.rows s (Some r)
            → GoesAs h i (owner (row_at h.registrations r)) p q → NoCallRoom h (owner (row_at h.registrations r)) → CallFails n Uri.NoRoom
        pub call_routed : Calling true λ n s p. (r k callee : ℕ) (q : Payload) → Right h.registrations.rows s (Some r)
            → holds callee (row_at h.registrations r) ≡ true → GoesAs h i callee p q → CallRoom h callee k
            → Sends callee
            (Out.Invocation (suc (session h callee).invocation) (row_at h.registrations r).number
            (details_for (row_at h.registrations r).policy s) q)
            (with_call (issued (after_request n) callee) k
            (record { caller = i; request = n; callee = callee; invocation = suc (session h callee).invocation }))
        -- YIELD and ERROR: the held call is answered and freed; where none carries that number, the answer is dropped
        pub yield : (v k : ℕ) (p q : Payload) → Heard IsOpen (In.Yield v p) → Serves h i v k → GoesAs h i (call_at h k).caller p q
            → Answers k (Result q)
        pub error : (v k : ℕ) (uri : List ℕ) (p q : Payload) → Heard IsOpen (In.Error v uri p) → Serves h i v k
            → GoesAs h i (call_at h k).caller p q → Answers k (Failure uri q)
        -- an answer that does not convert for the caller: it gets an error of the hub's in its place
        pub yield_unconverted : (v k : ℕ) (p : Payload) → Heard IsOpen (In.Yield v p) → Serves h i v k → Unconverted h i (call_at h k).caller p
            → Answers k not_convertible
        pub error_unconverted : (v k : ℕ) (uri : List ℕ) (p : Payload) → Heard IsOpen (In.Error v uri p) → Serves h i v k
            → Unconverted h i (call_at h k).caller p → Answers k not_convertible
        pub yield_dropped : (v : ℕ) (p : Payload) → Heard IsOpen (In.Yield v p) → v ≤ (session h i).invocation
            → ((k : ℕ) → ¬ (Serves h i v k)) → Leads [] h
        pub error_dropped : (v : ℕ) (uri : List ℕ) (p : Payload) → Heard IsOpen (In.Error v uri p) → v ≤ (session h i).invocation
            → ((k : ℕ) → ¬ (Serves h i v k)) → Leads [] h

-- ---- violations (PROTOCOL, "Reading a message"): answered with ABORT; the session ends, the slot closes
-- a message on an open session that is a violation there
abbrev pub BadRequest : Hub → ℕ → ℕ → Type 0
BadRequest h i n = ¬ ((n ≡ suc (session h i).request) × (n ≤ last_id))

abbrev pub Violates : Hub → ℕ → Incoming → Type 0
Violates h i (In.Hello realm) = Unit {0}
Violates h i In.Abort = ⊥
Violates h i In.Goodbye = ⊥
Violates h i (In.Error v uri payload) = (session h i).invocation < v
Violates h i (In.Publish n acknowledge audience topic payload) = BadRequest h i n
Violates h i (In.Subscribe n policy topic) = BadRequest h i n
Violates h i (In.Unsubscribe n id) = BadRequest h i n
Violates h i (In.Call n procedure payload) = BadRequest h i n
Violates h i (In.Register n policy procedure) = BadRequest h i n
Violates h i (In.Unregister n id) = BadRequest h i n
Violates h i (In.Yield v payload) = (session h i).invocation < v
Violates h i In.Violation = Unit {0}

-- anything but HELLO or ABORT on an attached slot
abbrev pub ViolatesEarly : Incoming → Type 0
ViolatesEarly m = ((realm : List ℕ) → ¬ (m ≡ In.Hello realm)) × ¬ (m ≡ In.Abort)

pub record Demand2Slots (h : Hub) (x : Step) (i number : ℕ) : Type 0 where
  pub violation : (m : Incoming) → Heard h x i number IsOpen m → Violates h i m
      → EndsWith h x i Closed (mail i (Out.Abort (uri_text Uri.ProtocolViolation)) ∷ [])
  pub violation_early : (m : Incoming) → Heard h x i number IsAttached m → ViolatesEarly m
      → Leads h x (mail i (Out.Abort (uri_text Uri.ProtocolViolation)) ∷ []) (with_session h i (with_status Closed))
  pub attach : (f : Format) → OnSlot h x i (Attach f) IsClosed → Leads h x [] (with_session h i (with_status (attached_in f)))
  pub detach_open : OnSlot h x i Detach IsOpen → EndsWith h x i Closed []
  pub detach_attached : OnSlot h x i Detach IsAttached → Leads h x [] (with_session h i (with_status Closed))

-- ==== Demand 3: one claim over a whole list of steps from an empty hub, refused steps and any bytes included

-- for session c and number n: the replies counted are 0 while its CALL is held, 0 if its caller's session ended with it held, and 1
-- otherwise; no CALL taken in, no reply
pub record Counted (gs : List Given) (c n : ℕ) : Type 0 where
  pub once : taken_in c n empty_book (fed_by gs) ≤ 1
  pub none : taken_in c n empty_book (fed_by gs) ≡ 0 → replies_to c n empty_book (fed_by gs) ≡ 0
  pub held : 0 < held_now c n (book_of gs) → replies_to c n empty_book (fed_by gs) ≡ 0
  pub lost : 0 < lost_in c n empty_book (fed_by gs) → replies_to c n empty_book (fed_by gs) ≡ 0
  pub answered : taken_in c n empty_book (fed_by gs) ≡ 1 → held_now c n (book_of gs) ≡ 0 → lost_in c n empty_book (fed_by gs) ≡ 0
      → replies_to c n empty_book (fed_by gs) ≡ 1

-- what a session's end may say of its own: nothing, GOODBYE, or ABORT
pub data OwnMessage (i : ℕ) : List Mail → Type 0 where
  quiet : OwnMessage i []
  goodbye : OwnMessage i (mail i (Out.Goodbye (uri_text Uri.GoodbyeAndOut)) ∷ [])
  abort : OwnMessage i (mail i (Out.Abort (uri_text Uri.ProtocolViolation)) ∷ [])

-- place k after the run
abbrev pub held_at : List Given → ℕ → Place
held_at gs k = get_or (book_of gs).places k no_place

pub record Demand3 (gs : List Given) : Type 0 where
  -- a step's results and call errors are those owed, in that order, each to its caller with its request number, and carries that answer
  pub replies : Both (Both Meets) (owed_in empty_book (fed_by gs)) (sent_in empty_book (fed_by gs))
  -- a slot that is not closed has the format that the book noted of it
  pub formats : (i : ℕ) → ¬ (phase_at (hub_of gs) i ≡ IsClosed) → format_in (book_of gs) i ≡ format_at (hub_of gs) i
  -- held-call row k is place k, sessions matched by their slots
  pub rows : (book_of gs).places ≡ map (place_of (names (book_of gs).entrants)) (hub_of gs).calls
  -- a slot has an open session in the hub exactly if it has one in the book
  pub slots : (i : ℕ) → OpenAt (hub_of gs) i ↔ (0 < names (book_of gs).entrants i)
  -- open sessions are named apart, each by a step of the run: each accepted HELLO begins a new session
  pub named : (i j : ℕ) → 0 < names (book_of gs).entrants i → names (book_of gs).entrants i ≡ names (book_of gs).entrants j → i ≡ j
  pub past : (i : ℕ) → names (book_of gs).entrants i ≤ length gs
  -- a slot that step j, counted from 0, sends a WELCOME has a session named by that step
  pub welcome : (j i id : ℕ) → j < length gs → In (mail i (Out.Welcome id)) (fed_at gs j).mails → names (book_at gs (suc j)).entrants i ≡ suc j
  -- each call taken in gets exactly one reply, or none while held or once its caller has gone
  pub counts : (c n : ℕ) → 0 < c → Counted gs c n
  -- a call routed at step i is held after step j exactly while no step between settles it
  pub until : (i j k : ℕ) (p : Place) → Routed gs i k p → i < j → j ≤ length gs → (place_at gs j k ≡ p ↔ Unsettled gs p i j)
  -- the first step that settles it sends its reply: that answer, or canceled
  pub replied : (i m k : ℕ) (p : Place) → Routed gs i k p → i < m → m < length gs → Unsettled gs p i m → Settles gs p m → Replied gs p m
  -- held calls join open sessions, and are distinct both ways
  pub joined : (k : ℕ) → vacant (held_at gs k) ≡ false
      → (i j : ℕ) × (names (book_of gs).entrants i ≡ (held_at gs k).caller) × OpenAt (hub_of gs) i
      × (names (book_of gs).entrants j ≡ (held_at gs k).callee) × OpenAt (hub_of gs) j
  pub distinct : (k l : ℕ) → ¬ (k ≡ l) → CallsApart (call_at (hub_of gs) k) (call_at (hub_of gs) l)
  -- the state rules are kept, so BAD STATE never arises
  pub lawful : Lawful (hub_of gs)
  pub sized : Sized (hub_of gs)
  pub never : (g : Given) → ¬ ((result (hub_of gs) g).outcome ≡ BadState)
  -- 2,048 bytes are enough for any session's end: its own message, if any, and each canceled
  pub fits : (i : ℕ) (own : List Mail) (rows : List ℕ) → OwnMessage i own → Pairs ◌<◌ rows
      → ((k : ℕ) → In k rows → ServedForOther (hub_of gs) i k) → length (output_of (hub_of gs) (own ++ map (cancel_mail (hub_of gs)) rows)) ≤ 2048
