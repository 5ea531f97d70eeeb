-- Second statements of demands 1 and 2: their cases leave no step out, a lawful hub stays one, a session's end is never refused for room,
-- a done step is the same with more room, a caller hears "none" exactly when no registration fits, and the lent number is nothing to any
-- message but HELLO and PUBLISH.
use Rattle.outgoing.specs.declared.Uri.TheVariants as Uri
use Rattle.std.specs.Prelude.{◌≤◌, ◌<◌, ◌≡◌, ◌↔◌}
use Rattle.model.specs.Words.{last_id, uri_text, Bool, Payload, ℕ, true, false, List, [], Some, None, valid_topic, valid_procedure, valid_published, valid_called, fits_row, Right, read, Format, Hub, Attach, Detach, Message, Done, NoRoom, Policy, Incoming, Failure, Mail, Audience}
use Rattle.incoming.specs.Incoming as In
use Rattle.outgoing.specs.Outgoing as Out
use Rattle.model.specs.State.{session, Phase, IsClosed, IsAttached, IsOpen, format_at, holds, owner, row_at, call_at}
use Rattle.model.specs.Rules.{OpenAt, Sized, Lawful}
use Rattle.model.specs.Step.{Step, step, next, mail, realm_name}
use Rattle.model.specs.Run.{In}
use Rattle.model.specs.Demands.{Taken, Numbered, RowOf, NoRowOf, RowHeld, LowestFree, Full, CallRoom, NoCallRoom, Serves, GoesAs, Unconverted, OnSlot, Heard, Asked, Leads, Demand2, Demand2Slots, Violates, ViolatesEarly, Proper, Improper}

-- ==== the cases of demand 2: a constructor for each field of `Demand2` and `Demand2Slots`, of its name and with what it assumes
module _ (h : Hub) (x : Step) (i number : ℕ) where
  abbrev Hears : Phase → Incoming → Type 0
  Hears = Heard h x i number

  abbrev Asks : ℕ → Incoming → Type 0
  Asks = Asked h x i number

  pub data Case : Type 0 where
    -- HELLO, GOODBYE and ABORT
    welcome : Hears IsAttached (In.Hello realm_name) → ¬ (Taken h number) → Case
    other_realm : (realm : List ℕ) → ¬ (realm ≡ realm_name) → Hears IsAttached (In.Hello realm) → Case
    goodbye : Hears IsOpen In.Goodbye → Case
    abort : Hears IsOpen In.Abort → Case
    abort_early : Hears IsAttached In.Abort → Case
    -- SUBSCRIBE; `None`: its `match` names no policy
    subscribe_match : (n : ℕ) (s : List ℕ) → Asks n (In.Subscribe n None s) → Case
    subscribe_uri : (n : ℕ) (p : Policy) (s : List ℕ) → Asks n (In.Subscribe n (Some p) s) → valid_topic s p ≡ false → Case
    subscribe_full :
        (n : ℕ) (p : Policy) (s : List ℕ) → Asks n (In.Subscribe n (Some p) s) → valid_topic s p ≡ true
        → NoRowOf h.subscriptions p s → Full h.subscriptions → Case
    subscribe_new :
        (n : ℕ) (p : Policy) (s : List ℕ) → Asks n (In.Subscribe n (Some p) s) → valid_topic s p ≡ true
        → NoRowOf h.subscriptions p s → (k : ℕ) → LowestFree h.subscriptions k → h.subscriptions.counter < last_id → Case
    subscribe_join :
        (n : ℕ) (p : Policy) (s : List ℕ) → Asks n (In.Subscribe n (Some p) s) → valid_topic s p ≡ true
        → (k : ℕ) → RowOf h.subscriptions p s k → Case
    -- REGISTER; `None` as in SUBSCRIBE
    register_match : (n : ℕ) (s : List ℕ) → Asks n (In.Register n None s) → Case
    register_uri : (n : ℕ) (p : Policy) (s : List ℕ) → Asks n (In.Register n (Some p) s) → valid_procedure s p ≡ false → Case
    register_twice :
        (n : ℕ) (p : Policy) (s : List ℕ) → Asks n (In.Register n (Some p) s) → valid_procedure s p ≡ true
        → (k : ℕ) → RowOf h.registrations p s k → Case
    register_full :
        (n : ℕ) (p : Policy) (s : List ℕ) → Asks n (In.Register n (Some p) s) → valid_procedure s p ≡ true
        → NoRowOf h.registrations p s → Full h.registrations → Case
    register_new :
        (n : ℕ) (p : Policy) (s : List ℕ) → Asks n (In.Register n (Some p) s) → valid_procedure s p ≡ true
        → NoRowOf h.registrations p s → (k : ℕ) → LowestFree h.registrations k → h.registrations.counter < last_id → Case
    -- UNSUBSCRIBE and UNREGISTER
    unsubscribe : (n id k : ℕ) → Asks n (In.Unsubscribe n id) → RowHeld h.subscriptions i id k → Case
    unsubscribe_none : (n id : ℕ) → Asks n (In.Unsubscribe n id) → ((k : ℕ) → ¬ (RowHeld h.subscriptions i id k)) → Case
    unregister : (n id k : ℕ) → Asks n (In.Unregister n id) → RowHeld h.registrations i id k → Case
    unregister_none : (n id : ℕ) → Asks n (In.Unregister n id) → ((k : ℕ) → ¬ (RowHeld h.registrations i id k)) → Case
    -- PUBLISH: of each `acknowledge`, an option that is wrong or none, a topic that obeys its rule or not
    publish_argument : (n : ℕ) (a : Audience) (s : List ℕ) (p : Payload) → Asks n (In.Publish n true a s p) → Improper a → Case
    publish_wrong : (n : ℕ) (a : Audience) (s : List ℕ) (p : Payload) → Asks n (In.Publish n false a s p) → Improper a → Case
    publish_uri :
        (n : ℕ) (a : Audience) (s : List ℕ) (p : Payload) → Asks n (In.Publish n true a s p) → Proper a → valid_published s ≡ false → Case
    publish_silent :
        (n : ℕ) (a : Audience) (s : List ℕ) (p : Payload) → Asks n (In.Publish n false a s p) → Proper a → valid_published s ≡ false → Case
    publish :
        (n : ℕ) (a : Audience) (s : List ℕ) (p : Payload) → Asks n (In.Publish n false a s p) → Proper a → valid_published s ≡ true → Case
    publish_acknowledged :
        (n : ℕ) (a : Audience) (s : List ℕ) (p : Payload) → Asks n (In.Publish n true a s p) → Proper a → valid_published s ≡ true → Case
    -- CALL
    call_uri : (n : ℕ) (s : List ℕ) (p : Payload) → Asks n (In.Call n s p) → valid_called s ≡ false → Case
    call_none :
        (n : ℕ) (s : List ℕ) (p : Payload) → Asks n (In.Call n s p) → valid_called s ≡ true
        → Right h.registrations.rows s None → Case
    call_unconverted :
        (n : ℕ) (s : List ℕ) (p : Payload) → Asks n (In.Call n s p) → valid_called s ≡ true
        → (r : ℕ) → Right h.registrations.rows s (Some r) → Unconverted h i (owner (row_at h.registrations r)) p → Case
    call_full :
        (n : ℕ) (s : List ℕ) (p : Payload) → Asks n (In.Call n s p) → valid_called s ≡ true
        → (r : ℕ) (q : Payload) → Right h.registrations.rows s (Some r) → GoesAs h i (owner (row_at h.registrations r)) p q
        → NoCallRoom h (owner (row_at h.registrations r)) → Case
    call_routed :
        (n : ℕ) (s : List ℕ) (p : Payload) → Asks n (In.Call n s p) → valid_called s ≡ true
        → (r k callee : ℕ) (q : Payload) → Right h.registrations.rows s (Some r) → holds callee (row_at h.registrations r) ≡ true
        → GoesAs h i callee p q → CallRoom h callee k → Case
    -- YIELD and ERROR
    yield : (v k : ℕ) (p q : Payload) → Hears IsOpen (In.Yield v p) → Serves h i v k → GoesAs h i (call_at h k).caller p q → Case
    error :
        (v k : ℕ) (uri : List ℕ) (p q : Payload) → Hears IsOpen (In.Error v uri p) → Serves h i v k
        → GoesAs h i (call_at h k).caller p q → Case
    yield_unconverted :
        (v k : ℕ) (p : Payload) → Hears IsOpen (In.Yield v p) → Serves h i v k → Unconverted h i (call_at h k).caller p → Case
    error_unconverted :
        (v k : ℕ) (uri : List ℕ) (p : Payload) → Hears IsOpen (In.Error v uri p) → Serves h i v k
        → Unconverted h i (call_at h k).caller p → Case
    yield_dropped :
        (v : ℕ) (p : Payload) → Hears IsOpen (In.Yield v p) → v ≤ (session h i).invocation → ((k : ℕ) → ¬ (Serves h i v k)) → Case
    error_dropped :
        (v : ℕ) (uri : List ℕ) (p : Payload) → Hears IsOpen (In.Error v uri p) → v ≤ (session h i).invocation
        → ((k : ℕ) → ¬ (Serves h i v k)) → Case
    -- violations, attaching and detaching
    violation : (m : Incoming) → Hears IsOpen m → Violates h i m → Case
    violation_early : (m : Incoming) → Hears IsAttached m → ViolatesEarly m → Case
    attach : (f : Format) → OnSlot h x i (Attach f) IsClosed → Case
    detach_open : OnSlot h x i Detach IsOpen → Case
    detach_attached : OnSlot h x i Detach IsAttached → Case

-- the step is done, with room for it: some messages are sent, and some hub is left
abbrev pub Leading : Hub → Step → Type 0
Leading h x = (ms : List Mail) × (after : Hub) × Leads h x ms after

-- ==== the statements, for every hub, step and room
-- neither a HELLO nor a PUBLISH, the two messages that the lent number is for
abbrev pub NeedsNoNumber : Incoming → Type 0
NeedsNoNumber m =
    ((realm : List ℕ) → ¬ (m ≡ In.Hello realm))
    × ((n : ℕ) (acknowledge : Bool) (a : Audience) (s : List ℕ) (p : Payload) → ¬ (m ≡ In.Publish n acknowledge a s p))

-- the same step under another lent number
abbrev pub lending : Step → ℕ → Step
lending x number = record { slot = x.slot; event = Message number; bytes = x.bytes }

pub record Complete (h : Hub) (x : Step) (room : ℕ) : Type 0 where
  -- a step that none of refusals 1 to 4 applies to is in one of the cases of demand 2
  pub covered : Sized h → Numbered h x room → (number : ℕ) × Case h x x.slot number
  -- and in each case its field alone says what the step leads to: the field asks for no more than the case has
  pub told : (i number : ℕ) → Demand2 h x i number → Demand2Slots h x i number → Case h x i number → Leading h x
  -- every step, refused ones included, leaves a lawful hub lawful
  pub lasting : Sized h → Lawful h → Sized (step h x room).hub × Lawful (step h x room).hub
  -- with 2,048 bytes lent, a step that ends a session is not refused for room
  pub ending : Sized h → Lawful h → OpenAt h x.slot → ¬ (OpenAt (next h x.slot x.event x.bytes).hub x.slot) → 2048 ≤ room
      → ¬ ((step h x room).outcome ≡ NoRoom)
  -- a done step's output is within the room lent, and more room makes no difference: no step sends fewer messages for want of room
  pub within : Sized h → (step h x room).outcome ≡ Done → (step h x room).count ≤ room
  pub roomier : Sized h → (step h x room).outcome ≡ Done → (more : ℕ) → room ≤ more → step h x more ≡ step h x room
  -- no_such_procedure is sent exactly when no row fits
  pub unknown : (i number n : ℕ) (s : List ℕ) (p : Payload) → Asked h x i number n (In.Call n s p) → valid_called s ≡ true
      → (step h x room).outcome ≡ Done
      → In (mail i (Out.Reply n (Failure (uri_text Uri.NoSuchProcedure) []))) (step h x room).mails
      ↔ ((k : ℕ) → fits_row s (row_at h.registrations k) ≡ false)
  -- outcome, state and output of any other message do not depend on the lent number
  pub lent : (a b : ℕ) → 1 ≤ a → a ≤ last_id → 1 ≤ b → b ≤ last_id → NeedsNoNumber (read (format_at h x.slot) x.bytes)
      → step h (lending x a) room ≡ step h (lending x b) room
