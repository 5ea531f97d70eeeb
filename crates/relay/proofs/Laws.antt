-- The events of a PUBLISH, and payloads that go on, are the model's. Assumes nothing.
use Rattle.std.specs.Prelude.{Option}
use Prim.Native.Nat.{ℕ, suc, ◌+◌, ◌≤◌, ◌<◌}
use mathlib.Core.Bool.{Bool, true, false, not}
use mathlib.Core.List.{List, [], ◌∷◌, ◌++◌, map}
use mathlib.Core.Path.{◌≡◌, refl, sym, ap, ap₂, ◌∙◌}
use native.Mathlib.Omega.{arith}
use borrow.Author.Tests.{not-true, not-false}
use lib.Dec.{eqb}
use native.Mathlib.Numerals.{add-one}
use lib.ListN.{length, drop, get_or, drop_of_length-le}
use lib.Seq.{drop-cons}
use Rattle.seq.specs.declared.Format.{Format}
use Rattle.seq.specs.declared.Format.TheVariants.{Json, MsgPack}
use Rattle.seq.specs.declared.PayloadSpans.{PayloadSpans}
use Rattle.seq.specs.Lists.{joined}
use Rattle.seq.specs.Bytes.{Payload, Source, source, payload_of}
use Rattle.seq.proofs.Logic.{split, clash, and_left, and-false, or-false, or-given}
use Rattle.uri.specs.declared.Policy.{Policy}
use Rattle.uri.specs.declared.Policy.TheVariants.{Exact, Prefix, Wildcard}
use Rattle.pattern.specs.declared.Row.{Row}
use Rattle.pattern.specs.Choice.{fits_row}
use Rattle.conversion.specs.Carried.{As, carried, converted, carried_by}
use Rattle.conversion.specs.Converts.{other}
use Rattle.conversion.specs.Sources.{Sources, across}
use Rattle.outgoing.specs.Outgoing.{Outgoing}
use Rattle.replies.specs.Meaning.{details_of}
use Rattle.outgoing.specs.Layout.{Mail, Formats}
use Rattle.outbox.specs.declared.EventRow.{EventRow}
use Rattle.outbox.specs.Meaning.{to_holders, event_to, event_mails}
use Rattle.model.specs.declared.Hub.{Hub}
use Rattle.model.specs.declared.HeldCall.{HeldCall}
use Rattle.model.specs.State.{format_at, with_call}
use Rattle.model.specs.Step as Step
use Rattle.model.specs.Step.{events_to, row_events, details_for, conveyed}
use Rattle.state.specs.Change.{in_set, both}
use Rattle.relay.specs.declared.AnswerKind.{AnswerKind}
use Rattle.relay.specs.declared.AnswerKind.TheVariants.{Result, Failure}
use Rattle.relay.specs.Relay.{naming, event_of, crosses, rows_cross, answer_of, answer_by}

-- ---- the receivers of a row's event
-- those of a row's holders that are in a set of slots, of which ts are the flags from slot j on
events-to : (event : ℕ → List Mail) (to : ℕ → Bool) (j : ℕ) (bs ts : List Bool) → ((k : ℕ) → to (k + j) ≡ get_or ts k false)
    → events_to event to j bs ≡ to_holders event j (both bs ts)
unfolding events_to to_holders both
events-to event to j [] ts e = refl
events-to event to j (b ∷ bs) [] e =
    let here : to j ≡ false = let q : 0 + j ≡ j = omega arith in rw q at (e 0) in
    rw (here, and-false b false refl)
    (events-to event to (suc j) bs [] (λ k. let q : k + suc j ≡ suc k + j = omega arith in rw q (e (suc k))))
events-to event to j (b ∷ bs) (t ∷ ts) e =
    let here : to j ≡ t = let q : 0 + j ≡ j = omega arith in rw q at (e 0) in
    rw (here, events-to event to (suc j) bs ts (λ k. let q : k + suc j ≡ suc k + j = omega arith in rw q (e (suc k))))

-- two events are one to a set of slots: where they are to every slot; or to those of a format, and the set has no others
module _ (F G : ℕ → List Mail) where
  holders-same : ((j : ℕ) → F j ≡ G j) → (i : ℕ) (bs : List Bool) → to_holders F i bs ≡ to_holders G i bs
  unfolding to_holders
  holders-same e i [] = refl
  holders-same e i (true ∷ bs) = ap₂ ◌++◌ (e i) (holders-same e (suc i) bs)
  holders-same e i (false ∷ bs) = holders-same e (suc i) bs

  holders-near : (fs : Formats) (f : Format) → ((j : ℕ) → across f (fs j) true false ≡ true → F j ≡ G j) → (i : ℕ) (bs : List Bool)
      → crosses fs f i bs ≡ false → to_holders F i bs ≡ to_holders G i bs
  unfolding to_holders crosses
  holders-near fs f e i [] n = refl
  holders-near fs f e i (true ∷ bs) n =
      let p = or-false (not (across f (fs i) true false)) (crosses fs f (suc i) bs) n in
      ap₂ ◌++◌ (e i (not-false _ p.0)) (holders-near fs f e (suc i) bs p.1)
  holders-near fs f e i (false ∷ bs) n = holders-near fs f e (suc i) bs n

-- ---- a payload for a receiver
-- of the sender's format it needs no conversion
near : (f g : Format) (p : Payload) (s : Option PayloadSpans) (c : List ℕ) → across f g true false ≡ true → across f g (As p) (carried_by c s) ≡ carried f g p
unfolding carried
near Json Json p s c e = refl
near MsgPack MsgPack p s c e = refl
near Json MsgPack p s c e = clash e refl
near MsgPack Json p s c e = clash e refl

-- and whatever its format is where the payload was converted
far : (f g : Format) (p : Payload) (s : Option PayloadSpans) (c : List ℕ) → carried_by c s ≡ converted f (other f) p → across f g (As p) (carried_by c s) ≡ carried f g p
unfolding carried
far Json Json p s c e = refl
far MsgPack MsgPack p s c e = refl
far Json MsgPack p s c e = e
far MsgPack Json p s c e = e

pub carried-within : (f g : Format) (s c : List ℕ) (p : PayloadSpans) → across f g true false ≡ true
    → As (payload_of (across f g s c) p) ≡ carried f g (payload_of s p)
unfolding carried
carried-within Json Json s c p e = refl
carried-within MsgPack MsgPack s c p e = refl
carried-within Json MsgPack s c p e = clash e refl
carried-within MsgPack Json s c p e = clash e refl

pub carried-across : (f g : Format) (s c : List ℕ) (q : Option PayloadSpans) (p : Payload) → across f g true false ≡ false
    → carried_by c q ≡ converted f (other f) p → carried_by (across f g s c) q ≡ carried f g p
unfolding carried
carried-across Json Json s c q p n e = clash refl n
carried-across MsgPack MsgPack s c q p n e = clash refl n
carried-across Json MsgPack s c q p n e = e
carried-across MsgPack Json s c q p n e = e

-- ---- the events of rows
pub details-named : (m : Source) (policy : Policy) → details_of m (naming policy) ≡ details_for policy m.text
unfolding details_for
details-named m Exact = refl
details-named m Prefix = refl
details-named m Wildcard = refl

fits-used : (u : List ℕ) (r : Row) → fits_row u r ≡ true → eqb r.number 0 ≡ false
unfolding fits_row
fits-used u r t = not-true _ (and_left _ _ t)

-- what the payload was converted to is what the model converts it to, if one of some rows needs that
abbrev Right : Formats → Sources → PayloadSpans → Option PayloadSpans → Bool → Type 0
Right fs m payload q needed = needed ≡ true → carried_by m.converted q ≡ converted m.from (other m.from) (payload_of m.message payload)

module _ (h : Hub) (i : ℕ) (to : List Bool) (publication : ℕ) (m : Sources) (from : m.from ≡ format_at h i) (payload : PayloadSpans) (q : Option PayloadSpans)
  where
    abbrev p : Payload
    p = payload_of m.message payload

    event-near : (event : Payload → Outgoing) (j : ℕ) → across m.from (format_at h j) true false ≡ true
        → event_to (format_at h) m event payload q j ≡ Step.event_to h i event p j
    unfolding event_to Step.event_to
    event-near event j e = rw (near m.from (format_at h j) p q m.converted e, from)

    event-far : (event : Payload → Outgoing) → carried_by m.converted q ≡ converted m.from (other m.from) p → (j : ℕ)
        → event_to (format_at h) m event payload q j ≡ Step.event_to h i event p j
    unfolding event_to Step.event_to
    event-far event e j = rw (far m.from (format_at h j) p q m.converted e, from)

    to-holders : (event : Payload → Outgoing) (bs : List Bool) → Right (format_at h) m payload q (crosses (format_at h) m.from 0 bs)
        → to_holders (event_to (format_at h) m event payload q) 0 bs ≡ to_holders (Step.event_to h i event p) 0 bs
    to-holders event bs right =
        split (crosses (format_at h) m.from 0 bs)
        (λ t. holders-same _ _ (event-far event (right t)) 0 bs)
        (λ t. holders-near _ _ (format_at h) m.from (event-near event) 0 bs t)

    row-sent : (r : Row) → Right (format_at h) m payload q (crosses (format_at h) m.from 0 (event_of to m.text r).holders)
        → event_mails (format_at h) m publication payload q (event_of to m.text r) ≡ row_events h i (in_set to) publication m.text p r
    unfolding event_mails event_of row_events
    row-sent r right =
        split (fits_row m.text r)
        (λ t.
        let o = rw t at right in
        rw (t, fits-used m.text r t, details-named (source m.message m.text) r.policy)
        (to-holders _ (both r.holders to) o
        ∙ sym (events-to _ (in_set to) 0 r.holders to (λ k. let z : k + 0 ≡ k = omega arith in rw z))))
        (λ t. rw t)

    pub events-sent : (rows : List Row) → Right (format_at h) m payload q (rows_cross (format_at h) m.from (map (event_of to m.text) rows))
        → joined (event_mails (format_at h) m publication payload q) (map (event_of to m.text) rows)
        ≡ joined (row_events h i (in_set to) publication m.text p) rows
    unfolding rows_cross
    events-sent [] right = refl
    events-sent (r ∷ rows) right =
        let x : Bool = crosses (format_at h) m.from 0 (event_of to m.text r).holders in
        let y : Bool = rows_cross (format_at h) m.from (map (event_of to m.text) rows) in
        ap₂ ◌++◌ (row-sent r (λ t. right (rw t))) (events-sent rows (λ t. right (or-given x y (λ _. t))))

-- ---- answers
pub conveyed-by : (f g : Format) (t : List ℕ) (kind : AnswerKind) (p : Payload) → conveyed f g (answer_of t kind p) ≡ answer_by t kind (carried f g p)
unfolding conveyed
conveyed-by f g t Result p = refl
conveyed-by f g t Failure p = refl

-- ---- loops: a row's receivers from slot i on, rows from place i on
module _ (fs : Formats) (f : Format) (hs : List Bool) (i : ℕ) (k : i < length hs) where
  pub cross-hit : get_or hs i false ≡ true → across f (fs i) true false ≡ false → crosses fs f i (drop i hs) ≡ true
  unfolding crosses
  cross-hit b o = rw (drop-cons hs i false k, b, o)

  pub cross-miss : get_or hs i false ≡ true → across f (fs i) true false ≡ true → crosses fs f i (drop i hs) ≡ crosses fs f (i + 1) (drop (i + 1) hs)
  unfolding crosses
  cross-miss b o = rw (add-one, drop-cons hs i false k, b, o)

  pub cross-skip : get_or hs i false ≡ false → crosses fs f i (drop i hs) ≡ crosses fs f (i + 1) (drop (i + 1) hs)
  unfolding crosses
  cross-skip b = rw (add-one, drop-cons hs i false k, b)

pub cross-end : (fs : Formats) (f : Format) (hs : List Bool) (i : ℕ) → length hs ≤ i → crosses fs f i (drop i hs) ≡ false
unfolding crosses
cross-end fs f hs i k = rw (drop_of_length-le hs k)

module _ (fs : Formats) (f : Format) (rs : List EventRow) (i : ℕ) (d : EventRow) (k : i < length rs) where
  pub rows-hit : crosses fs f 0 (get_or rs i d).holders ≡ true → rows_cross fs f (drop i rs) ≡ true
  unfolding rows_cross
  rows-hit b = rw (drop-cons rs i d k, b)

  pub rows-miss : crosses fs f 0 (get_or rs i d).holders ≡ false → rows_cross fs f (drop i rs) ≡ rows_cross fs f (drop (i + 1) rs)
  unfolding rows_cross
  rows-miss b = rw (add-one, drop-cons rs i d k, b)

pub rows_end : (fs : Formats) (f : Format) (rs : List EventRow) (i : ℕ) → length rs ≤ i → rows_cross fs f (drop i rs) ≡ false
unfolding rows_cross
rows_end fs f rs i k = rw (drop_of_length-le rs k)

-- ---- a part of what a function promises, by name: an equation of whole steps is too long for a log to show what is wrong in it
-- the URI of an error to a PUBLISH
abbrev pub uri_refused : (x : Step.Next) (h : Hub) (i n : ℕ) (acknowledge : Bool) (uri : List ℕ) → x ≡ Step.publish_error h i n acknowledge uri → List ℕ
uri_refused x h i n acknowledge uri e = uri

-- the URI of a call error
abbrev pub uri_told : (x : Step.Next) (h : Hub) (i n : ℕ) (uri : List ℕ) → x ≡ Step.call_error h i n uri → List ℕ
uri_told x h i n uri e = uri

-- who called, of a call that is held
abbrev pub caller_held : (x : Step.Next) (h : Hub) (k : ℕ) (call : HeldCall) (i : ℕ) (message : Outgoing) → x ≡ Step.says (with_call h k call) i message → ℕ
caller_held x h k call i message e = call.caller
