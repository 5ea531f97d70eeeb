-- What a message, an attaching or a detaching leads to, beside the book's entry for it: hub and book match after it, the replies to calls
-- sent are those owed, a routed call had an empty place, and a WELCOME is the book's new session. Assumes nothing.
use Rattle.std.specs.Prelude.{Some}
use Prim.Native.Nat.{ℕ, suc, ◌<◌}
use mathlib.Core.Path.{◌≡◌, refl, sym, subst, ◌∙◌, ap}
use mathlib.Core.Logic.{inl, inr}
use mathlib.Core.Bool.{Bool, true, false, cond}
use mathlib.Core.List.{List, [], ◌∷◌}
use native.Mathlib.Omega.{arith}
use native.Mathlib.Numerals.{add-one}
use lib.ListN.{length, set, length-map}
use lib.Seq.{get_or-set_same}
use lib.Dec.{eqb, leb, ltb}
use borrow.Author.Tests.{eqb-true, ne_eqb, lt-ltb, le-ltb}
use Rattle.seq.specs.Lists.{first, All, Both}
use Rattle.seq.specs.Bytes.{same, Payload}
use Rattle.seq.proofs.Logic.{split, and_left}
use Rattle.seq.proofs.Rules.{at_set}
use Rattle.seq.proofs.Search.{split-found, found_inside, found-passes}
use Rattle.uri.specs.Uri.{valid_called}
use Rattle.pattern.specs.declared.Row.{Row}
use Rattle.pattern.specs.Choice.{choice}
use Rattle.incoming.specs.Incoming as In
use Rattle.incoming.specs.Incoming.{Incoming}
use Rattle.outgoing.specs.Outgoing as Out
use Rattle.outgoing.specs.Outgoing.{Answer, Result, Failure}
use Rattle.outgoing.specs.Layout.{Mail}
use Rattle.outgoing.specs.Outgoing.{uri_text}
use Rattle.outgoing.specs.declared.Uri.TheVariants as Uri
use Rattle.model.specs.declared.Status.{Status}
use Rattle.model.specs.declared.Status.TheVariants.{Closed}
use Rattle.model.specs.declared.HeldCall.{HeldCall}
use Rattle.model.specs.declared.Hub.{Hub}
use Rattle.seq.specs.Numbers.{last_id}
use Rattle.model.specs.State.{with_status, no_session, no_call, session, IsClosed, IsOpen, phase, format_of, format_at, attached_in, open_in, with_session, owner, row_at, idle, serves, call_at, with_call}
use Rattle.model.specs.Rules.{OpenAt, Lawful}
use Rattle.model.specs.Step.{Next, mail, silent, says, cancels, ends, violates, realm_name, follows, numbered, issued, call_error, routed, route, passed, call, answered, answer, request, on_open, welcomes, turns_away, Early, Greets, Leaves, Wrong, on_attached}
use Rattle.model.specs.Book.{Book, Entrant, Entry, nobody, chosen, entrant, names, format_in, with_format, with_entrant, lowest, lookup, seen, welcomed, invocation_in, replies, replies_in, error_sent, nothing, cancels_owed, over, asked, invoked, called, settled, answers, in_order, Asks, Answers, view, heard, unheard}
use Rattle.model.specs.Run.{place_of, In, Meets}
use Rattle.model.proofs.Fit.{Roomy}
use Rattle.model.proofs.Matches.{Named, Matches, noted, place-idle, place-held, place-at, idle-no, open-inside, tables-change, remarked, names-kept, advanced, opened, written, inside'}
use Rattle.model.proofs.Lookup.{lowest-first, serves-held, lookup_first, row-joined}
use Rattle.model.proofs.Formats.{phase-attached, phase-open, format-attached, format-open, closed-open}
use Rattle.model.proofs.Conveyed.{carries_same, carries-conveyed}
use Rattle.values.specs.Whole.{Whole}
use Rattle.model.specs.Carries.{payload_of}
use Rattle.incoming.proofs.Whole.{WholeIn}
use Rattle.conversion.specs.Carried.{carried}
use Rattle.conversion.proofs.Carried.{split-carried}
use Rattle.model.proofs.BookEnds.{cancels-owed, cancels-uninvoked, cancels-unwelcomed, ended-matches}
use Rattle.model.proofs.Chosen.{choice-used}
use Rattle.model.proofs.Owner.{registered-open}
use Rattle.model.proofs.Quiet.{Unseen, past-replies, past-invocation, no-replies, no-invocation, past-welcome, no-welcome, Welcomes, welcomes-none, Quiet, subscribe-quiet, register-quiet, unsubscribe-quiet, unregister-quiet, publish-quiet}

-- what a step leads to, and the book's entry for it; b is the book before
pub record Agrees (b : Book) (x : Next) (e : Entry) : Type 0 where
  pub matches : Matches x.hub e.book
  pub paid : Both Meets e.owed (replies_in b x.mails)
  pub roomy : Roomy b.places (invocation_in x.mails)
  pub opens : Welcomes x.mails e.book b.now

-- one test on both sides
agrees-cond : {b : Book} {x y : Next} {e f : Entry} (t u : Bool) → t ≡ u → (t ≡ true → Agrees b x e) → (t ≡ false → Agrees b y f)
    → Agrees b (cond t x y) (cond u e f)
agrees-cond t u q p n = split t (λ s. rw (← q, s) (p s)) (λ s. rw (← q, s) (n s))

-- ---- request numbers: the step's test is the book's
one-order : (l n : ℕ) → follows l n ≡ in_order l n
unfolding follows in_order
one-order l n = rw add-one

pub follows-positive : (l n : ℕ) → follows l n ≡ true → 0 < n
unfolding follows
follows-positive l n t = let e = eqb-true n (suc l) (and_left (eqb n (suc l)) (leb n last_id) t) in omega arith

-- ---- the format of an open session's slot, as the book noted it
pub noted-open : (h : Hub) (b : Book) → Matches h b → (i : ℕ) → OpenAt h i → format_in b i ≡ format_at h i
noted-open h b m i o = m.formats i (λ c. closed-open (sym c ∙ o))

-- ---- nothing happens, or nothing to the book
pub silent-agrees : (h : Hub) (b : Book) → Matches h b → Agrees b (silent h) (nothing b)
unfolding silent nothing replies invocation_in welcomed
silent-agrees h b m = record { matches = m; paid = tt; roomy = tt; opens = welcomes-none refl }

-- ---- a message on an open session, or its detaching
module _ (h : Hub) (b : Book) (m : Matches h b) (i : ℕ) (o : OpenAt h i) where
  -- a session's end, with its own message first
  pub ending : Lawful h → (k : Status) → Named (phase k) 0 → (¬ (phase k ≡ IsClosed) → format_in b i ≡ format_of k) → (own : List Mail) → All Unseen own
      → Agrees b (ends h i k own) (over b i)
  unfolding ends over entrant
  ending l k d f own u =
      record {
        matches = ended-matches h b m i (open-inside h i o) o l k d f;
        paid =
            let name = names b.entrants i in
            subst (λ ds. Both Meets (cancels_owed (format_in b i) name b.places) ds)
            (sym (past-replies (names b.entrants) (format_in b) own (cancels i h.calls) u))
            (subst (λ ps. Both Meets (cancels_owed (format_in b i) name ps) (replies_in b (cancels i h.calls))) (sym m.places)
            (cancels-owed h b m i o (format_in b i) h.calls l.joined));
        roomy = rw (past-invocation own (cancels i h.calls) u, cancels-uninvoked i h.calls) tt;
        opens = welcomes-none (past-welcome own (cancels i h.calls) u ∙ cancels-unwelcomed i h.calls);
      }

  violated : Lawful h → Agrees b (violates h i) (over b i)
  unfolding violates seen
  violated l = ending l Closed refl (λ n. absurd (n refl)) (mail i (Out.Abort (uri_text Uri.ProtocolViolation)) ∷ []) (refl, tt)

  -- an answer frees the row, and its place
  answered-agrees : Lawful h → (v : ℕ) (a : Answer) (k : ℕ) → All (Whole (format_at h i)) (payload_of a) → first (serves i v) h.calls ≡ Some k
      → Agrees b (answered h i k a) (settled b k (format_in b i) a)
  unfolding answered settled says replies seen invocation_in welcomed
  answered-agrees l v a k w e =
      let held : idle (call_at h k) ≡ false = serves-held i v (call_at h k) (found-passes (serves i v) no_call h.calls k e) in
      record {
        matches = rw (place-idle (names b.entrants) no_call idle-no) at (written h b m k no_call);
        paid =
            let c = (call_at h k).caller in
            let j = row-joined h b m l k held in
            rw (place-at h b m k, place-held (names b.entrants) (call_at h k) held) (
              record {
                session = refl;
                request = refl;
                answer = rw (noted-open h b m i o, noted-open h b m c j.calling) (carries-conveyed (format_at h i) (format_at h c) a w);
              },
              tt,
            );
        roomy = tt;
        opens = welcomes-none refl;
      }

  -- YIELD and ERROR
  answer-agrees : Lawful h → (v : ℕ) (a : Answer) → All (Whole (format_at h i)) (payload_of a) → Agrees b (answer h i v a) (answers b i v a)
  unfolding answer answers entrant
  answer-agrees l v a w =
      let n : length b.places ≡ length h.calls = rw m.places (length-map h.calls (place_of (names b.entrants))) in
      split-found (first (serves i v) h.calls)
      (λ k e.
      let q : lookup (names b.entrants i) v b.places ≡ k = rw e at (lookup_first h b m i o v l.joined) in
      let p : k < length h.calls = found_inside (serves i v) no_call h.calls k e in
      rw (e, q, lt-ltb k (length b.places) (omega arith)) (answered-agrees l v a k w e))
      (λ e.
      let q : lookup (names b.entrants i) v b.places ≡ length h.calls = rw e at (lookup_first h b m i o v l.joined) in
      rw (e, q, le-ltb (length h.calls) (length b.places) (omega arith)) (silent-agrees h b m))

  -- ---- a request's number becomes its session's last
  asked-matches : (n : ℕ) → Matches (numbered h i n) (asked b i n)
  unfolding numbered asked
  asked-matches n = rw (← (m.matched i).invocation) (advanced h b m i (open-inside h i o) n (session h i).invocation o)

  asked-names : (n : ℕ) → names (asked b i n).entrants ≡ names b.entrants
  unfolding asked with_entrant entrant
  asked-names n = names-kept h b m i (open-inside h i o) _ refl

  -- what agrees with the book after the number agrees with the one before
  asked-agrees : (n : ℕ) (x : Next) (e : Entry) → Agrees (asked b i n) x e → Agrees b x e
  unfolding asked with_entrant format_in
  asked-agrees n x e a =
      record { matches = a.matches; paid = rw (asked-names n) at a.paid; roomy = a.roomy; opens = record { named = a.opens.named } }

  -- an open session stays open
  numbered-open : (n c : ℕ) → OpenAt h c → OpenAt (numbered h i n) c
  unfolding numbered with_session session
  numbered-open n = at_set (λ j s. OpenAt h j → phase s.status ≡ IsOpen) no_session h.sessions i _ (open-inside h i o) (λ p. p) (λ j p. p)

  -- requests other than CALL
  quiet-agrees : (n : ℕ) (x : Next) → Quiet (numbered h i n) x → Agrees b x (nothing (asked b i n))
  unfolding nothing
  quiet-agrees n x q =
      record {
        matches = tables-change (numbered h i n) x.hub (asked b i n) q.sessions q.calls (asked-matches n);
        paid = rw (no-replies (names b.entrants) (format_in b) x.mails q.mails) tt;
        roomy = rw (no-invocation x.mails q.mails) tt;
        opens = welcomes-none (no-welcome x.mails q.mails);
      }

-- ---- CALL: its number has been taken in, in the hub g and the book b
-- the book's entry for what a CALL led to
abbrev called_by : Book → ℕ → ℕ → Next → Entry
called_by b i n x = called b i n x.mails (invocation_in x.mails)

module _ (g : Hub) (b : Book) (m : Matches g b) (i n : ℕ) where
  -- a call error is owed, whatever it says
  error-agrees : (uri : List ℕ) → Agrees b (call_error g i n uri) (called_by b i n (call_error g i n uri))
  unfolding call_error says called invocation_in seen welcomed replies error_sent entrant
  error-agrees uri =
      record {
        matches = m;
        paid = (record { session = refl; request = refl; answer = carries_same (format_in b i) (Failure uri []) }, tt);
        roomy = tt;
        opens = welcomes-none refl;
      }

  -- the callee c gets an invocation number, and the call takes row k, the first unused one
  module _ (pos : 0 < n) (c : ℕ) (s : OpenAt g c) (k : ℕ) (free : first idle g.calls ≡ Some k) where
    new : HeldCall
    new = record { caller = i; request = n; callee = c; invocation = suc (session g c).invocation }

    new-held : idle new ≡ false
    unfolding new idle
    new-held = ne_eqb n 0 (λ z. omega arith)

    issued-matches : Matches (issued g c) (invoked b c (suc (session g c).invocation))
    unfolding issued invoked
    issued-matches =
        rw (← (m.matched c).request) (advanced g b m c (open-inside g c s) (session g c).request (suc (session g c).invocation) s)

    invoked-names : (v : ℕ) → names (invoked b c v).entrants ≡ names b.entrants
    unfolding invoked with_entrant entrant
    invoked-names v = names-kept g b m c (open-inside g c s) _ refl

    new-place : place_of (names (invoked b c (suc (session g c).invocation)).entrants) new
        ≡ record { caller = (entrant b i).name; request = n; callee = (entrant b c).name; invocation = suc (session g c).invocation }
    unfolding entrant new
    new-place = rw (invoked-names (suc (session g c).invocation), place-held (names b.entrants) new new-held)

    lowest-place : lowest b.places ≡ k
    lowest-place = rw m.places (lowest-first (names b.entrants) g.calls k free)

    called-matches : Matches (with_call (issued g c) k new) (called b i n [] (chosen c (suc (session g c).invocation))).book
    unfolding called nothing
    called-matches =
        rw (lowest-place, ← new-place) (written (issued g c) (invoked b c (suc (session g c).invocation)) issued-matches k new)

    place-free : lowest b.places < length b.places
    place-free =
        let p = found_inside idle no_call g.calls k free in
        let l : length b.places ≡ length g.calls = rw m.places (length-map g.calls (place_of (names b.entrants))) in
        let q = lowest-place in
        omega arith

  module _ (pos : 0 < n) (r : Row) (s : OpenAt g (owner r)) (procedure : List ℕ) (payload : Payload) where
    routed-agrees : (k : ℕ) → first idle g.calls ≡ Some k
        → Agrees b (routed g i n r k procedure payload) (called_by b i n (routed g i n r k procedure payload))
    unfolding routed says replies invocation_in seen welcomed called nothing new
    routed-agrees k free =
        record {
          matches = called-matches pos (owner r) s k free;
          paid = tt;
          roomy = place-free pos (owner r) s k free;
          opens = welcomes-none refl;
        }

    -- routed, or told that there is no room
    route-agrees : Agrees b (route g i n r procedure payload) (called_by b i n (route g i n r procedure payload))
    unfolding route
    route-agrees =
        split (ltb (session g (owner r)).invocation last_id)
        (λ t. rw t
        (split-found (first idle g.calls)
        (λ k e. rw e (routed-agrees k e))
        (λ e. rw e (error-agrees (uri_text Uri.NoRoom)))))
        (λ t. rw t (error-agrees (uri_text Uri.NoRoom)))

  -- passed on as the callee's format has it, or told that it does not convert
  passed-agrees : 0 < n → (r : Row) → OpenAt g (owner r) → (procedure : List ℕ) (payload : Payload)
      → Agrees b (passed g i n r procedure payload) (called_by b i n (passed g i n r procedure payload))
  unfolding passed
  passed-agrees pos r s procedure payload =
      split-carried (carried (format_at g i) (format_at g (owner r)) payload)
      (λ q e. rw e (route-agrees pos r s procedure q))
      (λ e. rw e (error-agrees (uri_text Uri.NotConvertible)))

  call-agrees : 0 < n → (procedure : List ℕ) (payload : Payload)
      → ((k : ℕ) → choice g.registrations.rows procedure ≡ Some k → OpenAt g (owner (row_at g.registrations k)))
      → Agrees b (call g i n procedure payload) (called_by b i n (call g i n procedure payload))
  unfolding call
  call-agrees pos procedure payload owners =
      split (valid_called procedure)
      (λ t. rw t
      (split-found (choice g.registrations.rows procedure)
      (λ k e. rw e (passed-agrees pos (row_at g.registrations k) (owners k e) procedure payload))
      (λ e. rw e (error-agrees (uri_text Uri.NoSuchProcedure)))))
      (λ t. rw t (error-agrees (uri_text Uri.InvalidUri)))

-- ---- any message on an open session
module _ (h : Hub) (b : Book) (m : Matches h b) (l : Lawful h) (i : ℕ) (o : OpenAt h i) where
  pub same_number : (n : ℕ) → follows (session h i).request n ≡ in_order (entrant b i).request n
  same_number n = ap (λ x. follows x n) (m.matched i).request ∙ one-order (entrant b i).request n

  same-issued : (v : ℕ) → leb v (session h i).invocation ≡ leb v (entrant b i).invocation
  same-issued v = ap (leb v) (m.matched i).invocation

  -- the chosen registration's owner is open
  owners-open : (n : ℕ) (procedure : List ℕ) (k : ℕ) → choice (numbered h i n).registrations.rows procedure ≡ Some k
      → OpenAt (numbered h i n) (owner (row_at (numbered h i n).registrations k))
  unfolding numbered with_session
  owners-open n procedure k e =
      let u = choice-used h.registrations.rows procedure k e in
      numbered-open h b m i o n (owner (row_at h.registrations k)) (registered-open h k l u.1)

  taken-call : (n : ℕ) (procedure : List ℕ) (payload : Payload) → follows (session h i).request n ≡ true
      → Agrees b (call (numbered h i n) i n procedure payload) (called_by (asked b i n) i n (call (numbered h i n) i n procedure payload))
  taken-call n procedure payload t =
      asked-agrees h b m i o n _ _
      (call-agrees (numbered h i n) (asked b i n) (asked-matches h b m i o n) i n (follows-positive _ n t) procedure payload
      (owners-open n procedure))

  asks-agrees : (n : ℕ) {x : Next} (ms : List Mail) → Quiet (numbered h i n) x
      → Agrees b (cond (follows (session h i).request n) x (violates h i)) (heard b i (Asks n) ms)
  unfolding heard
  asks-agrees n ms q = agrees-cond _ _ (same_number n) (λ t. quiet-agrees h b m i o n _ q) (λ t. violated h b m i o l)

  answers_agree : (v : ℕ) (a : Answer) (ms : List Mail) → All (Whole (format_at h i)) (payload_of a)
      → Agrees b (cond (leb v (session h i).invocation) (answer h i v a) (violates h i)) (heard b i (Answers v a) ms)
  unfolding heard
  answers_agree v a ms w = agrees-cond _ _ (same-issued v) (λ t. answer-agrees h b m i o l v a w) (λ t. violated h b m i o l)

  -- GOODBYE leaves the slot attached in its format
  stays : format_in b i ≡ format_of (attached_in (format_at h i))
  stays = noted-open h b m i o ∙ sym (format-attached (format_at h i))

  pub heard-agrees : (number : ℕ) (x : Incoming) → WholeIn (format_at h i) x → Agrees b (on_open h i number x) (heard b i (view x) (on_open h i number x).mails)
  unfolding on_open view heard seen request
  heard-agrees number (In.Hello realm) w = violated h b m i o l
  heard-agrees number In.Abort w = ending h b m i o l Closed refl (λ n. absurd (n refl)) [] tt
  heard-agrees number In.Goodbye w = ending h b m i o l (attached_in (format_at h i)) (rw (phase-attached (format_at h i))) (λ _. stays) (mail i (Out.Goodbye (uri_text Uri.GoodbyeAndOut)) ∷ []) (refl, tt)
  heard-agrees number (In.Error v uri payload) w = answers_agree v (Failure uri payload) [] w
  heard-agrees number (In.Publish n acknowledge audience topic payload) w =
      asks-agrees n [] (publish-quiet (numbered h i n) i n acknowledge audience topic payload number)
  heard-agrees number (In.Subscribe n policy topic) w = asks-agrees n [] (subscribe-quiet (numbered h i n) i n policy topic)
  heard-agrees number (In.Unsubscribe n id) w = asks-agrees n [] (unsubscribe-quiet (numbered h i n) i n id)
  heard-agrees number (In.Call n procedure payload) w =
      split (follows (session h i).request n)
      (λ t. rw (← (same_number n), t) (taken-call n procedure payload t))
      (λ t. rw (← (same_number n), t) (violated h b m i o l))
  heard-agrees number (In.Register n policy procedure) w = asks-agrees n [] (register-quiet (numbered h i n) i n policy procedure)
  heard-agrees number (In.Unregister n id) w = asks-agrees n [] (unregister-quiet (numbered h i n) i n id)
  heard-agrees number (In.Yield v payload) w = answers_agree v (Result payload) [] w
  heard-agrees number In.Violation w = violated h b m i o l

-- ---- a message on an attached slot
module _ (h : Hub) (b : Book) (m : Matches h b) (i : ℕ) (inside : i < length h.sessions) (z : names b.entrants i ≡ 0) where
  -- a slot without a session closes
  closed-matches : Matches (with_session h i (with_status Closed)) b
  closed-matches = remarked h b m i inside z Closed refl (λ n. absurd (n refl))

  pub closed-agrees : Agrees b (silent (with_session h i (with_status Closed))) (nothing b)
  closed-agrees = silent-agrees (with_session h i (with_status Closed)) b closed-matches

  -- or is attached, and its format noted
  pub noted-agrees : (k : Status) → Named (phase k) 0 → Agrees b (silent (with_session h i (with_status k))) (nothing (with_format b i (format_of k)))
  unfolding silent nothing replies invocation_in welcomed
  noted-agrees k d = record { matches = noted h b m i inside z k d; paid = tt; roomy = tt; opens = welcomes-none refl }

  turned-agrees : (reason : List ℕ) → Agrees b (turns_away h i reason) (unheard b i (turns_away h i reason).mails)
  unfolding turns_away says unheard welcomed seen nothing replies invocation_in
  turned-agrees reason =
      record { matches = closed-matches; paid = tt; roomy = tt; opens = welcomes-none refl }

  module _ (l : Lawful h) (new : (j : ℕ) → names b.entrants j < b.now) (number : ℕ) (f : format_in b i ≡ format_at h i) where
    -- a session opens
    -- under this step's number
    new-name : (j id : ℕ) → In (mail j (Out.Welcome id)) (mail i (Out.Welcome number) ∷ [])
        → names (set b.entrants i (record { name = b.now; request = 0; invocation = 0 })) j ≡ b.now
    new-name j id (inl e) =
        let q : j ≡ i = ap (λ (x : Mail). x.to) e in
        rw q (ap (λ (x : Entrant). x.name) (get_or-set_same b.entrants i _ nobody (inside' h b m i inside)))
    new-name j id (inr p) = absurd p

    welcomed-agrees : Agrees b (welcomes h i number) (unheard b i (welcomes h i number).mails)
    unfolding welcomes says unheard welcomed seen nothing replies invocation_in with_entrant
    welcomed-agrees = record { matches = opened h b m i inside l z new number (open_in (format_at h i)) (phase-open (format_at h i)) (f ∙ sym (format-open (format_at h i))); paid = tt; roomy = tt; opens = record { named = new-name } }

    pub unheard-agrees : (x : Early) → Agrees b (on_attached h i number x) (unheard b i (on_attached h i number x).mails)
    unfolding on_attached
    unheard-agrees (Greets realm) =
        split (same realm realm_name) (λ t. rw t welcomed-agrees) (λ t. rw t (turned-agrees (uri_text Uri.NoSuchRealm)))
    unheard-agrees Leaves = unfold silent unheard welcomed in closed-agrees
    unheard-agrees Wrong = turned-agrees (uri_text Uri.ProtocolViolation)
