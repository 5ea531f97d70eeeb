-- A session's end: hub and book still match, and the canceled replies sent are those owed. Assumes nothing.
use Prim.Native.Nat.{ℕ, ◌<◌}
use mathlib.Core.Path.{◌≡◌, refl, sym, ◌∙◌, ap}
use mathlib.Core.Bool.{true≢false, true, false, cond}
use mathlib.Core.List.{List, [], ◌∷◌, map}
use native.Mathlib.Omega.{arith}
use lib.ListN.{length, get_or, set, length-set, length-map}
use lib.Seq.{get_or-set_other}
use lib.Dec.{eqb}
use borrow.Author.Tests.{eq-eqb}
use Rattle.seq.specs.Lists.{All, Both}
use Rattle.seq.proofs.Logic.{split, clash}
use Rattle.seq.proofs.Rules.{map_same, map-map, at_set, at-set₂}
use Rattle.seq.specs.declared.Format.{Format}
use Rattle.seq.specs.declared.Format.TheVariants.{Json}
use Rattle.outgoing.specs.Outgoing as Out
use Rattle.outgoing.specs.Layout.{Mail}
use Rattle.model.specs.declared.Status.{Status}
use Rattle.model.specs.declared.HeldCall.{HeldCall}
use Rattle.model.specs.declared.Hub.{Hub}
use Rattle.model.specs.State.{with_status, no_session, no_call, session, IsClosed, phase, format_of, format_at, idle, concerns, serves_other, dropped, ended}
use Rattle.model.specs.Rules.{OpenAt, JoinedCall, Lawful}
use Rattle.model.specs.Step.{mail, canceled, cancels}
use Rattle.model.specs.Book.{Book, Entrant, nobody, no_place, Due, due, none, entrant, names, format_in, vacant, involves, without, served_for, seen, welcomed, replies, replies_in, invocation_in, cancels_owed, over}
use Rattle.model.specs.Run.{place_of, Meets}
use Rattle.model.proofs.Conveyed.{carries-none}
use Rattle.model.proofs.Places.{vacant-no, without_in, without-out, involves-vacant, served-vacant}
use Rattle.model.proofs.Matches.{Named, Matched, Matches, Joined, placed, place-idle, place-held, idle-no, name-eqb, inside'}

-- ---- one row
dropped-in : (i : ℕ) (c : HeldCall) → concerns i c ≡ true → dropped i c ≡ no_call
unfolding dropped
dropped-in i c e = rw e

dropped-out : (i : ℕ) (c : HeldCall) → concerns i c ≡ false → dropped i c ≡ c
unfolding dropped
dropped-out i c e = rw e

concerns-idle : (i : ℕ) (c : HeldCall) → idle c ≡ true → concerns i c ≡ false
unfolding concerns
concerns-idle i c f = rw f

serves_other-idle : (i : ℕ) (c : HeldCall) → idle c ≡ true → serves_other i c ≡ false
unfolding serves_other
serves_other-idle i c f = rw f

serves_other-held : (i : ℕ) (c : HeldCall) → serves_other i c ≡ true → idle c ≡ false
serves_other-held i c e = split (idle c) (λ f. clash e (serves_other-idle i c f)) (λ f. f)

not-caller : (i : ℕ) (c : HeldCall) → concerns i c ≡ false → idle c ≡ false → c.caller ≡ i → ⊥
unfolding concerns
not-caller i c e f q = let t = eq-eqb c.caller i q in true≢false cc

not-callee : (i : ℕ) (c : HeldCall) → concerns i c ≡ false → idle c ≡ false → c.callee ≡ i → ⊥
unfolding concerns
not-callee i c e f q = let t = eq-eqb c.callee i q in true≢false (split (eqb c.caller i) (λ u. cc) (λ u. cc))

-- ---- the session in slot i ends: what the book sees of a row's place is what the hub sees of the row
module _ (h : Hub) (b : Book) (m : Matches h b) (i : ℕ) (o : OpenAt h i) where
  concerns-joined : (c : HeldCall) → JoinedCall h c → involves (names b.entrants i) (placed (names b.entrants) c) ≡ concerns i c
  unfolding concerns idle involves vacant
  concerns-joined c k = rw (name-eqb h b m c.caller i k.calling o, name-eqb h b m c.callee i k.serving o)

  concerns-place : (c : HeldCall) → Joined h c → involves (names b.entrants i) (place_of (names b.entrants) c) ≡ concerns i c
  concerns-place c k =
      split (idle c)
      (λ f. rw (place-idle (names b.entrants) c f, concerns-idle i c f) (involves-vacant _ no_place vacant-no))
      (λ f. rw (place-held (names b.entrants) c f) (concerns-joined c (k f)))

  serves-joined : (c : HeldCall) → JoinedCall h c → served_for (names b.entrants i) (placed (names b.entrants) c) ≡ serves_other i c
  unfolding serves_other idle served_for vacant
  serves-joined c k = rw (name-eqb h b m c.caller i k.calling o, name-eqb h b m c.callee i k.serving o)

  serves-place : (c : HeldCall) → Joined h c → served_for (names b.entrants i) (place_of (names b.entrants) c) ≡ serves_other i c
  serves-place c k =
      split (idle c)
      (λ f. rw (place-idle (names b.entrants) c f, serves_other-idle i c f) (served-vacant _ no_place vacant-no))
      (λ f. rw (place-held (names b.entrants) c f) (serves-joined c (k f)))

  -- one row's canceled reply, sent and owed
  cancel-head : (f : Format) (c : HeldCall) (ms : List Mail) (ds : List Due) → Joined h c → Both Meets ds (replies_in b ms)
      → Both Meets
      (cond (served_for (names b.entrants i) (place_of (names b.entrants) c))
      (due (place_of (names b.entrants) c).caller (place_of (names b.entrants) c).request f canceled ∷ ds)
      ds)
      (replies_in b (cond (serves_other i c) (mail c.caller (Out.Reply c.request canceled) ∷ ms) ms))
  unfolding replies seen
  cancel-head f c ms ds k e =
      split (serves_other i c)
      (λ t. rw (serves-place c k, t, place-held (names b.entrants) c (serves_other-held i c t))
      ((record { session = refl; request = refl; answer = carries-none f (format_in b c.caller) _ }), e))
      (λ t. rw (serves-place c k, t) e)

  -- the canceled replies sent are those owed
  pub cancels-owed : (f : Format) (l : List HeldCall) → All (Joined h) l
      → Both Meets (cancels_owed f (names b.entrants i) (map (place_of (names b.entrants)) l)) (replies_in b (cancels i l))
  unfolding cancels cancels_owed replies
  cancels-owed f [] k = tt
  cancels-owed f (c ∷ cs) k = cancel-head f c (cancels i cs) _ k.0 (cancels-owed f cs k.1)

-- no INVOCATION is among them
pub cancels-uninvoked : (i : ℕ) (l : List HeldCall) → invocation_in (cancels i l) ≡ none
unfolding cancels invocation_in seen
cancels-uninvoked i [] = refl
cancels-uninvoked i (c ∷ cs) = split (serves_other i c) (λ t. rw t (cancels-uninvoked i cs)) (λ t. rw t (cancels-uninvoked i cs))

-- nor a WELCOME
pub cancels-unwelcomed : (i : ℕ) (l : List HeldCall) → welcomed (cancels i l) ≡ false
unfolding cancels welcomed seen
cancels-unwelcomed i [] = refl
cancels-unwelcomed i (c ∷ cs) = split (serves_other i c) (λ t. rw t (cancels-unwelcomed i cs)) (λ t. rw t (cancels-unwelcomed i cs))

-- ---- the state and the book after the session's end
module _ (h : Hub) (b : Book) (m : Matches h b) (i : ℕ) (inside : i < length h.sessions) (o : OpenAt h i) where
  names-after : ℕ → ℕ
  names-after = names (set b.entrants i nobody)

  -- the names other than the ended one's stay
  names-other : (j : ℕ) → (j ≡ i → ⊥) → names-after j ≡ names b.entrants j
  unfolding names-after
  names-other j q = ap (λ (x : Entrant). x.name) (get_or-set_other b.entrants i j nobody nobody q)

  place-ends : (c : HeldCall) → Joined h c → without (names b.entrants i) (place_of (names b.entrants) c) ≡ place_of names-after (dropped i c)
  place-ends c k =
      split (concerns i c)
      (λ t. rw (dropped-in i c t, without_in _ _ (concerns-place h b m i o c k ∙ t)) (sym (place-idle names-after no_call idle-no)))
      (λ t. rw (dropped-out i c t, without-out _ _ (concerns-place h b m i o c k ∙ t))
      (split (idle c)
      (λ f. place-idle _ c f ∙ sym (place-idle _ c f))
      (λ f.
      let p = names-other c.caller (not-caller i c t f) in
      let q = names-other c.callee (not-callee i c t f) in
      place-held _ c f ∙ cc (place-held names-after c f))))

  pub ended-matches : Lawful h → (k : Status) → Named (phase k) 0 → (¬ (phase k ≡ IsClosed) → format_in b i ≡ format_of k) → Matches (ended h i k) (over b i).book
  unfolding ended over session entrant names-after format_at format_in
  ended-matches l k d f =
      record {
        sessions = length-set h.sessions i _ ∙ m.sessions;
        noted = m.noted;
        entrants = length-set b.entrants i _ ∙ m.entrants;
        rows = length-map b.places _ ∙ m.rows;
        matched =
            at-set₂ (λ j s e. Matched b.now s e) no_session nobody h.sessions b.entrants i (with_status k) nobody
            inside (inside' h b m i inside)
            (record { request = refl; invocation = refl; named = d; past = omega arith; blank = λ _. refl })
            m.matched;
        distinct =
            at_set (λ j x. (n : ℕ) → 0 < x.name → x.name ≡ names-after n → j ≡ n) nobody b.entrants i nobody (inside' h b m i inside)
            (λ n p q. absurd (omega arith))
            (λ j n p q.
            at_set (λ n y. names b.entrants j ≡ y.name → j ≡ n) nobody b.entrants i nobody (inside' h b m i inside)
            (λ q. absurd (omega arith)) (λ n q. m.distinct j n p q) n q);
        places =
            ap (map (without (names b.entrants i))) m.places
            ∙ map-map (place_of (names b.entrants)) (without (names b.entrants i)) h.calls
            ∙ map_same (Joined h) _ _ place-ends h.calls l.joined
            ∙ sym (map-map (dropped i) (place_of names-after) h.calls);
        formats =
            at_set (λ j s. ¬ (phase s.status ≡ IsClosed) → get_or b.formats j Json ≡ format_of s.status) no_session h.sessions i (with_status k) inside f
            m.formats;
      }
