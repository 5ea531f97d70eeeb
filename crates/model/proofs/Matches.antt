-- Hub and book agree: each slot with its entrant, the names of open sessions apart, each held-call row with its place. Each change of the
-- state, with the book's change beside it, keeps this. Assumes nothing.
use Prim.Native.Nat.{ℕ, suc, ◌<◌, ◌≤◌}
use mathlib.Core.Path.{◌≡◌, refl, sym, ◌∙◌, ap, subst, fun_ext}
use mathlib.Core.Bool.{true, false}
use mathlib.Core.List.{List, map}
use native.Mathlib.Omega.{arith}
use lib.ListN.{length, get_or, set, replicate, length-set, get_or-map, get_or-eq_default}
use lib.Dec.{eqb, ltb}
use borrow.Author.Tests.{eqb-true, eqb-false, eq-eqb, ne_eqb, ltb-true, ltb-false}
use Rattle.seq.specs.Lists.{All}
use Rattle.seq.proofs.Logic.{split}
use Rattle.seq.proofs.Lists.{get_d-replicate-same}
use Rattle.seq.proofs.Rules.{map_same, map-set, map-replicate, at_set, at-set₂}
use Rattle.seq.specs.declared.Format.TheVariants.{Json}
use Rattle.model.specs.declared.Status.{Status}
use Rattle.model.specs.declared.Session.{Session}
use Rattle.model.specs.declared.HeldCall.{HeldCall}
use Rattle.model.specs.declared.Hub.{Hub}
use Rattle.model.specs.State.{slots, row_count, with_status, no_session, no_call, session, Phase, IsClosed, IsAttached, IsOpen, phase, phase_at, format_of, format_at, with_session, idle, call_at, with_call, empty_hub}
use Rattle.model.specs.Rules.{OpenAt, JoinedCall, Lawful}
use Rattle.model.specs.Book.{Book, Entrant, nobody, Place, no_place, entrant, names, format_in, with_format, with_entrant, with_place, tick, empty_book}
use Rattle.model.specs.Run.{place_of}
use Rattle.model.proofs.Formats.{status-keep}

-- a session is named exactly if it is open
abbrev pub Named : Phase → ℕ → Type 0
Named IsClosed n = n ≡ 0
Named IsAttached n = n ≡ 0
Named IsOpen n = 0 < n

-- a slot and what the book keeps of it
pub record Matched (now : ℕ) (s : Session) (e : Entrant) : Type 0 where
  pub request : s.request ≡ e.request
  pub invocation : s.invocation ≡ e.invocation
  pub named : Named (phase s.status) e.name
  pub past : e.name ≤ now
  pub blank : e.name ≡ 0 → e ≡ nobody

pub record Matches (h : Hub) (b : Book) : Type 0 where
  pub sessions : length h.sessions ≡ slots
  pub noted : length b.formats ≡ slots
  pub entrants : length b.entrants ≡ slots
  pub rows : length b.places ≡ row_count
  pub matched : (i : ℕ) → Matched b.now (session h i) (entrant b i)
  pub distinct : (i j : ℕ) → 0 < names b.entrants i → names b.entrants i ≡ names b.entrants j → i ≡ j
  pub places : b.places ≡ map (place_of (names b.entrants)) h.calls
  pub formats : (i : ℕ) → ¬ (phase_at h i ≡ IsClosed) → format_in b i ≡ format_at h i

-- ---- open sessions and their names
-- an unnamed slot is not open
unnamed-shut : (k : Phase) (n : ℕ) → Named k n → n ≡ 0 → k ≡ IsOpen → ⊥
unnamed-shut IsClosed n d z e = let q : ◌≡◌ {A = ℕ} 0 1 = cc in omega arith
unnamed-shut IsAttached n d z e = let q : ◌≡◌ {A = ℕ} 0 1 = cc in omega arith
unnamed-shut IsOpen n d z e = omega arith

named-status : (k : Phase) (n : ℕ) → Named k n → 0 < n → k ≡ IsOpen
named-status IsClosed n d p = absurd (omega arith)
named-status IsAttached n d p = absurd (omega arith)
named-status IsOpen n d p = refl

-- an open slot is one of the slots
pub open-inside : (h : Hub) (c : ℕ) → OpenAt h c → c < length h.sessions
unfolding session
open-inside h c o =
    split (ltb c (length h.sessions))
    (λ t. ltb-true c (length h.sessions) t)
    (λ t.
    let q = get_or-eq_default h.sessions no_session (ltb-false c (length h.sessions) t) in
    let z : ◌≡◌ {A = ℕ} 0 1 = cc in
    absurd (omega arith))

module _ (h : Hub) (b : Book) (m : Matches h b) where
  pub open-named : (i : ℕ) → OpenAt h i → 0 < names b.entrants i
  unfolding entrant
  open-named i o = subst (λ k. Named k (names b.entrants i)) o (m.matched i).named

  pub named-open : (i : ℕ) → 0 < names b.entrants i → OpenAt h i
  unfolding entrant
  named-open i p = named-status _ _ (m.matched i).named p

  pub shut : (i : ℕ) → names b.entrants i ≡ 0 → OpenAt h i → ⊥
  unfolding entrant
  shut i z o = unnamed-shut _ _ (m.matched i).named z o

  pub unnamed : (i : ℕ) (k : Phase) → phase_at h i ≡ k → Named k 0 → names b.entrants i ≡ 0
  unfolding entrant
  unnamed i IsClosed e d = subst (λ k. Named k (names b.entrants i)) e (m.matched i).named
  unnamed i IsAttached e d = subst (λ k. Named k (names b.entrants i)) e (m.matched i).named
  unnamed i IsOpen e d = absurd (omega arith)

  -- two open sessions have one name exactly when they are in one slot
  pub name-eqb : (c i : ℕ) → OpenAt h c → OpenAt h i → eqb (names b.entrants c) (names b.entrants i) ≡ eqb c i
  name-eqb c i p q =
      split (eqb c i)
      (λ e. eq-eqb _ _ (ap (names b.entrants) (eqb-true c i e)) ∙ sym e)
      (λ e. ne_eqb _ _ (λ n. eqb-false c i e (m.distinct c i (open-named c p) n)) ∙ sym e)

-- ---- rows and places
pub idle-no : idle no_call ≡ true
unfolding idle
idle-no = refl

pub place-idle : (ν : ℕ → ℕ) (c : HeldCall) → idle c ≡ true → place_of ν c ≡ no_place
unfolding place_of
place-idle ν c e = rw e

abbrev pub placed : (ℕ → ℕ) → HeldCall → Place
placed ν c = record { caller = ν c.caller; request = c.request; callee = ν c.callee; invocation = c.invocation }

pub place-held : (ν : ℕ → ℕ) (c : HeldCall) → idle c ≡ false → place_of ν c ≡ placed ν c
unfolding place_of
place-held ν c e = rw e

-- rule 4 of a row
abbrev pub Joined : Hub → HeldCall → Type 0
Joined h c = idle c ≡ false → JoinedCall h c

-- places depend only on the names of open sessions
pub places-frame : (h : Hub) (ν μ : ℕ → ℕ) → ((j : ℕ) → OpenAt h j → ν j ≡ μ j) → (l : List HeldCall) → All (Joined h) l
    → map (place_of ν) l ≡ map (place_of μ) l
places-frame h ν μ e = map_same (Joined h) (place_of ν) (place_of μ) each
  where
    each : (c : HeldCall) → Joined h c → place_of ν c ≡ place_of μ c
    each c k =
        split (idle c)
        (λ f. place-idle ν c f ∙ sym (place-idle μ c f))
        (λ f.
        let j = k f in
        place-held ν c f ∙ cc (e c.caller j.calling, e c.callee j.serving, place-held μ c f))

-- the place of a row
pub place-at : (h : Hub) (b : Book) → Matches h b → (k : ℕ) → get_or b.places k no_place ≡ place_of (names b.entrants) (call_at h k)
place-at h b m k =
    rw m.places
    (subst (λ d. get_or (map (place_of (names b.entrants)) h.calls) k d ≡ place_of (names b.entrants) (call_at h k))
    (place-idle (names b.entrants) no_call idle-no)
    (get_or-map (place_of (names b.entrants)) h.calls k no_call))

-- ---- changes
-- one step more: no session has its number for a name
pub ticked : (h : Hub) (b : Book) → Matches h b → Matches h (tick b)
unfolding tick entrant format_in
ticked h b m =
    let matched : (i : ℕ) → Matched (suc b.now) (session h i) (get_or b.entrants i nobody) = λ i. let k = m.matched i in search arith in
    search

pub fresh : (h : Hub) (b : Book) → Matches h b → (j : ℕ) → names (tick b).entrants j < (tick b).now
unfolding tick entrant
fresh h b m j = let k = m.matched j in omega arith

-- tables change: nothing for the book
pub tables-change : (h g : Hub) (b : Book) → g.sessions ≡ h.sessions → g.calls ≡ h.calls → Matches h b → Matches g b
unfolding session
tables-change h g b s c m =
    record {
      sessions = rw s m.sessions;
      noted = m.noted;
      entrants = m.entrants;
      rows = m.rows;
      matched = rw s m.matched;
      distinct = m.distinct;
      places = rw c m.places;
      formats = unfold format_at session in rw s (unfold format_at session in m.formats);
    }

module _ (h : Hub) (b : Book) (m : Matches h b) (i : ℕ) (inside : i < length h.sessions) where
  pub inside' : i < length b.entrants
  inside' = let p = m.sessions in let q = m.entrants in omega arith

  -- a slot without a session changes its status
  pub remarked : names b.entrants i ≡ 0 → (k : Status) → Named (phase k) 0 → (¬ (phase k ≡ IsClosed) → format_in b i ≡ format_of k)
      → Matches (with_session h i (with_status k)) b
  unfolding with_session session entrant format_at
  remarked z k d f =
      record {
        sessions = length-set h.sessions i _ ∙ m.sessions;
        noted = m.noted;
        entrants = m.entrants;
        rows = m.rows;
        matched =
            at_set (λ j s. Matched b.now s (entrant b j)) no_session h.sessions i (with_status k) inside
            (let e = (m.matched i).blank z in
            record { request = cc; invocation = cc; named = rw z d; past = omega arith; blank = (m.matched i).blank })
            m.matched;
        distinct = m.distinct;
        places = m.places;
        formats =
            at_set (λ j s. ¬ (phase s.status ≡ IsClosed) → format_in b j ≡ format_of s.status) no_session h.sessions i (with_status k) inside f m.formats;
      }

  -- an entrant that keeps its name leaves every name as it was
  pub names-kept : (e : Entrant) → e.name ≡ names b.entrants i → names (set b.entrants i e) ≡ names b.entrants
  names-kept e q = fun_ext (at_set (λ j x. x.name ≡ names b.entrants j) nobody b.entrants i e inside' q (λ j. refl))

  -- an open session gets other numbers
  pub advanced : (n v : ℕ) → OpenAt h i
      → Matches (with_session h i (record { status = (session h i).status; id = (session h i).id; request = n; invocation = v }))
      (with_entrant b i (record { name = (entrant b i).name; request = n; invocation = v }))
  unfolding with_session with_entrant session entrant format_at format_in
  advanced n v o =
      record {
        sessions = length-set h.sessions i _ ∙ m.sessions;
        noted = m.noted;
        entrants = length-set b.entrants i _ ∙ m.entrants;
        rows = m.rows;
        matched =
            at-set₂ (λ j s e. Matched b.now s e) no_session nobody h.sessions b.entrants i s e inside inside'
            (record {
              request = refl;
              invocation = refl;
              named = (m.matched i).named;
              past = (m.matched i).past;
              blank = λ z. absurd (shut h b m i z o);
            })
            m.matched;
        distinct = rw same m.distinct;
        places = rw same m.places;
        formats = λ j. rw (status-keep h.sessions i s refl j) (m.formats j);
      }
    where
      s : Session
      s = record { status = (session h i).status; id = (session h i).id; request = n; invocation = v }

      e : Entrant
      e = record { name = names b.entrants i; request = n; invocation = v }

      same : names (set b.entrants i e) ≡ names b.entrants
      same = names-kept e refl

  -- a session opens, under a name that none had
  pub opened : Lawful h → names b.entrants i ≡ 0 → ((j : ℕ) → names b.entrants j < b.now) → (id : ℕ) (k : Status) → phase k ≡ IsOpen → format_in b i ≡ format_of k
      → Matches (with_session h i (record { status = k; id = id; request = 0; invocation = 0 }))
      (with_entrant b i (record { name = b.now; request = 0; invocation = 0 }))
  unfolding with_session with_entrant session entrant format_at format_in
  opened l z new id k o f =
      record {
        sessions = length-set h.sessions i _ ∙ m.sessions;
        noted = m.noted;
        entrants = length-set b.entrants i _ ∙ m.entrants;
        rows = m.rows;
        matched =
            at-set₂ (λ j s e. Matched b.now s e) no_session nobody h.sessions b.entrants i _ e inside inside'
            (record {
              request = refl;
              invocation = refl;
              named = rw o (omega (arith, new i));
              past = omega arith;
              blank = λ n. absurd (omega (arith, new i));
            })
            m.matched;
        distinct =
            at_set (λ j x. (k : ℕ) → 0 < x.name → x.name ≡ names (set b.entrants i e) k → j ≡ k) nobody b.entrants i e inside'
            (λ k p q.
            at_set (λ k y. b.now ≡ y.name → i ≡ k) nobody b.entrants i e inside'
            (λ _. refl) (λ k q. absurd (omega (arith, new k))) k q)
            (λ j k p q.
            at_set (λ k y. names b.entrants j ≡ y.name → j ≡ k) nobody b.entrants i e inside'
            (λ q. absurd (omega (arith, new j))) (λ k q. m.distinct j k p q) k q);
        places =
            m.places
            ∙ places-frame h (names b.entrants) (names (set b.entrants i e))
            (at_set (λ j x. OpenAt h j → names b.entrants j ≡ x.name) nobody b.entrants i e inside'
            (λ o. absurd (shut h b m i z o)) (λ j o. refl))
            h.calls
            l.joined;
        formats =
            at_set (λ j s. ¬ (phase s.status ≡ IsClosed) → get_or b.formats j Json ≡ format_of s.status) no_session h.sessions i _ inside (λ _. f) m.formats;
      }
    where
      e : Entrant
      e = record { name = b.now; request = 0; invocation = 0 }

-- a slot without a session gets another status, and its format is noted
pub noted : (h : Hub) (b : Book) → Matches h b → (i : ℕ) → i < length h.sessions → names b.entrants i ≡ 0 → (k : Status) → Named (phase k) 0
    → Matches (with_session h i (with_status k)) (with_format b i (format_of k))
unfolding with_session with_format session entrant format_at format_in
noted h b m i inside z k d =
    record {
      sessions = length-set h.sessions i _ ∙ m.sessions;
      noted = length-set b.formats i _ ∙ m.noted;
      entrants = m.entrants;
      rows = m.rows;
      matched =
          at_set (λ j s. Matched b.now s (get_or b.entrants j nobody)) no_session h.sessions i (with_status k) inside
          (let e = (m.matched i).blank z in
          record { request = cc; invocation = cc; named = rw z d; past = omega arith; blank = (m.matched i).blank })
          m.matched;
      distinct = m.distinct;
      places = m.places;
      formats =
          at-set₂ (λ j s f. ¬ (phase s.status ≡ IsClosed) → f ≡ format_of s.status) no_session Json h.sessions b.formats i (with_status k) (format_of k)
          inside (let p = m.sessions in let q = m.noted in omega arith) (λ _. refl) m.formats;
    }

-- a row is written, and its place beside it
pub written : (h : Hub) (b : Book) → Matches h b → (k : ℕ) (c : HeldCall)
    → Matches (with_call h k c) (with_place b k (place_of (names b.entrants) c))
unfolding with_call with_place session entrant format_at format_in
written h b m k c =
    record {
      sessions = m.sessions;
      noted = m.noted;
      entrants = m.entrants;
      rows = length-set b.places k _ ∙ m.rows;
      matched = m.matched;
      distinct = m.distinct;
      places = rw (map-set, m.places);
      formats = m.formats;
    }

-- ---- at the start
pub empty-matches : Matches empty_hub empty_book
unfolding empty_hub empty_book session entrant format_at format_in
empty-matches =
    record {
      sessions = refl;
      noted = refl;
      entrants = refl;
      rows = refl;
      matched =
          λ i.
          rw (get_d-replicate-same 8 i no_session, get_d-replicate-same 8 i nobody)
          (record { request = refl; invocation = refl; named = refl; past = omega arith; blank = λ _. refl });
      distinct = λ i j p q. absurd (let e = ap (λ (x : Entrant). x.name) (get_d-replicate-same 8 i nobody) in omega arith);
      places = rw (map-replicate (place_of none) 32 no_call, place-idle none no_call idle-no);
      formats = λ i. rw (get_d-replicate-same 8 i no_session, get_d-replicate-same 8 i Json) (λ _. refl);
    }
  where
    none : ℕ → ℕ
    none = names (replicate 8 nobody)
