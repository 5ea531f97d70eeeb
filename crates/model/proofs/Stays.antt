-- A held call stays through a step, unless the step answers it or ends one of its sessions; the reply it then gets; and its caller has a name.
-- Per entry of the book.
-- Assumes nothing.
use Prim.Native.Nat.{ℕ, zero, suc, ◌<◌}
use mathlib.Core.Path.{◌≡◌, refl, ◌∙◌, subst}
use mathlib.Core.Logic.{inl, inr}
use mathlib.Core.Bool.{true, false, cond}
use mathlib.Core.List.{List, [], ◌∷◌}
use native.Mathlib.Omega.{arith}
use borrow.Author.Tests.{ltb-true, ltb-false}
use lib.Dec.{ltb}
use lib.ListN.{length, get_or}
use lib.Seq.{get_or-set_other}
use Rattle.seq.specs.Bytes.{chars}
use Rattle.seq.specs.Lists.{All}
use Rattle.seq.proofs.Logic.{split, clash}
use Rattle.seq.proofs.Rules.{all-image, all_set, all-at, all_replicate}
use Rattle.seq.specs.declared.Format.{Format}
use Rattle.outgoing.specs.Outgoing.{Answer, Failure}
use Rattle.outgoing.specs.Layout.{Mail}
use Rattle.model.specs.Book as Book
use Rattle.model.specs.Book.{Book, Place, no_place, Due, Entry, Chosen, none, chosen, names, entrant, format_in, vacant, lowest, awaits, lookup, involves, without, served_for, invocation_in, with_format, with_entrant, with_place, nothing, cancels_owed, over, asked, invoked, called, settled, tick, empty_book}
use Rattle.model.specs.Run.{Fed, entry, book_after, ended_by, Answered, Not, By, answer_at, due_of, In}
use Rattle.model.proofs.Fit.{Roomy, Unique, Fit}
use Rattle.model.proofs.Places.{vacant-no, served-vacant, lowest-vacant, lookup-awaits, lookup-finds, without_in, without-out, without_at, names-gone, asked-names, invoked-names, ended-kept, ended-unnamed}
use Rattle.model.proofs.Entries.{Entered, idle, attached, opens, ends, asks, calls, answers, entered}

abbrev canceled_due : Place → Format → Due
canceled_due p f = due_of p f (Failure (chars "wamp.error.canceled") [])

-- Of a step from book b to b' for slot i, the replies owed, and its answer to the call p at place k.
pub record Kept (b b' : Book) (i k : ℕ) (p : Place) (owed : List Due) (answer : Answered) : Type 0 where
  -- neither answered nor its sessions ended: it stays
  pub stays : vacant p ≡ false → answer ≡ Not → (0 < ended_by b b' i → involves (ended_by b b' i) p ≡ true → ⊥) → get_or b'.places k no_place ≡ p
  -- answered: that answer is its reply, and the step's only one
  pub answered : (f : Format) (a : Answer) → answer ≡ By f a → owed ≡ due_of p f a ∷ []
  -- its callee's session ended, and its caller's did not: canceled
  pub canceled : 0 < ended_by b b' i → served_for (ended_by b b' i) p ≡ true → (f : Format) × In (canceled_due p f) owed

-- the call that a session served for another is among those owed canceled
in-cancels : (f : Format) (e : ℕ) (ps : List Place) (k : ℕ) → served_for e (get_or ps k no_place) ≡ true
    → In (canceled_due (get_or ps k no_place) f) (cancels_owed f e ps)
unfolding cancels_owed
in-cancels f e [] k t = clash t (served-vacant e no_place vacant-no)
in-cancels f e (p ∷ ps) zero t = rw t (inl refl)
in-cancels f e (p ∷ ps) (suc k) t = let r = in-cancels f e ps k t in split (served_for e p) (λ s. rw s (inr r)) (λ s. rw s r)

module _ (b : Book) (i k : ℕ) where
  abbrev At : Place
  At = get_or b.places k no_place

  abbrev KeptBy : Entry → Answered → Type 0
  KeptBy x t = Kept b x.book i k At x.owed t

  -- no answer and no end
  quiet : (x : Entry) → (vacant At ≡ false → get_or x.book.places k no_place ≡ At) → ended_by b x.book i ≡ 0 → KeptBy x Not
  quiet x q z =
      record {
        stays = λ u n e. q u;
        answered = λ f a e. absurd (let w : ◌≡◌ {A = ℕ} 0 1 = cc in omega arith);
        canceled = λ h s. absurd (omega arith);
      }

  -- the session in the slot ends
  over-kept : 0 < names b.entrants i → KeptBy (over b i) Not
  unfolding over entrant ended_by
  over-kept pos =
      let e = names b.entrants i in
      record {
        stays =
            λ u n. rw (names-gone b.entrants i)
            (λ q. without_at e b.places k ∙ without-out e At (split (involves e At) (λ t. absurd (q pos t)) (λ t. t)));
        answered = λ f a q. absurd (let w : ◌≡◌ {A = ℕ} 0 1 = cc in omega arith);
        canceled = rw (names-gone b.entrants i) (λ h s. (format_in b i, in-cancels (format_in b i) e b.places k s));
      }

  -- a CALL that is routed takes a place that was empty
  called-kept : (m : ℕ) (ms : List Mail) (ch : Chosen) → Roomy b.places ch → KeptBy (called (asked b i m) i m ms ch) Not
  called-kept m ms none room =
      quiet _ (unfold called asked with_entrant in λ u. refl) (unfold called in ended-kept b _ i (asked-names b i m i))
  called-kept m ms (chosen d v) room =
      quiet _
      (unfold called nothing asked with_entrant invoked with_place in
      λ u. get_or-set_other b.places (lowest b.places) k _ no_place (λ q. clash (lowest-vacant b.places room) (rw (← q) u)))
      (unfold called nothing with_place in ended-kept b _ i (invoked-names (asked b i m) d v i ∙ asked-names b i m i))

  -- an answer empties the one place that awaits it
  settled-kept : (e v j : ℕ) (w : Format) (a : Answer) → Unique b.places → awaits e v (get_or b.places j no_place) ≡ true
      → KeptBy (settled b j w a) (cond (awaits e v At) (By w a) Not)
  unfolding settled with_place
  settled-kept e v j f a unique w =
      split (awaits e v At)
      (λ t. rw t
      (record {
        stays = λ u n x. absurd (let z : ◌≡◌ {A = ℕ} 0 1 = cc in omega arith);
        answered = λ f' a' q. let r : a ≡ a' = cc in let s : f ≡ f' = cc in rw (unique j k e v w t, r, s);
        canceled = λ h s. absurd (let z = ended-kept b (with_place b j no_place) i refl in omega arith);
      }))
      (λ t. rw t
      (quiet _
      (λ u. get_or-set_other b.places j k no_place no_place (λ q. clash w (rw (← q) t)))
      (ended-kept b _ i refl)))

  answers-kept : (v : ℕ) (a : Answer) → Unique b.places → KeptBy (Book.answers b i v a) (cond (awaits (names b.entrants i) v At) (By (format_in b i) a) Not)
  unfolding Book.answers entrant
  answers-kept v a unique =
      let e = names b.entrants i in
      let j = lookup e v b.places in
      split (ltb j (length b.places))
      (λ t. rw t (settled-kept e v j (format_in b i) a unique (lookup-awaits e v b.places (ltb-true j _ t))))
      (λ t.
      let none : awaits e v At ≡ false =
      split (awaits e v At) (λ s. absurd (let h = lookup-finds e v b.places k s in let g = ltb-false j _ t in omega arith)) (λ s. s) in
      rw (t, none) (quiet _ (unfold nothing in λ u. refl) (unfold nothing in ended-kept b b i refl)))

kept : {c n : ℕ} {b : Book} {i k : ℕ} {ms : List Mail} {x : Entry} {t : ℕ} {a : Answered}
    → Entered c n (get_or b.places k no_place) b i ms x t a → Roomy b.places (invocation_in ms) → Unique b.places
    → Kept b x.book i k (get_or b.places k no_place) x.owed a
kept {b = b} {i = i} {k = k} idle room unique = quiet b i k _ (unfold nothing in λ u. refl) (unfold nothing in ended-kept b b i refl)
kept {b = b} {i = i} {k = k} (attached f) room unique =
    quiet b i k _ (unfold nothing with_format in λ u. refl) (unfold nothing with_format in ended-kept b _ i refl)
kept {b = b} {i = i} {k = k} (opens z) room unique =
    quiet b i k _ (unfold nothing with_entrant in λ u. refl) (unfold nothing in ended-unnamed b _ i z)
kept {b = b} {i = i} {k = k} (ends pos) room unique = over-kept b i k pos
kept {b = b} {i = i} {k = k} (asks m pos q) room unique =
    quiet b i k _ (unfold nothing asked with_entrant in λ u. refl) (unfold nothing in ended-kept b _ i (asked-names b i m i))
kept {b = b} {i = i} {k = k} {ms = ms} (calls m pos q) room unique = called-kept b i k m ms (invocation_in ms) room
kept {b = b} {i = i} {k = k} (answers v a) room unique = answers-kept b i k v a unique

-- a step that fits, with the call p at place k
abbrev KeptAt : Book → Fed → ℕ → Place → Type 0
KeptAt b f k p = Kept b (entry b f).book f.input.slot k p (entry b f).owed (answer_at b f p)

pub entry_kept : (b : Book) (f : Fed) (k : ℕ) (p : Place) → Fit b f → get_or b.places k no_place ≡ p → KeptAt b f k p
unfolding entry ended_by tick
entry_kept b f k p fit q =
    let x = kept (entered 1 0 (get_or b.places k no_place) (omega arith) b f.input f.refusal f.mails) fit.roomy fit.unique in
    subst (KeptAt b f k) q (record { stays = x.stays; answered = x.answered; canceled = x.canceled })

-- ---- a held call's caller has a name
abbrev HasCaller : Place → Type 0
HasCaller p = vacant p ≡ false → 0 < p.caller

no-caller : HasCaller no_place
no-caller u = clash vacant-no u

abbrev Callers : Book → Type 0
Callers b = All HasCaller b.places

without-caller : (e : ℕ) (p : Place) → HasCaller p → HasCaller (without e p)
without-caller e p h = split (involves e p) (λ t. rw (without_in e p t) no-caller) (λ t. rw (without-out e p t) h)

called-callers : (b : Book) (i m : ℕ) (ms : List Mail) (ch : Chosen) → 0 < names b.entrants i → Callers b
    → Callers (called (asked b i m) i m ms ch).book
unfolding called nothing with_place invoked with_entrant
called-callers b i m ms none pos h = unfold asked with_entrant in h
called-callers b i m ms (chosen d v) pos h =
    let n = asked b i m in
    let p : Place = record { caller = names n.entrants i; request = m; callee = names n.entrants d; invocation = v } in
    let l : 0 < p.caller = let e = asked-names b i m i in omega arith in
    unfold entrant in all_set HasCaller n.places (lowest n.places) p (λ u. l) (unfold asked with_entrant in h)

answers-callers : (b : Book) (i v : ℕ) (a : Answer) → Callers b → Callers (Book.answers b i v a).book
unfolding Book.answers settled with_place nothing
answers-callers b i v a h =
    let j = lookup (entrant b i).name v b.places in
    split (ltb j (length b.places)) (λ t. rw t (all_set HasCaller b.places j no_place no-caller h)) (λ t. rw t h)

callers : {c n : ℕ} {p : Place} {b : Book} {i : ℕ} {ms : List Mail} {x : Entry} {t : ℕ} {a : Answered}
    → Entered c n p b i ms x t a → Callers b → Callers x.book
callers idle h = unfold nothing in h
callers (attached f) h = unfold nothing with_format in h
callers (opens z) h = unfold nothing with_entrant in h
callers {b = b} {i = i} (ends pos) h = unfold over in all-image HasCaller HasCaller (without (entrant b i).name) (without-caller _) b.places h
callers (asks m pos q) h = unfold nothing asked with_entrant in h
callers {b = b} {i = i} {ms = ms} (calls m pos q) h = called-callers b i m ms (invocation_in ms) pos h
callers {b = b} {i = i} (answers v a) h = answers-callers b i v a h

run-callers : (b : Book) (fs : List Fed) → Callers b → Callers (book_after b fs)
unfolding book_after
run-callers b [] h = h
run-callers b (f ∷ fs) h =
    run-callers (entry b f).book fs
    (unfold entry in callers (entered 1 0 no_place (omega arith) b f.input f.refusal f.mails) (unfold tick in h))

-- after any list of steps
pub caller-named : (fs : List Fed) (k : ℕ) → vacant (get_or (book_after empty_book fs).places k no_place) ≡ false
    → 0 < (get_or (book_after empty_book fs).places k no_place).caller
caller-named fs k =
    all-at HasCaller no_place (book_after empty_book fs).places k no-caller
    (run-callers empty_book fs (unfold empty_book in all_replicate HasCaller 32 no_place no-caller))
