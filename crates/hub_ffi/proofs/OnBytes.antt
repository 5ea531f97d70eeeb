-- The claims of specs/OnBytes.antt: the demands hold of the bytes that a host lends. Assumes nothing.
use Prim.Native.Nat.{ℕ, ◌<◌, ◌/◌, ◌%◌}
use mathlib.Core.List.{List, [], ◌∷◌, map}
use mathlib.Core.Path.{◌≡◌, refl, sym, ap, ◌∙◌}
use native.Mathlib.Omega.{arith}
use lib.ListN.{length, take, drop}
use lib.Seq.{take_at, drop_at}
use Rattle.seq.specs.Lists.{All}
use Rattle.seq.proofs.Logic.{split, clash}
use Rattle.outgoing.specs.Layout.{Mail, Formats, layout}
use Rattle.model.specs.declared.Hub.{Hub}
use Rattle.model.specs.declared.Outcome.{Outcome}
use Rattle.model.specs.declared.Outcome.TheVariants.{Done, BadState, BadSlot, WrongTime, BadNumber, NoRoom}
use Rattle.model.specs.State.{empty_hub}
use Rattle.model.specs.Rules.{rules, Sized, Lawful}
use Rattle.model.specs.Step.{Step, step, refused, refusal}
use Rattle.model.specs.Run.{Given, result, feed, fed, hub_after}
use Rattle.model.proofs.Keeps.{step-lawful}
use Rattle.model.proofs.Lawful.{lawful-rules, rules-lawful}
use Rattle.model.proofs.Complete.{complete}
use Rattle.model.proofs.Demand1.{demand1}
use Rattle.model.proofs.Demand3.{demand3}
use Rattle.image.specs.Image.{load, store}
use Rattle.image.proofs.RoundTrip.{load_store, store-load, load_sized, empty-image}
use Rattle.hub.specs.Answer.{formats_on, output, lent, kept}
use Rattle.hub.proofs.Laws.{lent-unformed, lent-formed}
use Rattle.hub_ffi.specs.Boundary.{packed, answer}
use Rattle.hub_ffi.specs.OnBytes.{OfLawful, OneCall, Call, given, answers_of, outputs_of, results_of, written_from, ManyCalls, OnBytes}
use Rattle.hub_ffi.proofs.Bytes.{as-step, leaves}

-- ---- the answer, and the output
lowest-is : (n : ℕ) (o : Outcome) → packed n (refusal o) % 256 ≡ refusal o
lowest-is n Done = omega arith
lowest-is n BadState = omega arith
lowest-is n BadSlot = omega arith
lowest-is n WrongTime = omega arith
lowest-is n BadNumber = omega arith
lowest-is n NoRoom = omega arith

above-is : (n : ℕ) (o : Outcome) → packed n (refusal o) / 256 ≡ n
above-is n Done = omega arith
above-is n BadState = omega arith
above-is n BadSlot = omega arith
above-is n WrongTime = omega arith
above-is n BadNumber = omega arith
above-is n NoRoom = omega arith

output-is : (fs : Formats) (o : Outcome) (n : ℕ) (ms : List Mail) (old : List ℕ) → o ≡ Done → n ≡ length (layout fs ms)
    → (take n (output fs o n ms old) ≡ layout fs ms) × (drop n (output fs o n ms old) ≡ drop n old)
output-is fs o n ms old d e = rw d (take_at (layout fs ms) (drop n old) n (sym e), drop_at (layout fs ms) (drop n old) n (sym e))

-- ---- one call
module _ (s : List ℕ) (x : Step) (room : ℕ) where
  -- on a lawful hub's bytes: the model's step
  on-lawful : (h : Hub) → Sized h → Lawful h → store h ≡ s → lent s x room ≡ step h x room
  on-lawful h z w e = rw (← e) (as-step h z w x room)

  not-refused : OfLawful s → (lent s x room).outcome ≡ BadState → ⊥
  not-refused (h, z, w, e) b = (demand1 h x room z).bad_state.0 (sym (ap (λ t. t.outcome) (on-lawful h z w e)) ∙ b) w

  -- any bytes are a lawful hub's, or stand for one that breaks a rule, or for none
  by-rules : {A : Type 0} → All (λ b. b < 256) s → (OfLawful s → A) → ((lent s x room).outcome ≡ BadState → A) → A
  unfolding refused
  by-rules b f g =
      split (load s).ok
      (λ t. split (rules (load s).hub)
      (λ r. f ((load s).hub, load_sized s, rules-lawful (load s).hub (load_sized s) r, store-load s b t))
      (λ r. g (ap (λ y. y.outcome) (lent-formed s x room t)
      ∙ (demand1 (load s).hub x room (load_sized s)).bad_state.1 (λ w. clash (lawful-rules (load s).hub w) r))))
      (λ t. g (ap (λ y. y.outcome) (lent-unformed s x room t)))

  lasts : OfLawful s → OfLawful (kept (lent s x room) s)
  lasts (h, z, w, e) =
      let k = step-lawful h x room z w in
      ((step h x room).hub, k.1, k.0, sym (leaves h z w x room) ∙ ap (λ (b : List ℕ). kept (lent b x room) b) e)

  count-is : (lent s x room).outcome ≡ Done → (lent s x room).count ≡ length (layout (formats_on s) (lent s x room).mails)
  unfolding refused
  count-is =
      split (load s).ok
      (λ t. rw (lent-formed s x room t) (demand1 (load s).hub x room (load_sized s)).counted)
      (λ t. rw (lent-unformed s x room t) (λ d. let z : refusal BadState ≡ refusal Done = ap refusal d in absurd (omega arith)))

  one-call : OneCall s x room
  one-call = record {
    bad_state = λ b. (λ e l. not-refused l e, λ n. by-rules b (λ l. absurd (n l)) (λ e. e));
    lawful = λ b n. by-rules b (λ l. l) (λ e. absurd (n e));
    otherwise = λ h z w e. (on-lawful h z w e, demand1 h x room z, complete h x room);
    lasting = lasts;
    lowest = lowest-is (lent s x room).count (lent s x room).outcome;
    above = above-is (lent s x room).count (lent s x room).outcome;
    output = λ old d. output-is (formats_on s) (lent s x room).outcome (lent s x room).count (lent s x room).mails old d (count-is d);
  }

-- ---- calls in a row, from the bytes of a lawful hub
answered-from : (cs : List Call) (h : Hub) → Sized h → Lawful h → answers_of (store h) cs ≡ map answer (results_of h (map given cs))
unfolding answers_of results_of result
answered-from [] h z w = refl
answered-from (c ∷ cs) h z w =
    let k = step-lawful h c.input (length c.out) z w in
    rw (
      leaves h z w c.input (length c.out),
      as-step h z w c.input (length c.out),
      answered-from cs (step h c.input (length c.out)).hub k.1 k.0,
    )

wrote-from : (cs : List Call) (h : Hub) → Sized h → Lawful h → outputs_of (store h) cs ≡ written_from h cs
unfolding outputs_of written_from result
wrote-from [] h z w = refl
wrote-from (c ∷ cs) h z w =
    let k = step-lawful h c.input (length c.out) z w in
    rw (
      leaves h z w c.input (length c.out),
      as-step h z w c.input (length c.out),
      load_store h z w,
      wrote-from cs (step h c.input (length c.out)).hub k.1 k.0,
    )

-- ---- what the book is fed
refusals-fed : (gs : List Given) (h : Hub) → map (λ t. refusal t.outcome) (results_of h gs) ≡ map (λ f. f.refusal) (feed h gs)
unfolding results_of feed fed
refusals-fed [] h = refl
refusals-fed (g ∷ gs) h = rw (refusals-fed gs (result h g).hub)

mails-fed : (gs : List Given) (h : Hub) → map (λ t. t.mails) (results_of h gs) ≡ map (λ f. f.mails) (feed h gs)
unfolding results_of feed fed
mails-fed [] h = refl
mails-fed (g ∷ gs) h = rw (mails-fed gs (result h g).hub)

-- ---- the answer's refusal
refused-is : (n : ℕ) (o : Outcome) → packed n (refusal o) % 256 ≡ refusal BadState → o ≡ BadState
refused-is n BadState e = refl
refused-is n Done e = absurd (omega arith)
refused-is n BadSlot e = absurd (omega arith)
refused-is n WrongTime e = absurd (omega arith)
refused-is n BadNumber e = absurd (omega arith)
refused-is n NoRoom e = absurd (omega arith)

never-from : (gs : List Given) (h : Hub) → Sized h → Lawful h → All (λ a. ¬ (a % 256 ≡ refusal BadState)) (map answer (results_of h gs))
unfolding results_of result
never-from [] h z w = tt
never-from (g ∷ gs) h z w =
    let t = step h g.input g.room in
    let k = step-lawful h g.input g.room z w in
    (λ e. (demand1 h g.input g.room z).bad_state.0 (refused-is t.count t.outcome e) w, never-from gs t.hub k.1 k.0)

module _ (cs : List Call) where
  empty-sized : Sized empty_hub
  unfolding hub_after
  empty-sized = (demand3 []).sized

  empty-lawful : Lawful empty_hub
  unfolding hub_after
  empty-lawful = (demand3 []).lawful

  many-calls : ManyCalls cs
  many-calls =
      let a = rw empty-image at (answered-from cs empty_hub empty-sized empty-lawful) in
      record {
        answered = a;
        wrote = rw (← empty-image) (wrote-from cs empty_hub empty-sized empty-lawful);
        refusals = refusals-fed (map given cs) empty_hub;
        mails = mails-fed (map given cs) empty_hub;
        never = rw a (never-from (map given cs) empty_hub empty-sized empty-lawful);
      }

pub on-bytes : OnBytes
on-bytes = record { numbers = refl; one = one-call; many = many-calls }
