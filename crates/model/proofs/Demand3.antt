-- Demand 3, over every list of steps from an empty hub. Assumes nothing.
use Prim.Native.Nat.{ℕ, suc, ◌+◌, ◌≤◌, ◌<◌}
use mathlib.Core.Bool.{false}
use mathlib.Core.List.{List}
use mathlib.Core.Path.{◌≡◌, sym, ◌∙◌}
use native.Mathlib.Omega.{arith}
use lib.ListN.{length, take}
use lib.Seq.{length-take-le}
use Rattle.seq.proofs.Rules.{pairs-at}
use Rattle.model.specs.declared.Outcome.TheVariants.{BadState}
use Rattle.model.specs.State.{no_call, empty_hub, idle, call_at}
use Rattle.model.specs.Rules.{OpenAt, CallsApart}
use Rattle.outgoing.specs.Outgoing as Out
use Rattle.model.specs.Step.{mail}
use Rattle.model.specs.Book.{empty_book, entrant, names, vacant}
use Rattle.model.specs.Run.{Given, place_of, hub_of, book_of, book_at, step_at, fed_by, fed_at, result, In}
use Rattle.model.specs.Demands.{held_at, Demand3}
use Rattle.model.proofs.Counts.{counted}
use Rattle.model.proofs.Demand1.{demand1}
use Rattle.model.proofs.Fit.{AllFit}
use Rattle.model.proofs.Lawful.{lawful-rules}
use Rattle.model.proofs.Sim.{run-welcomes}
use Rattle.model.proofs.Lookup.{vacant-idle, row-joined}
use Rattle.model.proofs.Calls.{no-call-apart, apart-sym}
use Rattle.model.proofs.Matches.{open-named, named-open, placed, place-at, place-held}
use Rattle.model.proofs.Room.{end_fits}
use Rattle.model.proofs.Until.{until, replied}
use Rattle.model.proofs.Whole.{Agreed, empty-agrees, run-agrees, run_fits, fit-pays, now-after, book-next}

module _ (gs : List Given) where
  agreed : Agreed (hub_of gs) (book_of gs)
  agreed = run-agrees gs empty_hub empty_book empty-agrees

  fit : AllFit empty_book (fed_by gs)
  fit = run_fits gs empty_hub empty_book empty-agrees

  -- a session's name is the number of a step there was
  past : (i : ℕ) → names (book_of gs).entrants i ≤ length gs
  unfolding entrant
  past i =
      let p : names (book_of gs).entrants i ≤ (book_of gs).now = (agreed.matches.matched i).past in
      let n : (book_of gs).now ≡ 0 + length gs = unfold empty_book in now-after gs empty_hub empty_book in
      omega arith

  -- a WELCOME at step j names its session by that step
  welcome : (j i id : ℕ) → j < length gs → In (mail i (Out.Welcome id)) (fed_at gs j).mails → names (book_at gs (suc j)).entrants i ≡ suc j
  welcome j i id l p =
      let h = hub_of (take j gs) in
      let b = book_at gs j in
      let a : Agreed h b = run-agrees (take j gs) empty_hub empty_book empty-agrees in
      let n : b.now ≡ 0 + length (take j gs) = unfold empty_book in now-after (take j gs) empty_hub empty_book in
      let t : length (take j gs) ≡ j = length-take-le j gs (omega arith) in
      let e = (run-welcomes h b a.lawful a.matches (step_at gs j) (lawful-rules h a.lawful)).named i id p in
      rw (book-next empty_hub empty_book gs j l) (e ∙ omega arith)

  -- a held call's sessions are those in its row's slots
  joined : (k : ℕ) → vacant (held_at gs k) ≡ false
      → (i j : ℕ) × (names (book_of gs).entrants i ≡ (held_at gs k).caller) × OpenAt (hub_of gs) i
      × (names (book_of gs).entrants j ≡ (held_at gs k).callee) × OpenAt (hub_of gs) j
  joined k v =
      let ν = names (book_of gs).entrants in
      let c = call_at (hub_of gs) k in
      let q : held_at gs k ≡ place_of ν c = place-at (hub_of gs) (book_of gs) agreed.matches k in
      let u : idle c ≡ false = sym (vacant-idle ν c) ∙ rw q at v in
      let p : held_at gs k ≡ placed ν c = q ∙ place-held ν c u in
      let j = row-joined (hub_of gs) (book_of gs) agreed.matches agreed.lawful k u in
      (c.caller, c.callee, rw p, j.calling, rw p, j.serving)

  never : (g : Given) → (result (hub_of gs) g).outcome ≡ BadState → ⊥
  unfolding result
  never g e = (demand1 (hub_of gs) g.input g.room agreed.sized).bad_state.0 e agreed.lawful

  pub demand3 : Demand3 gs
  demand3 =
      record {
        replies = fit-pays (fed_by gs) empty_book fit;
        formats = agreed.matches.formats;
        rows = agreed.matches.places;
        slots = λ i. (open-named (hub_of gs) (book_of gs) agreed.matches i, named-open (hub_of gs) (book_of gs) agreed.matches i);
        named = agreed.matches.distinct;
        past = past;
        welcome = welcome;
        counts = counted gs fit;
        until = until gs fit;
        replied = replied gs fit;
        joined = joined;
        distinct = λ k l n. pairs-at CallsApart no_call apart-sym no-call-apart (hub_of gs).calls agreed.lawful.distinct k l n;
        lawful = agreed.lawful;
        sized = agreed.sized;
        never = never;
        fits = λ i own rows. end_fits (hub_of gs) agreed.sized agreed.lawful i own rows;
      }
