-- A whole run from an empty hub: after every list of steps the state is lawful and matches the book, and every step was fit for it.
-- Assumes nothing.
use Prim.Native.Nat.{ℕ, zero, suc, ◌+◌, ◌<◌}
use mathlib.Core.Bool.{true}
use mathlib.Core.List.{List, [], ◌∷◌}
use mathlib.Core.Path.{◌≡◌, refl}
use native.Mathlib.Omega.{arith}
use lib.ListN.{length, take}
use Rattle.seq.specs.Lists.{every, pairwise, tally, Both}
use Rattle.seq.proofs.Rules.{all_replicate}
use Rattle.model.specs.declared.Hub.{Hub}
use Rattle.model.specs.State.{row_count, empty_hub, session, idle}
use Rattle.pattern.specs.Choice.{no_row}
use Rattle.model.specs.Rules.{Sized, SizedRow, Lawful, zero_row, row_zero, session_zero, call_zero, rule1, id_in_range, ids_apart, rule2, holders_open, text_good, used_row, row_good, rows_apart, table_good, rule3, call_good, calls_apart, rule4, counters_low, rule5, rules}
use Rattle.model.specs.Step.{step}
use Rattle.model.specs.Book.{Book, empty_book}
use Rattle.model.specs.Run.{Given, Fed, Meets, result, fed, entry, hub_after, feed, book_after, step_at, owed_in, sent_in}
use Rattle.model.proofs.Fit.{AllFit}
use Rattle.model.proofs.Lawful.{lawful-rules, rules-lawful}
use Rattle.model.proofs.Counts.{now-next}
use Rattle.model.proofs.Keeps.{step-lawful}
use Rattle.model.proofs.Matches.{Matches, empty-matches}
use Rattle.model.proofs.Sim.{run-matches}

-- what holds before and after every step
pub record Agreed (h : Hub) (b : Book) : Type 0 where
  pub lawful : Lawful h
  pub sized : Sized h
  pub matches : Matches h b

one-step : (h : Hub) (b : Book) → Agreed h b → (g : Given) → Agreed (result h g).hub (entry b (fed h g)).book
unfolding result
one-step h b a g =
    let k = step-lawful h g.input g.room a.sized a.lawful in
    let m : Matches (step h g.input g.room).hub (entry b (fed h g)).book =
    (run-matches h b a.lawful a.matches g (lawful-rules h a.lawful)).0
    in
    record { lawful = k.0; sized = k.1; matches = m }

pub run-agrees : (gs : List Given) (h : Hub) (b : Book) → Agreed h b → Agreed (hub_after h gs) (book_after b (feed h gs))
unfolding hub_after book_after feed
run-agrees [] h b a = a
run-agrees (g ∷ gs) h b a = run-agrees gs (result h g).hub (entry b (fed h g)).book (one-step h b a g)

pub run_fits : (gs : List Given) (h : Hub) (b : Book) → Agreed h b → AllFit b (feed h gs)
unfolding feed
run_fits [] h b a = tt
run_fits (g ∷ gs) h b a =
    ((run-matches h b a.lawful a.matches g (lawful-rules h a.lawful)).1, run_fits gs (result h g).hub (entry b (fed h g)).book (one-step h b a g))

-- the replies sent are those owed
pub fit-pays : (fs : List Fed) (b : Book) → AllFit b fs → Both (Both Meets) (owed_in b fs) (sent_in b fs)
unfolding sent_in owed_in
fit-pays [] b a = tt
fit-pays (f ∷ fs) b a = (a.0.paid, fit-pays fs (entry b f).book a.1)

-- ---- the empty hub
empty-sized : Sized empty_hub
unfolding empty_hub
empty-sized =
    let row : SizedRow no_row = record { holders = refl; text = refl } in
    record {
      sessions = refl;
      subscriptions = refl;
      registrations = refl;
      calls = refl;
      members = all_replicate SizedRow row_count no_row row;
      owners = all_replicate SizedRow row_count no_row row;
    }

empty-rules : rules empty_hub ≡ true
unfolding empty_hub every pairwise tally idle session zero_row row_zero session_zero call_zero rule1 id_in_range ids_apart rule2 holders_open text_good used_row row_good rows_apart table_good rule3 call_good calls_apart rule4 counters_low rule5 rules
empty-rules = refl

pub empty-agrees : Agreed empty_hub empty_book
empty-agrees = record { lawful = rules-lawful empty_hub empty-sized empty-rules; sized = empty-sized; matches = empty-matches }

-- ---- the book counts the steps
pub now-after : (gs : List Given) (h : Hub) (b : Book) → (book_after b (feed h gs)).now ≡ b.now + length gs
unfolding book_after feed
now-after [] h b = omega arith
now-after (g ∷ gs) h b =
    let e = now-after gs (result h g).hub (entry b (fed h g)).book in
    let n = now-next 1 0 (omega arith) b (fed h g) in
    omega arith

-- ---- step j of a list, from hub h and book b
abbrev pub book_in : Hub → Book → List Given → ℕ → Book
book_in h b gs j = book_after b (feed h (take j gs))

abbrev pub fed_in : Hub → List Given → ℕ → Fed
fed_in h gs j = fed (hub_after h (take j gs)) (step_at gs j)

-- the book after step j is step j's entry
pub book-next : (h : Hub) (b : Book) (gs : List Given) (j : ℕ) → j < length gs
    → book_in h b gs (suc j) ≡ (entry (book_in h b gs j) (fed_in h gs j)).book
unfolding book_after feed hub_after
book-next h b [] j l = absurd (omega arith)
book-next h b (g ∷ gs) zero l = refl
book-next h b (g ∷ gs) (suc j) l = book-next (result h g).hub (entry b (fed h g)).book gs j (omega arith)
