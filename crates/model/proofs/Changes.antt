-- The words for a changed state mean what specs/Changes.antt says. Assumes nothing.
use Prim.Native.Nat.{ℕ}
use mathlib.Core.List.{List}
use mathlib.Core.Path.{refl}
use lib.Seq.{get_or-set_same, get_or-set_other}
use Rattle.model.specs.declared.Hub.{Hub}
use Rattle.model.specs.State.{no_session, no_call, session, with_session, with_call, with_subscriptions, with_registrations}
use Rattle.model.specs.Step.{issued, details_for}
use Rattle.model.specs.Changes.{Changes, DetailsBy}

pub changes : (h : Hub) → Changes h
unfolding session with_session with_call with_subscriptions with_registrations issued
changes h =
    record {
      slot = λ i x l. get_or-set_same h.sessions i x no_session l;
      other_slots = λ i j x n. get_or-set_other h.sessions i j x no_session n;
      slot_alone = λ i x. (refl, refl, refl);
      call = λ k c l. get_or-set_same h.calls k c no_call l;
      other_calls = λ k j c n. get_or-set_other h.calls k j c no_call n;
      call_alone = λ k c. (refl, refl, refl);
      subscriptions = λ t. (refl, refl, refl, refl);
      registrations = λ t. (refl, refl, refl, refl);
      counter = λ i l. get_or-set_same h.sessions i _ no_session l;
      other_counters = λ i j n. get_or-set_other h.sessions i j _ no_session n;
      counter_alone = λ i. (refl, refl, refl);
    }

pub details-by : (uri : List ℕ) → DetailsBy uri
unfolding details_for
details-by uri = record { exact = refl; prefix = refl; wildcard = refl }
