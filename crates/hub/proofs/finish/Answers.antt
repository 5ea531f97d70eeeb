use Prim.Native.Nat.{◌<◌}
use mathlib.Core.Path.{◌≡◌, sym, ap, ◌∙◌}
use native.Mathlib.Omega.{arith}
use lib.ListN.{length}
use Rattle.conversion.specs.Sources.{sources}
use Rattle.seq.proofs.Lists.{length-mapped}
use Rattle.seq.proofs.Rules.{all-of-at}
use Rattle.uri.specs.Uri.{longest}
use Rattle.model.specs.declared.Outcome.TheVariants.{NoRoom}
use Rattle.model.specs.State.{slots}
use Rattle.model.specs.Step.{refused}
use Rattle.image.specs.Image.{held}
use Rattle.next.specs.Next.{next_of}
use Rattle.hub.specs.Answer.{answer_of}
use Rattle.hub.specs.Kept.{kept_effect}
use Rattle.hub.proofs.Kept.{effect-stored, fitted-kept}
use Rattle.hub.proofs.Laws.{emits-done, outcome-done, emits_none, outcome-none, emits-bytes}
use borrow.Author.Rules.{rules}
use Rattle.hub.proofs.finish.Goals as goal

pub returns-in_default : goal.returns-in_default
returns-in_default c =
    let a = c.args in
    let h = held a.state.now in
    let x = next_of h (sources a.from a.message.now a.converted.now a.text.now) a.next in
    let old = a.out.now in
    let told : c.refused.result ≡ answer_of (refused h NoRoom) = c.refused.ensures h in
    let sent = c.send-sent.ensures in record {
      answer = (λ e. told ∙ emits_none h x old (sym (sent.answer e) ∙ c.in_default.is));
      state = (λ e ok. rw (outcome-none h x old (sym (sent.answer e) ∙ c.in_default.is)));
      bytes = (λ e. sent.bytes e ∙ emits-bytes h x old);
    }

pub returns : goal.returns
returns c =
    let a = c.args in
    let s = a.state.now in
    let h = held s in
    let x = next_of h (sources a.from a.message.now a.converted.now a.text.now) a.next in
    let old = a.out.now in
    let sent = c.send-sent.ensures in
    let bytes = all-of-at (λ b. b < 256) 0 s (λ k. omega (arith, c.slice_known-1.given k)) in
    let good = c.well_formed.1.0 in
    let l : length a.next.sessions ≡ slots = search (rules, length-mapped, good) in
    let t : length a.next.row.text ≡ longest = search (rules, length-mapped, good) in
    let put = c.keep_effect.ensures ∙ ap (λ s. kept_effect s a.next.row a.next.effect) c.keep_sessions.ensures in record {
      answer = (λ e. emits-done h x old _ (sym (sent.answer e) ∙ c.in-Some.is));
      state = (λ e ok.
          rw (outcome-done h x old _ (sym (sent.answer e) ∙ c.in-Some.is)) put
          ∙ fitted-kept h (length old) x _ s (effect-stored s bytes ok a.next.sessions l a.next.row a.next.effect t));
      bytes = (λ e. sent.bytes e ∙ emits-bytes h x old);
    }
