-- What a step sends can be told in its output, so a host reads it there: each receiver is a slot, each message is short, and there are few
-- (Sent.antt). Assumes nothing.
use Prim.Native.Nat.{ℕ, ◌≤◌, ◌<◌}
use mathlib.Core.Path.{◌≡◌}
use mathlib.Core.List.{map}
use native.Mathlib.Omega.{arith}
use lib.ListN.{length}
use Rattle.seq.specs.Lists.{All}
use Rattle.seq.proofs.Rules.{all_map}
use Rattle.outgoing.specs.Outgoing.{render}
use Rattle.outgoing.specs.Contents.{contents, content}
use Rattle.outgoing.proofs.Contents.{contents-layout}
use Rattle.model.specs.declared.Hub.{Hub}
use Rattle.model.specs.Words.{Mail}
use Rattle.model.specs.State.{slots, format_at}
use Rattle.model.specs.Rules.{Sized}
use Rattle.model.specs.Step.{Step, Stepped, refused, done, step, output_of}
use Rattle.model.proofs.Demand1.{Verdict, bad-state, bad-slot, wrong-time, bad-number, no-room, all_done, verdict}
use Rattle.room.proofs.Messages.{message-short}
use Rattle.room.proofs.Sent.{Told, next-sends}

-- ---- the statements; a refused step sends nothing
-- its length in its receiver's format, as that was before the step, stands in two bytes
abbrev pub Brief : Hub → Mail → Type 0
Brief h m = length (render (format_at h m.to) m.message) < 65536

pub record Output (h : Hub) (x : Step) (room : ℕ) : Type 0 where
  pub receivers : All (λ m. m.to < slots) (step h x room).mails
  pub count : length (step h x room).mails ≤ 257
  pub lengths : All (Brief h) (step h x room).mails
  pub read : contents (output_of h (step h x room).mails) ≡ map (content (format_at h)) (step h x room).mails

module _ (h : Hub) (x : Step) (room : ℕ) (sized : Sized h) where
  step-told : {y : Stepped} → Verdict h x room y → All Told y.mails × (length y.mails ≤ 257)
  unfolding refused done
  step-told (bad-state p) = (tt, omega arith)
  step-told (bad-slot p) = (tt, omega arith)
  step-told (wrong-time p) = (tt, omega arith)
  step-told (bad-number p) = (tt, omega arith)
  step-told (no-room p) = (tt, omega arith)
  step-told (all_done ((((lawful, inside), time), number), fits)) =
      let s = next-sends h sized lawful x.slot inside x.event x.bytes in (s.told, s.count)

  pub output : Output h x room
  output =
      let ms = (step h x room).mails in
      let (told, few) = step-told (verdict h x room sized) in
      let lengths = all_map Told (Brief h) (λ m t. omega (arith, message-short (format_at h m.to) m.message t.1)) ms told in
      record {
        receivers = all_map Told (λ m. m.to < slots) (λ m t. t.0) ms told;
        count = few;
        lengths = lengths;
        read =
            contents-layout (format_at h) ms
            (record {
              receivers = all_map Told (λ m. m.to < 256) (λ m t. let b = t.0 in omega arith) ms told;
              lengths = lengths;
              count = omega arith;
            });
      }
