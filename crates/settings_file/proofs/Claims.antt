-- What specs/Claims.antt claims holds. Assumes nothing.
use Prim.Native.Nat.{ℕ}
use mathlib.Core.List.{List, []}
use mathlib.Core.Path.{◌≡◌, refl}
use lib.Dec.{leb}
use lib.ListN.{length}
use Rattle.seq.proofs.Logic.{split}
use Rattle.settings.specs.Lent.{lawful, settings_of, lent}
use Rattle.settings_file.specs.declared.Version.{Version}
use Rattle.settings_file.specs.declared.Refusal.{Refusal}
use Rattle.std.specs.Prelude.{⊤, Result, Ok, Err}
use Rattle.settings_file.specs.File.{Told, settings_in, judged, given, unless, reads, writes, file}
use Rattle.settings_file.specs.Claims.{Claims}
use Rattle.settings_file.proofs.Refusals.{refusals, kept}
use Rattle.settings_file.proofs.RoundTrip.{packed-is, judged-back, settings-back, newer}

-- ---- a refused call writes nothing
pub given-none : (room : ℕ) (bytes : List ℕ) → ¬ ((given room bytes).outcome ≡ Ok tt) → (given room bytes).bytes ≡ []
unfolding given
given-none room bytes = split (leb (length bytes) room) (λ t. rw t (λ n. absurd (n refl))) (λ t. rw t (λ n. refl))

unless-none : (o : Result ⊤ Refusal) (t : Told) → (¬ (t.outcome ≡ Ok tt) → t.bytes ≡ []) → ¬ ((unless o t).outcome ≡ Ok tt) → (unless o t).bytes ≡ []
unless-none (Ok _) t h = h
unless-none (Err r) t h = λ n. refl

reads_none : (v : Version) (s : List ℕ) (room : ℕ) → ¬ ((reads v s room).outcome ≡ Ok tt) → (reads v s room).bytes ≡ []
unfolding reads
reads_none v s room = unless-none (judged v s) (given room (lent (settings_in s))) (given-none room (lent (settings_in s)))

writes-none : (v : Version) (s : List ℕ) (room : ℕ) → ¬ ((writes v s room).outcome ≡ Ok tt) → (writes v s room).bytes ≡ []
unfolding writes
writes-none v s room =
    split (lawful s) (λ t. rw t (given-none room (file v (settings_of s)))) (λ t. rw t (λ n. refl))

pub claims : Claims
claims =
    record {
      numbers = (refl, refl, refl, refl, refl, refl, refl, refl);
      refusals = refusals;
      back = λ reader v x k h. (judged-back x k reader v h, settings-back x k v);
      newer = newer;
      kept = kept;
      packed = packed-is;
      refused_read = reads_none;
      refused_write = writes-none;
    }
