-- No call on settings writes more than the longest file has. Assumes nothing.
use Prim.Native.Nat.{ℕ, ◌≤◌}
use mathlib.Core.List.{List}
use mathlib.Core.Path.{◌≡◌, refl}
use native.Mathlib.Omega.{arith}
use Rattle.std.specs.Prelude.{⊤, Result, Ok, Err}
use lib.Dec.{leb}
use lib.ListN.{length}
use Rattle.seq.proofs.Logic.{split}
use Rattle.settings.specs.Settings.{default_settings}
use Rattle.settings.specs.Lent.{settings_of, lawful, lent}
use Rattle.settings_file.specs.declared.Version.{Version}
use Rattle.settings_file.specs.declared.Refusal.{Refusal}
use Rattle.settings_file.specs.File.{Told, refusal, settings_in, judged, given, unless, reads, writes, file}
use Rattle.settings_io.specs.Written.{most_file, Short}
use Rattle.settings_io.proofs.Laws.{length-lent, passed, file-length, default-length}

given-short : (room : ℕ) (b : List ℕ) → length b ≤ most_file → length (given room b).bytes ≤ most_file
unfolding given
given-short room b h = split (leb (length b) room) (λ t. rw t h) (λ t. rw t (omega arith))

unless-short : (o : Result ⊤ Refusal) (t : Told) → (refusal o ≡ 0 → length t.bytes ≤ most_file) → length (unless o t).bytes ≤ most_file
unless-short (Ok _) t h = h refl
unless-short (Err r) t h = omega arith

read_short : (v : Version) (s : List ℕ) (room : ℕ) → length (reads v s room).bytes ≤ most_file
unfolding reads
read_short v s room =
    unless-short (judged v s) (given room (lent (settings_in s)))
    (λ z. given-short room (lent (settings_in s)) (omega (arith, length-lent s (passed v s z))))

write-short : (v : Version) (s : List ℕ) (room : ℕ) → length (writes v s room).bytes ≤ most_file
unfolding writes
write-short v s room =
    split (lawful s) (λ t. rw t (given-short room (file v (settings_of s)) (file-length s t v))) (λ t. rw t (omega arith))

pub short : Short
short =
    record {
      read = read_short;
      write = write-short;
      usual = λ room. given-short room (lent default_settings) (omega (arith, default-length));
    }
