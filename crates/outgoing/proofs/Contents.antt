-- A host that reads a step's output by specs/Contents.antt reads what was to be sent. Assumes nothing.
use Prim.Native.Nat.{ℕ, ◌+◌, ◌-◌, ◌*◌, ◌/◌, ◌%◌, ◌<◌}
use mathlib.Core.List.{List, [], ◌∷◌, ◌++◌, map}
use mathlib.Core.Path.{◌≡◌, refl, sym, ap, ap₂, ◌∙◌}
use native.Mathlib.Nat.{add-zero, add_assoc}
use native.Mathlib.Omega.{arith}
use lib.ListN.{length, take, drop, get_or}
use lib.Seq.{take-append_seam, drop-append_seam, drop-drop, get_or-drop, drop_at}
use Rattle.seq.specs.Bytes.{byte_at, part, number16}
use Rattle.seq.specs.Lists.{All, joined}
use Rattle.outgoing.specs.Outgoing.{render}
use Rattle.outgoing.specs.Layout.{Mail, Formats, entry, body, layout}
use Rattle.outgoing.specs.Contents.{contents_from, contents, total, content, Writable}
use Rattle.outgoing.proofs.Lengths.{layout-cons, layout-none}

-- ---- a byte, and the bytes, at a place of which it is known what stands there
byte-there : (s : List ℕ) (at : ℕ) (xs : List ℕ) (k : ℕ) → drop at s ≡ xs → byte_at s (at + k) ≡ byte_at xs k
byte-there s at xs k e = sym (get_or-drop at s k 0) ∙ ap (λ l. get_or l k 0) e

drop-there : (s : List ℕ) (at : ℕ) (xs : List ℕ) (k : ℕ) → drop at s ≡ xs → drop (at + k) s ≡ drop k xs
drop-there s at xs k e = sym (drop-drop k at s) ∙ ap (drop k) e

-- a number below 65,536 is read back from its two bytes
number-there : (s : List ℕ) (at n : ℕ) → n < 65536 → byte_at s at ≡ n / 256 % 256 → byte_at s (at + 1) ≡ n % 256 → number16 s at ≡ n
number-there s at n l p q = rw (p, q) (omega arith)

-- ---- the messages, from an entry's place and a body's on
module _ (formats : Formats) (s : List ℕ) where
  contents-there : (ms : List Mail) (at from : ℕ) (r : List ℕ) → All (λ m. m.to < 256) ms → All (λ m. length (render (formats m.to) m.message) < 65536) ms
      → drop at s ≡ joined (entry formats) ms ++ r → drop from s ≡ joined (body formats) ms → contents_from s (length ms) at from ≡ map (content formats) ms
  unfolding contents_from entry body
  contents-there [] at from r t l e b = refl
  contents-there (m ∷ ms) at from r t l e b =
      let n = length (render (formats m.to) m.message) in
      let receiver : m.to < 256 = t.0 in
      let to_is : byte_at s at ≡ m.to = ap (byte_at s) (sym (add-zero at)) ∙ byte-there s at _ 0 e ∙ omega arith in
      let len_is : number16 s (at + 1) ≡ n = number-there s (at + 1) n l.0 (byte-there s at _ 1 e)
      (ap (byte_at s) (add_assoc at 1 1) ∙ byte-there s at _ 2 e) in
      let span : from + n - from ≡ n = omega arith in
      let bytes-are : part from (from + n) s ≡ render (formats m.to) m.message = ap₂ take span b ∙ take-append_seam (render (formats m.to) m.message) (joined (body formats) ms) in
      let rest = contents-there ms (at + 3) (from + n) r t.1 l.1 (drop-there s at _ 3 e)
      (drop-there s from _ n b ∙ drop-append_seam (render (formats m.to) m.message) (joined (body formats) ms)) in
      rw (to_is, len_is, bytes-are, rest)

-- ---- the whole output
entries-length : (formats : Formats) (ms : List Mail) → length (joined (entry formats) ms) ≡ 3 * length ms
unfolding entry
entries-length formats [] = refl
entries-length formats (m ∷ ms) = omega (arith, entries-length formats ms)

pub contents-layout : (formats : Formats) (ms : List Mail) → Writable formats ms → contents (layout formats ms) ≡ map (content formats) ms
unfolding contents layout
contents-layout formats ms w =
    let count-is : number16 (layout formats ms) 0 ≡ length ms = number-there (layout formats ms) 0 (length ms) w.count refl refl in
    let bodies = drop_at (joined (entry formats) ms) (joined (body formats) ms) (3 * length ms) (entries-length formats ms) in
    rw count-is (contents-there formats (layout formats ms) ms 2 (2 + 3 * length ms) (joined (body formats) ms) w.receivers w.lengths refl
    (drop-there (layout formats ms) 2 _ (3 * length ms) refl ∙ bodies))

pub length-layout : (formats : Formats) (ms : List Mail) → length (layout formats ms) ≡ 2 + 3 * length ms + total (map (content formats) ms)
unfolding total
length-layout formats [] = layout-none formats
length-layout formats (m ∷ ms) = omega (arith, layout-cons formats m ms, length-layout formats ms)
