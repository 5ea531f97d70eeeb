-- The sections of messages, and the output that they make. Assumes nothing.
use Rattle.std.specs.Prelude.{None, Some, Option}
use Prim.Native.Nat.{ℕ, ◌+◌, ◌*◌, ◌-◌, ◌/◌, ◌%◌, ◌≤◌, ◌<◌}
use mathlib.Core.List.{List, [], ◌∷◌, ◌++◌, append-nil}
use mathlib.Core.Path.{◌≡◌, refl, sym, ap, ◌∙◌}
use native.Mathlib.Nat.{zero-add}
use native.Mathlib.Omega.{arith}
use borrow.Author.Tests.{le-leb, lt-leb, leb-true, leb-false}
use lib.Dec.{leb}
use lib.ListN.{length, length-append}
use Rattle.seq.specs.Bytes.{source}
use Rattle.seq.specs.Lists.{joined}
use Rattle.seq.proofs.Logic.{split}
use Rattle.seq.specs.declared.Format.{Format}
use Rattle.conversion.specs.Sources.{Sources, across}
use Rattle.outgoing.specs.Outgoing.{Outgoing, render}
use Rattle.outgoing.specs.Layout.{Mail, Formats, be16, entry, body, layout}
use Rattle.replies.specs.Meaning.{message_of}
use Rattle.buffer.specs.Capped.{capped, largest}
use Rattle.buffer.proofs.Sums.{capped_is, capped-past, sum_more}
use Rattle.buffer.specs.Over.{over}
use Rattle.buffer.proofs.Over.{over-before}
use Rattle.buffer.proofs.Wrote.{Wrote, wrote, wrote_then}
use Rattle.outbox.specs.Meaning.{mail, own_mails}
use Rattle.sections.specs.Sections.{put_in, added, one_output, outcome_bytes}
use Rattle.sections.proofs.Sections.{bytes-done, bytes-none}
use Rattle.sections.specs.declared.Section.{Section}
use Rattle.sections.specs.declared.Section.TheVariants.{Entries, Bodies}
use Rattle.outbox.specs.Emit.{answer, section, added_by}
use Rattle.outbox.specs.declared.Send.{Send}

-- ---- one message
module _ (fs : Formats) where
  pub section-one : (s : Section) (slot : ℕ) (e : Outgoing) → put_in s slot (render (fs slot) e) ≡ joined (section fs s) (mail slot e ∷ [])
  unfolding section
  section-one s slot e = sym (append-nil (put_in s slot (render (fs slot) e)))

  -- the same, of a format that is the slot's
  pub section-in : (s : Section) (slot : ℕ) (e : Outgoing) (g : Format) → g ≡ fs slot
      → put_in s slot (render g e) ≡ joined (section fs s) (mail slot e ∷ [])
  section-in s slot e g q = rw q (section-one s slot e)

  -- what it adds, in a format that is the slot's
  pub added-in : (slot : ℕ) (e : Outgoing) (g : Format) → g ≡ fs slot → added (render g e) ≡ added_by fs (mail slot e ∷ [])
  unfolding added_by
  added-in slot e g q = rw q (omega arith)

  -- ---- a session's own message
  pub own-silent : (m : Sources) (own : Option Send) → own ≡ None → [] ≡ own_mails fs m own
  own-silent m own e = rw e

  -- what it is written from: bytes b, in the format g
  module _ (m : Sources) (own : Option Send) (x : Send) (e : own ≡ Some x) (g : Format) (q : g ≡ fs x.slot) (b : List ℕ) where
    own-message : b ≡ across m.from g m.message m.converted
        → mail x.slot (message_of (source b m.text) x.reply) ∷ [] ≡ own_mails fs m own
    own-message p = rw (e, p, q)

    pub own-wrote : (s : Section) {l k : List ℕ} {at o : ℕ} → Wrote l at (put_in s x.slot (render g (message_of (source b m.text) x.reply))) o k
        → b ≡ across m.from g m.message m.converted → Wrote l at (joined (section fs s) (own_mails fs m own)) o k
    own-wrote s w p =
        wrote (section-in s x.slot (message_of (source b m.text) x.reply) g q ∙ ap (joined (section fs s)) (own-message p)) w

    pub own-adds : b ≡ across m.from g m.message m.converted
        → added (render g (message_of (source b m.text) x.reply)) ≡ added_by fs (own_mails fs m own)
    own-adds p = added-in x.slot (message_of (source b m.text) x.reply) g q ∙ ap (added_by fs) (own-message p)

    pub own-output : b ≡ across m.from g m.message m.converted
        → one_output x.slot (render g (message_of (source b m.text) x.reply)) ≡ layout fs (own_mails fs m own)
    unfolding layout entry body
    own-output p = rw (← own-message p, q, append-nil)

  pub own-nothing : (m : Sources) (own : Option Send) → own ≡ None → be16 0 ≡ layout fs (own_mails fs m own)
  unfolding layout
  own-nothing m own e = rw e

-- ---- sizes
module _ (fs : Formats) where
  -- messages that there are none of
  pub sized-none : (ms : List Mail) → [] ≡ ms → (at : ℕ) → at ≤ largest → at ≡ capped (at + added_by fs ms)
  unfolding added_by
  sized-none ms e at h = let z : at ≡ at + 0 = omega arith in rw (← e) (capped_is at h ∙ ap capped z)

  pub added-append : (a b : List Mail) → added_by fs (a ++ b) ≡ added_by fs a + added_by fs b
  unfolding added_by
  added-append [] b = sym (zero-add (added_by fs b))
  added-append (m ∷ a) b = let h = added-append a b in omega arith

  -- some, and then others
  pub sized-then : (a b ms : List Mail) → a ++ b ≡ ms → (at o p : ℕ) → o ≡ capped (at + added_by fs a) → p ≡ capped (o + added_by fs b)
      → p ≡ capped (at + added_by fs ms)
  sized-then a b ms e at o p w v =
      let l = added-append a b in
      v ∙ sum_more o (added_by fs b) (at + added_by fs a) (at + added_by fs (a ++ b)) w (omega arith) ∙ ap (λ l. capped (at + added_by fs l)) e

-- ---- the sections of an output
module _ (fs : Formats) where
  -- an entry has three bytes
  entries-length : (ms : List Mail) → length (joined (section fs Entries) ms) ≡ 3 * length ms
  unfolding section
  entries-length [] = refl
  entries-length (m ∷ ms) = let h = entries-length ms in omega arith

  added-length : (ms : List Mail) → added_by fs ms ≡ length (joined (section fs Entries) ms) + length (joined (section fs Bodies) ms)
  unfolding section added_by
  added-length [] = refl
  added-length (m ∷ ms) =
      let h = added-length ms in
      let f = length-append (render (fs m.to) m.message) (joined (section fs Bodies) ms) in
      omega arith

  -- where there is room, no length is more than the largest number
  entries-exact : (ms : List Mail) → added_by fs ms ≤ largest → joined (section fs Entries) ms ≡ joined (entry fs) ms
  unfolding section entry added_by
  entries-exact [] h = refl
  entries-exact (m ∷ ms) h =
      let n : length (render (fs m.to) m.message) ≤ largest = omega arith in
      let k : added_by fs ms ≤ largest = omega arith in
      rw (← capped_is (length (render (fs m.to) m.message)) n, entries-exact ms k)

  entry_length : (ms : List Mail) → length (joined (entry fs) ms) ≡ 3 * length ms
  unfolding entry
  entry_length [] = refl
  entry_length (m ∷ ms) = let h = entry_length ms in omega arith

  pub layout-length : (ms : List Mail) → length (layout fs ms) ≡ 2 + added_by fs ms
  unfolding layout section body
  layout-length ms =
      let a = length-append (joined (entry fs) ms) (joined (body fs) ms) in
      omega (arith, entry_length ms, entries-length ms, added-length ms)

  layout-sections : (ms : List Mail) → added_by fs ms ≤ largest
      → layout fs ms ≡ be16 (length ms) ++ (joined (section fs Entries) ms ++ joined (section fs Bodies) ms)
  unfolding layout section body
  layout-sections ms h = ap (λ l. be16 (length ms) ++ (l ++ joined (body fs) ms)) (sym (entries-exact ms h))

-- ---- the answer, where an output fits and where it does not
pub answer-done : (size room : ℕ) → size ≤ room → Some size ≡ answer size room
answer-done size room h = rw (le-leb size room h)

pub answer-none : (size room : ℕ) → room < size → None ≡ answer size room
answer-none size room h = rw (lt-leb size room h)

-- and the bytes with it
pub outcome-done : (new old left : List ℕ) (o : ℕ) → length new ≤ length old → length old ≤ largest → Wrote old 0 new o left
    → (Some o ≡ answer (length new) (length old)) × (left ≡ outcome_bytes new old)
outcome-done new old left o h f w =
    let e : o ≡ length new = w.ends ∙ ap capped (zero-add (length new)) ∙ sym (capped_is (length new) (omega arith)) in
    (ap Some e ∙ answer-done (length new) (length old) h, bytes-done new old left o h w)

pub outcome-none : (new old : List ℕ) → length old < length new → (None ≡ answer (length new) (length old)) × (old ≡ outcome_bytes new old)
outcome-none new old h = (answer-none (length new) (length old) h, bytes-none new old h)

-- a size that stops at the largest number, which no room has
pub answer-capped : (n room : ℕ) → room < largest → answer (capped n) room ≡ answer n room
answer-capped n room h =
    split (leb n largest)
    (λ y. ap (λ k. answer k room) (sym (capped_is n (leb-true n largest y))))
    (λ y.
    let p = leb-false n largest y in
    sym (answer-none (capped n) room (omega (arith, capped-past n p))) ∙ answer-none n room (omega arith))

-- what emit writes: the entries, the bodies, and the count before them
module _ (fs : Formats) (ms : List Mail) (old mid : List ℕ) (o : ℕ) (size : 2 + added_by fs ms ≤ length old)
    (f : length old ≤ largest) (w : Wrote old 2 (joined (section fs Entries) ms) o mid) where
  -- where the bodies begin
  pub bodies-place : o ≡ 2 + 3 * length ms
  bodies-place =
      let e = entries-length fs ms in
      let l = added-length fs ms in
      w.ends ∙ sym (capped_is (2 + length (joined (section fs Entries) ms)) (omega arith)) ∙ ap (λ n. 2 + n) e

  pub emit-all : (last left : List ℕ) (p : ℕ) → Wrote mid o (joined (section fs Bodies) ms) p last → left ≡ over last 0 (be16 ((o - 2) / 3))
      → Wrote old 0 (layout fs ms) p left
  emit-all last left p v q =
      let l = added-length fs ms in
      let n : (o - 2) / 3 ≡ length ms = omega (arith, bodies-place) in
      let x = joined (section fs Entries) ms ++ joined (section fs Bodies) ms in
      let t = wrote_then f w v in
      let k : 2 + length x ≡ 0 + length (layout fs ms) =
      omega (arith, length-append (joined (section fs Entries) ms) (joined (section fs Bodies) ms), layout-length fs ms) in
      record {
        ends = t.ends ∙ ap capped k;
        leaves =
            q ∙ ap (λ c. over last 0 (be16 c)) n ∙ ap (λ b. over b 0 (be16 (length ms))) t.leaves
            ∙ over-before old x (length ms / 256 % 256) (length ms % 256)
            ∙ ap (over old 0) (sym (layout-sections fs ms (omega arith)));
      }
