-- What is read back from a step's output is what was laid out; a message that is cut is answered as it was; a line counts for at most
-- one step. Assumes nothing.
use mathlib.Core.Path.{◌≡◌, refl, sym, ap, ◌∙◌}
use Prim.Native.Nat.{ℕ, ◌+◌, ◌*◌, ◌-◌, ◌/◌, ◌%◌, ◌<◌, ◌≤◌}
use native.Mathlib.Nat.{add-zero}
use native.Mathlib.Decide.{dec_le}
use native.Mathlib.Omega.{arith}
use mathlib.Core.Bool.{Bool, true, false, not}
use mathlib.Core.List.{List, [], ◌∷◌, ◌++◌, append_assoc}
use lib.ListN.{length, take, drop, get_or, length-append}
use lib.Seq.{get_or-drop, take_at, take_all, length-take-le, drop_at, drop-drop}
use lib.Dec.{leb}
use borrow.Author.Tests.{leb-true, lt-leb}
use Rattle.seq.specs.Bytes.{part}
use Rattle.seq.specs.Lists.{joined}
use Rattle.seq.proofs.Logic.{clash, and-false, cond-case}
use Rattle.seq.specs.declared.Format.{Format}
use Rattle.incoming.specs.Read.{read}
use Rattle.hex_text.specs.Hex.{bytes_of, filled}
use Rattle.outgoing.specs.Outgoing.{render}
use Rattle.outgoing.specs.Layout.{Formats, Mail, entry, body, layout}
use Rattle.outgoing.proofs.Lengths.{layout-cons, layout-none}
use Rattle.model.specs.declared.Hub.{Hub}
use Rattle.model.specs.declared.Event.TheVariants.{Message}
use Rattle.model.specs.declared.Outcome.{Outcome}
use Rattle.model.specs.declared.Outcome.TheVariants.{Done, BadState, BadSlot, WrongTime, BadNumber, NoRoom}
use Rattle.model.specs.State.{slots, phase_at, format_at}
use Rattle.model.specs.Rules.{rules}
use Rattle.model.specs.Step.{Step, Stepped, Next, refused, done, fitted, step, next, wrong_time, bad_number}
use Rattle.image.specs.Image.{load}
use Rattle.hub.specs.Answer.{given, formats_on, output, written, lent}
use Rattle.report.specs.Contents.{entry_at}
use Rattle.report.specs.Text.{messages_from, messages_text, outcome_text, done_text}
use Rattle.report.proofs.Laws.{entry-bytes}
use Rattle.replay.specs.Replay.{room, mail_text, Action, nothing, steps, stops, step_of, played}
use Rattle.replay.specs.declared.Run.{Run}

-- ---- what was laid out is read back
two_bytes : (n : ℕ) → n < 65536 → n / 256 % 256 * 256 + n % 256 ≡ n
two_bytes n h = omega arith

module _ (formats : Formats) where
  abbrev sent : Mail → List ℕ
  sent m = render (formats m.to) m.message

  laid-entry : (out : List ℕ) (k : ℕ) (m : Mail) (rest : List ℕ) → drop (2 + 3 * k) out ≡ entry formats m ++ rest → length (sent m) < 65536
      → entry_at out k ≡ record { slot = m.to % 256; len = length (sent m) }
  unfolding entry
  laid-entry out k m rest e h =
      let at : (i : ℕ) → get_or out (2 + 3 * k + i) 0 ≡ get_or (entry formats m ++ rest) i 0 =
      λ i. sym (get_or-drop (2 + 3 * k) out i 0) ∙ ap (λ l. get_or l i 0) e in
      let z : get_or out (2 + 3 * k) 0 ≡ m.to % 256 = rw (add-zero (2 + 3 * k)) at (at 0) in
      entry-bytes out k ∙ rw (z, at 1, at 2, two_bytes (length (sent m)) h)

  length-entry : (m : Mail) → length (entry formats m) ≡ 3
  unfolding entry
  length-entry m = refl

  length-body : (m : Mail) → length (body formats m) ≡ length (sent m)
  unfolding body
  length-body m = refl

  messages-laid : (out : List ℕ) (ms : List Mail) (k from : ℕ) (x y : List ℕ)
      → drop (2 + 3 * k) out ≡ joined (entry formats) ms ++ x
      → drop from out ≡ joined (body formats) ms ++ y
      → length (layout formats ms) ≤ 65536
      → messages_from out (length ms) k from ≡ joined (mail_text formats) ms
  unfolding messages_from mail_text
  messages-laid out [] k from x y e f h = refl
  messages-laid out (m ∷ ms) k from x y e f h =
      let n : ℕ = length (sent m) in
      let c = layout-cons formats m ms in
      let a = append_assoc (entry formats m) (joined (entry formats) ms) x in
      let b = append_assoc (body formats m) (joined (body formats) ms) y in
      let given : entry_at out k ≡ record { slot = m.to % 256; len = n } = laid-entry out k m (joined (entry formats) ms ++ x) (e ∙ a) (omega arith) in
      let w : from + n - from ≡ n = omega arith in
      let t : part from (from + n) out ≡ body formats m =
      rw (w, f, b) (take_at (body formats m) (joined (body formats) ms ++ y) n (length-body m)) in
      let k3 : 2 + 3 * (k + 1) ≡ 2 + 3 * k + 3 = omega arith in
      let e2 : drop (2 + 3 * (k + 1)) out ≡ joined (entry formats) ms ++ x =
      rw (k3, ← drop-drop 3 (2 + 3 * k) out, e, a) (drop_at (entry formats m) (joined (entry formats) ms ++ x) 3 (length-entry m)) in
      let f2 : drop (from + n) out ≡ joined (body formats) ms ++ y =
      rw (← drop-drop n from out, f, b) (drop_at (body formats m) (joined (body formats) ms ++ y) n (length-body m)) in
      let rest = messages-laid out ms (k + 1) (from + n) x y e2 f2 (omega arith) in
      rw (given, t, rest)

  layout-count : (ms : List Mail) → 2 + 3 * length ms ≤ length (layout formats ms)
  layout-count [] = omega (arith, layout-none formats)
  layout-count (m ∷ ms) = let e = layout-cons formats m ms in let r = layout-count ms in omega arith

  entries-length : (ms : List Mail) → length (joined (entry formats) ms) ≡ 3 * length ms
  entries-length [] = refl
  entries-length (m ∷ ms) = let r = entries-length ms in simp (length-append, length-entry) (omega arith)

  messages-read : (ms : List Mail) (rest : List ℕ) → length (layout formats ms) ≤ 65536
      → messages_text (layout formats ms ++ rest) ≡ joined (mail_text formats) ms
  unfolding layout
  messages-read ms rest h =
      let n : ℕ = length ms in
      let c = layout-count ms in
      let e = entries-length ms in
      let two : n / 256 % 256 * 256 + n % 256 ≡ n = two_bytes n (omega arith) in
      let s = append_assoc (joined (entry formats) ms) (joined (body formats) ms) rest in
      let out : List ℕ = layout formats ms ++ rest in
      let f : drop (2 + 3 * n) out ≡ joined (body formats) ms ++ rest =
      rw (← drop-drop (3 * n) 2 out, s) (drop_at (joined (entry formats) ms) (joined (body formats) ms ++ rest) (3 * n) e) in
      rw two (messages-laid out ms 0 (2 + 3 * n) (joined (body formats) ms ++ rest) rest s f h)

  -- the text of a step's output is the text of the messages sent
  outcome-read : (o : Outcome) (count : ℕ) (ms : List Mail) (old : List ℕ) → (o ≡ Done → length (layout formats ms) ≤ room)
      → outcome_text o count (messages_text (output formats o count ms old)) ≡ outcome_text o count (joined (mail_text formats) ms)
  unfolding outcome_text
  outcome-read Done count ms old f = ap (λ l. done_text count ++ l) (messages-read ms (drop count old) (f refl))
  outcome-read BadState count ms old f = refl
  outcome-read BadSlot count ms old f = refl
  outcome-read WrongTime count ms old f = refl
  outcome-read BadNumber count ms old f = refl
  outcome-read NoRoom count ms old f = refl

-- ---- a done step's output fits the room lent
abbrev Fits : Formats → ℕ → Stepped → Type 0
Fits formats n s = s.outcome ≡ Done → length (layout formats s.mails) ≤ n

abbrev is_done : Outcome → Bool
is_done Done = true
is_done BadState = false
is_done BadSlot = false
is_done WrongTime = false
is_done BadNumber = false
is_done NoRoom = false

module _ (n : ℕ) (h : Hub) where
  fits_refused : (o : Outcome) → is_done o ≡ false → Fits (format_at h) n (refused h o)
  unfolding refused
  fits_refused o f e = clash (ap is_done e) f

  fits-fitted : (x : Next) → Fits (format_at h) n (fitted h n x)
  unfolding fitted done
  fits-fitted x =
      cond-case (Fits (format_at h) n) (leb (length (layout (format_at h) x.mails)) n) _ _
      (λ t _. leb-true (length (layout (format_at h) x.mails)) n t) (λ _. fits_refused NoRoom refl)

  step_fits : (x : Step) → Fits (format_at h) n (step h x n)
  unfolding step
  step_fits x =
      cond-case (Fits (format_at h) n) (not (rules h)) _ _ (λ _. fits_refused BadState refl) λ _.
      cond-case (Fits (format_at h) n) (leb slots x.slot) _ _ (λ _. fits_refused BadSlot refl) λ _.
      cond-case (Fits (format_at h) n) (wrong_time x.event (phase_at h x.slot)) _ _ (λ _. fits_refused WrongTime refl) λ _.
      cond-case (Fits (format_at h) n) (bad_number h x.slot x.event x.bytes) _ _ (λ _. fits_refused BadNumber refl) λ _.
      fits-fitted (next h x.slot x.event x.bytes)

-- also on bytes, be they a state's or not
pub lent_fits : (s : List ℕ) (x : Step) (n : ℕ) → Fits (formats_on s) n (lent s x n)
unfolding lent
lent_fits s x n =
    cond-case (Fits (formats_on s) n) (load s).ok _ _ (λ _. step_fits n (load s).hub x) λ _. fits_refused n (load s).hub BadState refl

pub lent-read : (s : List ℕ) (x : Step) (old : List ℕ) → let t : Stepped = lent s x room in
    outcome_text t.outcome t.count (messages_text (written (formats_on s) t old))
    ≡ outcome_text t.outcome t.count (joined (mail_text (formats_on s)) t.mails)
lent-read s x old =
    let t : Stepped = lent s x room in outcome-read (formats_on s) t.outcome t.count t.mails old (lent_fits s x room)

-- ---- a message that is cut one byte past the longest is answered as it was
read-cut : (f : Format) (b : List ℕ) → read f (take 2049 b) ≡ read f b
unfolding read
read-cut f b = elim (dec_le (length b) 2049) [
  | yes h ↦ rw (take_all 2049 b h)
  | no h ↦ (
      let cut : length (take 2049 b) ≡ 2049 = length-take-le 2049 b (omega arith) in
      let long = lt-leb (length b) 2048 (omega arith) in
      let short = lt-leb (length (take 2049 b)) 2048 (omega arith) in
      rw (long, short, and-false (leb 1 (length b)) false refl, and-false (leb 1 (length (take 2049 b))) false refl)
      )
]

step_cut : (h : Hub) (slot number : ℕ) (b : List ℕ) (n : ℕ) → step h (given slot (Message number) (take 2049 b)) n ≡ step h (given slot (Message number) b) n
unfolding step bad_number next
step_cut h slot number b n = rw (read-cut (format_at h slot) b)

lent_cut : (s : List ℕ) (slot number : ℕ) (b : List ℕ) (n : ℕ) → lent s (given slot (Message number) (take 2049 b)) n ≡ lent s (given slot (Message number) b) n
unfolding lent
lent_cut s slot number b n = rw (step_cut (load s).hub slot number b n)

-- a line counts for at most one step
played-steps : (run : Run) (a : Action) → (played run a).steps ≤ run.steps + 1
unfolding played
played-steps run nothing = omega arith
played-steps run (steps x) = omega arith
played-steps run (stops reason) = omega arith

-- the step of a message that is cut
pub cut-played : (run : Run) (slot number : ℕ) (b : List ℕ)
    → played run (steps (given slot (Message number) (take 2049 b))) ≡ played run (steps (given slot (Message number) b))
unfolding played
cut-played run slot number b = rw (lent_cut run.state slot number b room)

pub cut-stepped : (run : Run) (slot number : ℕ) (b : List ℕ) → step_of run (given slot (Message number) (take 2049 b)) ≡ step_of run (given slot (Message number) b)
cut-stepped run slot number b = lent_cut run.state slot number b room

-- what stands in a buffer that was filled with the bytes that digits give
pub cut-text : (buffer digits left : List ℕ) (n : ℕ) → length buffer ≡ 2049 → n ≡ length (take (length buffer) (bytes_of digits))
    → left ≡ filled buffer (bytes_of digits) → part 0 n left ≡ take 2049 (bytes_of digits)
unfolding filled
cut-text buffer digits left n l e f =
    let z : n - 0 ≡ n = omega arith in
    let b = bytes_of digits in
    rw (z, f, ← l) (take_at (take (length buffer) b) (drop (length b) buffer) n (sym e))

pub counted : (run : Run) (a : Action) {r : Run} → r ≡ played run a → r.steps ≤ run.steps + 1
counted run a e = rw e (played-steps run a)
