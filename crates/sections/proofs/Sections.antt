-- What messages put into sections, a loop over slots, and outputs that fit or do not. Assumes nothing.
use Rattle.std.specs.Prelude.{Some, None}
use Prim.Native.Nat.{ℕ, zero, suc, ◌+◌, ◌%◌, ◌≤◌, ◌<◌}
use mathlib.Core.Bool.{Bool, true, false}
use mathlib.Core.List.{List, [], ◌∷◌, ◌++◌, append_assoc, append-nil}
use mathlib.Core.Path.{◌≡◌, refl, sym, ap, ap₂, ◌∙◌}
use native.Mathlib.Nat.{zero-add}
use native.Mathlib.Numerals.{add-one}
use native.Mathlib.Omega.{arith}
use borrow.Author.Tests.{le-leb, lt-leb}
use denote.Enum.Bare.{sameb}
use lib.ListN.{length, take, get_or}
use Rattle.seq.specs.Bytes.{source}
use Rattle.seq.proofs.Logic.{clash}
use Rattle.seq.specs.contracts.Format.{the_type}
use Rattle.seq.specs.declared.Format.{Format}
use Rattle.seq.specs.declared.Format.TheVariants.{Json, MsgPack}
use Rattle.seq.specs.declared.PayloadSpans.{PayloadSpans}
use Rattle.conversion.specs.Converts.{other}
use Rattle.conversion.specs.Sources.{across, sources}
use Rattle.outgoing.specs.Outgoing.{render}
use Rattle.outgoing.specs.Layout.{be16}
use Rattle.replies.specs.Meaning.{details_of, message_of}
use Rattle.replies.specs.declared.Naming.{Naming}
use Rattle.replies.specs.declared.Naming.TheVariants.{Plain, Names}
use Rattle.replies.specs.declared.EventReply.{EventReply}
use Rattle.replies.specs.declared.Reply.TheVariants.{Event}
use Rattle.buffer.specs.Capped.{capped, largest}
use Rattle.buffer.proofs.Sums.{capped_is, capped-exact, sum_more, sum-turn}
use Rattle.buffer.proofs.Over.{over-fits, over-past}
use Rattle.buffer.proofs.Wrote.{Wrote, wrote, wrote_none, wrote-both}
use Rattle.writing.specs.Times.{repeated}
use Rattle.writing.proofs.Again.{repeated-add}
use Rattle.sections.specs.Sections.{put_in, put_to_each, event_in, added, event_adds, sizes, with_payload, one_output, outcome_bytes}
use Rattle.sections.specs.declared.Section.{Section}
use Rattle.sections.specs.declared.Section.TheVariants.{Entries, Bodies}

-- ---- a message in pieces, whose bytes are t
module _ (s : Section) (slot : ℕ) (t : List ℕ) (n : ℕ) (h : n ≡ capped (length t)) where
  pub in-entries : s ≡ Entries → slot % 256 ∷ be16 n ≡ put_in s slot t
  in-entries e = rw (e, h)

  pub in-bodies : s ≡ Bodies → t ≡ put_in s slot t
  in-bodies e = rw e

-- a body past the end of the bytes, of which only the length n is known: it is counted and leaves them
pub wrote-past : (t : List ℕ) (n : ℕ) → n ≡ capped (length t) → (l : List ℕ) (at : ℕ) {p : ℕ} → at ≤ largest → length l ≤ at
    → p ≡ capped (at + n) → Wrote l at t p l
wrote-past t n h l at f past e =
    record { ends = e ∙ sum-turn at n at (length t) (at + length t) (capped_is at f) h refl; leaves = sym (over-past l at t past) }

-- ---- a loop over slots
-- a message to slots 1 and 2 of three, computed: the lowest slot is first
order : put_to_each (λ j. put_in Entries j (9 ∷ 9 ∷ [])) 0 (false ∷ true ∷ true ∷ []) ≡ 1 ∷ 0 ∷ 2 ∷ 2 ∷ 0 ∷ 2 ∷ []
unfolding put_to_each capped
order = refl

module _ (gets : ℕ → List ℕ) where
  each_snoc : (k i : ℕ) (bs : List Bool) → i < length bs
      → put_to_each gets k (take (suc i) bs) ≡ put_to_each gets k (take i bs) ++ put_to_each gets (k + i) (get_or bs i false ∷ [])
  unfolding put_to_each
  each_snoc k i [] h = absurd (omega arith)
  each_snoc k zero (b ∷ bs) h = let q : k + 0 ≡ k = omega arith in rw q
  each_snoc k (suc i) (true ∷ bs) h =
      let q : suc k + i ≡ k + suc i = omega arith in
      ap (λ l. gets k ++ l) (rw q at (each_snoc (suc k) i bs (omega arith)))
      ∙ sym (append_assoc (gets k) (put_to_each gets (suc k) (take i bs)) (put_to_each gets (k + suc i) (get_or bs i false ∷ [])))
  each_snoc k (suc i) (false ∷ bs) h = let q : suc k + i ≡ k + suc i = omega arith in rw q at (each_snoc (suc k) i bs (omega arith))

  each-suc : (i : ℕ) (bs : List Bool) → i < length bs
      → put_to_each gets 0 (take (i + 1) bs) ≡ put_to_each gets 0 (take i bs) ++ put_to_each gets i (get_or bs i false ∷ [])
  each-suc i bs h = let q : 0 + i ≡ i = omega arith in rw add-one (rw q at (each_snoc 0 i bs h))

  each-one : (i : ℕ) (b : Bool) → b ≡ true → put_to_each gets i (b ∷ []) ≡ gets i
  unfolding put_to_each
  each-one i b q = rw q (append-nil (gets i))

  each_none : (i : ℕ) (b : Bool) → b ≡ false → put_to_each gets i (b ∷ []) ≡ []
  unfolding put_to_each
  each_none i b q = rw q

  -- before slot 0
  pub nobody-wrote : (l : List ℕ) (at : ℕ) → at ≤ largest → Wrote l at (put_to_each gets 0 []) at l
  unfolding put_to_each
  nobody-wrote l at h = wrote_none l at h

  module _ (bs : List Bool) (i : ℕ) (h : i < length bs) where
    -- a slot that is not of the set
    pub slot-skipped : get_or bs i false ≡ false → put_to_each gets 0 (take i bs) ≡ put_to_each gets 0 (take (i + 1) bs)
    slot-skipped n =
        sym (each-suc i bs h ∙ ap (λ l. put_to_each gets 0 (take i bs) ++ l) (each_none i (get_or bs i false) n)
        ∙ append-nil (put_to_each gets 0 (take i bs)))

    -- a slot of the set
    slot-more : get_or bs i false ≡ true → put_to_each gets 0 (take i bs) ++ gets i ≡ put_to_each gets 0 (take (i + 1) bs)
    slot-more y = sym (each-suc i bs h ∙ ap (λ l. put_to_each gets 0 (take i bs) ++ l) (each-one i (get_or bs i false) y))

    pub slot_turn : get_or bs i false ≡ true → (t : List ℕ) → t ≡ gets i → {l m k : List ℕ} {at o p : ℕ} → length l ≤ largest
        → Wrote l at (put_to_each gets 0 (take i bs)) o m → Wrote m o t p k → Wrote l at (put_to_each gets 0 (take (i + 1) bs)) p k
    slot_turn y t e f w v = wrote-both (slot-more y) f w (wrote e v)

    -- a slot of the set that gets nothing
    pub slot-passed : get_or bs i false ≡ true → [] ≡ gets i → put_to_each gets 0 (take i bs) ≡ put_to_each gets 0 (take (i + 1) bs)
    slot-passed y e =
        sym (append-nil (put_to_each gets 0 (take i bs))) ∙ ap (λ l. put_to_each gets 0 (take i bs) ++ l) e ∙ slot-more y

-- by functions that agree
pub each_same : (f g : ℕ → List ℕ) → ((j : ℕ) → f j ≡ g j) → (i : ℕ) (bs : List Bool) → put_to_each f i bs ≡ put_to_each g i bs
unfolding put_to_each
each_same f g e i [] = refl
each_same f g e i (true ∷ bs) = ap₂ ◌++◌ (e i) (each_same f g e (suc i) bs)
each_same f g e i (false ∷ bs) = each_same f g e (suc i) bs

-- ---- formats that are one, or are not
-- what `==` answers
pub same-is : {r : Bool} (f g : Format) → r ≡ sameb the_type f g → r ≡ across f g true false
same-is Json Json e = e
same-is MsgPack MsgPack e = e
same-is Json MsgPack e = e
same-is MsgPack Json e = e

module _ {A : Type 0} (a b : A) where
  pub same_taken : (f g : Format) → across f g true false ≡ true → a ≡ across f g a b
  same_taken Json Json y = refl
  same_taken MsgPack MsgPack y = refl
  same_taken Json MsgPack y = clash y refl
  same_taken MsgPack Json y = clash y refl

  pub same_left : (f g : Format) → across f g true false ≡ false → b ≡ across f g a b
  same_left Json Json y = clash refl y
  same_left MsgPack MsgPack y = clash refl y
  same_left Json MsgPack y = refl
  same_left MsgPack Json y = refl

-- ---- an event to a slot of the format g, of a message in the format f
named : (a b text : List ℕ) (d : Naming) → details_of (source a text) d ≡ details_of (source b text) d
named a b text Plain = refl
named a b text Names = refl

module _ (s : Section) (message converted text : List ℕ) (e : EventReply) (slot : ℕ) where
  -- the event's bytes within the format, and across
  abbrev pub own : Format → List ℕ
  own f = put_in s slot (render f (message_of (source message text) (Event e)))

  abbrev pub far : Format → PayloadSpans → List ℕ
  far f p = put_in s slot (render (other f) (message_of (source converted text) (Event (with_payload e p))))

  pub event-within : (f g : Format) → across f g (own f) [] ≡ event_in s (λ _. g) (sources f message converted text) e None slot
  unfolding message_of
  event-within Json Json = refl
  event-within MsgPack MsgPack = refl
  event-within Json MsgPack = refl
  event-within MsgPack Json = refl

  pub event-across : (f g : Format) (p : PayloadSpans)
      → across f g (own f) (far f p) ≡ event_in s (λ _. g) (sources f message converted text) e (Some p) slot
  unfolding message_of
  event-across Json Json p = refl
  event-across MsgPack MsgPack p = refl
  event-across Json MsgPack p = rw (named converted message text e.details)
  event-across MsgPack Json p = rw (named converted message text e.details)

-- ---- sizes
module _ (size : ℕ → ℕ) where
  sizes-snoc : (k i : ℕ) (bs : List Bool) → i < length bs
      → sizes size k (take (suc i) bs) ≡ sizes size k (take i bs) + sizes size (k + i) (get_or bs i false ∷ [])
  unfolding sizes
  sizes-snoc k i [] h = absurd (omega arith)
  sizes-snoc k zero (b ∷ bs) h = let q : k + 0 ≡ k = omega arith in rw q (sym (zero-add (sizes size k (b ∷ []))))
  sizes-snoc k (suc i) (true ∷ bs) h =
      let q : suc k + i ≡ k + suc i = omega arith in
      let r = rw q at (sizes-snoc (suc k) i bs (omega arith)) in
      omega (arith, r)
  sizes-snoc k (suc i) (false ∷ bs) h = let q : suc k + i ≡ k + suc i = omega arith in rw q at (sizes-snoc (suc k) i bs (omega arith))

  sizes-suc : (i : ℕ) (bs : List Bool) → i < length bs
      → sizes size 0 (take (i + 1) bs) ≡ sizes size 0 (take i bs) + sizes size i (get_or bs i false ∷ [])
  sizes-suc i bs h = let q : 0 + i ≡ i = omega arith in rw add-one (rw q at (sizes-snoc 0 i bs h))

  -- before slot 0
  pub sizes-none : (at : ℕ) → at ≤ largest → at ≡ capped (at + sizes size 0 [])
  unfolding sizes
  sizes-none at h = let e : at ≡ at + 0 = omega arith in capped_is at h ∙ ap capped e

  module _ (bs : List Bool) (i : ℕ) (h : i < length bs) (at o : ℕ) (w : o ≡ capped (at + sizes size 0 (take i bs))) where
    -- a slot that is not of the set
    pub size-skipped : get_or bs i false ≡ false → o ≡ capped (at + sizes size 0 (take (i + 1) bs))
    unfolding sizes
    size-skipped n =
        let e : sizes size i (get_or bs i false ∷ []) ≡ 0 = rw n in
        let d = sizes-suc i bs h in
        let q : at + sizes size 0 (take i bs) ≡ at + sizes size 0 (take (i + 1) bs) = omega arith in
        w ∙ ap capped q

    -- a slot of the set
    pub size-turn : get_or bs i false ≡ true → (k p : ℕ) → k ≡ size i → p ≡ capped (o + k) → p ≡ capped (at + sizes size 0 (take (i + 1) bs))
    unfolding sizes
    size-turn y k p e r =
        let u : sizes size i (get_or bs i false ∷ []) ≡ size i + 0 = rw y in
        let d = sizes-suc i bs h in
        r ∙ sum_more o k (at + sizes size 0 (take i bs)) (at + sizes size 0 (take (i + 1) bs)) w (omega arith)

    -- a slot of the set that gets nothing
    pub size-passed : get_or bs i false ≡ true → 0 ≡ size i → o ≡ capped (at + sizes size 0 (take (i + 1) bs))
    unfolding sizes
    size-passed y e =
        let u : sizes size i (get_or bs i false ∷ []) ≡ size i + 0 = rw y in
        let d = sizes-suc i bs h in
        let q : at + sizes size 0 (take i bs) ≡ at + sizes size 0 (take (i + 1) bs) = omega arith in
        w ∙ ap capped q

-- sizes that stop at the largest number
pub sizes-each : (f g : ℕ → ℕ) → ((j : ℕ) → f j ≡ capped (g j)) → (i : ℕ) (bs : List Bool) (a : ℕ)
    → capped (a + sizes f i bs) ≡ capped (a + sizes g i bs)
unfolding sizes
sizes-each f g e i [] a = refl
sizes-each f g e i (true ∷ bs) a =
    let p = sizes g (suc i) bs in
    let q : a + (f i + sizes f (suc i) bs) ≡ (a + f i) + sizes f (suc i) bs = omega arith in
    let r : (a + f i) + p ≡ f i + (a + p) = omega arith in
    ap capped q ∙ sizes-each f g e (suc i) bs (a + f i) ∙ ap capped r
    ∙ sum_more (f i) (a + p) (g i) (a + (g i + p)) (e i) (omega arith)
sizes-each f g e i (false ∷ bs) a = sizes-each f g e (suc i) bs a

-- in two parts
pub sizes-parts : (f g h : ℕ → ℕ) → ((j : ℕ) → h j ≡ f j + g j) → (i : ℕ) (bs : List Bool) → sizes h i bs ≡ sizes f i bs + sizes g i bs
unfolding sizes
sizes-parts f g h e i [] = refl
sizes-parts f g h e i (true ∷ bs) =
    let r = sizes-parts f g h e (suc i) bs in
    let q = e i in
    omega arith
sizes-parts f g h e i (false ∷ bs) = sizes-parts f g h e (suc i) bs

-- ---- the same bytes for each slot of a format
-- each slot of a set gets t as often as it counts
each-times : (t : List ℕ) (count : ℕ → ℕ) (gets : ℕ → List ℕ) → ((j : ℕ) → repeated (count j) t ≡ gets j)
    → (i : ℕ) (bs : List Bool) → repeated (sizes count i bs) t ≡ put_to_each gets i bs
unfolding repeated put_to_each sizes
each-times t count gets e i [] = refl
each-times t count gets e i (true ∷ bs) =
    repeated-add (count i) (sizes count (suc i) bs) t ∙ ap₂ ◌++◌ (e i) (each-times t count gets e (suc i) bs)
each-times t count gets e i (false ∷ bs) = each-times t count gets e (suc i) bs

-- a count of slots, which stays below the largest number
sizes-few : (size : ℕ → ℕ) → ((j : ℕ) → size j ≤ 1) → (i : ℕ) (bs : List Bool) → sizes size i bs ≤ length bs
unfolding sizes
sizes-few size e i [] = omega arith
sizes-few size e i (true ∷ bs) = let q = sizes-few size e (suc i) bs in let r = e i in omega arith
sizes-few size e i (false ∷ bs) = let q = sizes-few size e (suc i) bs in omega arith

pub counted-few : (size : ℕ → ℕ) → ((j : ℕ) → size j ≤ 1) → (bs : List Bool) → length bs ≡ 8 → (k : ℕ) → k ≡ capped (0 + sizes size 0 bs)
    → k ≡ sizes size 0 bs
counted-few size e bs h k q =
    let r = sizes-few size e 0 bs in
    let z : 0 + sizes size 0 bs ≡ sizes size 0 bs = omega arith in
    q ∙ ap capped z ∙ sym (capped_is (sizes size 0 bs) (omega arith))

module _ (t : List ℕ) where
  near_times : (f g : Format) → repeated (across f g 1 0) t ≡ across f g t []
  unfolding repeated
  near_times Json Json = append-nil t
  near_times MsgPack MsgPack = append-nil t
  near_times Json MsgPack = refl
  near_times MsgPack Json = refl

pub near-few : (f g : Format) → across f g 1 0 ≤ 1
near-few Json Json = omega arith
near-few MsgPack MsgPack = omega arith
near-few Json MsgPack = omega arith
near-few MsgPack Json = omega arith

pub each-near : (t : List ℕ) (f : Format) (g : ℕ → Format) (bs : List Bool)
    → repeated (sizes (λ j. across f (g j) 1 0) 0 bs) t ≡ put_to_each (λ j. across f (g j) t []) 0 bs
each-near t f g bs = each-times t _ _ (λ j. near_times t f (g j)) 0 bs

-- ---- an event to a set where one format alone is spoken, or where one is not
module _ (away : ℕ → ℕ) where
  -- by functions that agree on the slots that do not count as away, where none of the set does
  pub each-alike : (f g : ℕ → List ℕ) → ((j : ℕ) → away j ≡ 0 → f j ≡ g j) → (i : ℕ) (bs : List Bool) → sizes away i bs ≡ 0
      → put_to_each f i bs ≡ put_to_each g i bs
  unfolding put_to_each sizes
  each-alike f g e i [] h = refl
  each-alike f g e i (true ∷ bs) h = ap₂ ◌++◌ (e i (omega arith)) (each-alike f g e (suc i) bs (omega arith))
  each-alike f g e i (false ∷ bs) h = each-alike f g e (suc i) bs h

  -- what adds nothing for those slots
  pub sizes-away : (f : ℕ → ℕ) → ((j : ℕ) → away j ≡ 0 → f j ≡ 0) → (i : ℕ) (bs : List Bool) → sizes away i bs ≡ 0 → sizes f i bs ≡ 0
  unfolding sizes
  sizes-away f e i [] h = refl
  sizes-away f e i (true ∷ bs) h =
      let r = sizes-away f e (suc i) bs (omega arith) in
      let q = e i (omega arith) in
      omega arith
  sizes-away f e i (false ∷ bs) h = sizes-away f e (suc i) bs h

module _ (s : Section) (message converted text : List ℕ) (e : EventReply) (slot : ℕ) where
  -- of a message in the format f for a slot of the format g: the event as it came, and with the payload p in the other format
  abbrev pub as_it_came : Format → Format → List ℕ
  as_it_came f g = event_in s (λ _. g) (sources f message [] text) e None slot

  abbrev pub turned : Format → Format → PayloadSpans → List ℕ
  turned f g p = event_in s (λ _. g) (sources (other f) converted [] text) (with_payload e p) None slot

  abbrev either : Format → Format → PayloadSpans → List ℕ
  either f g p = event_in s (λ _. g) (sources f message converted text) e (Some p) slot

  pub alone-near : (f g : Format) (p : PayloadSpans) → ◌≡◌ {A = ℕ} (across (other f) g 1 0) 0 → as_it_came f g ≡ either f g p
  alone-near Json Json p h = refl
  alone-near MsgPack MsgPack p h = refl
  alone-near Json MsgPack p h = absurd (omega arith)
  alone-near MsgPack Json p h = absurd (omega arith)

  pub alone-far : (f g : Format) (p : PayloadSpans) → ◌≡◌ {A = ℕ} (across f g 1 0) 0 → turned f g p ≡ either f g p
  alone-far Json Json p h = absurd (omega arith)
  alone-far MsgPack MsgPack p h = absurd (omega arith)
  alone-far Json MsgPack p h =
      sym (event-within s converted [] text (with_payload e p) slot MsgPack MsgPack) ∙ event-across s message converted text e slot Json MsgPack p
  alone-far MsgPack Json p h =
      sym (event-within s converted [] text (with_payload e p) slot Json Json) ∙ event-across s message converted text e slot MsgPack Json p

-- ---- what an event of a message in the format f adds for a slot of the format g
module _ (message converted text : List ℕ) (e : EventReply) (slot : ℕ) where
  abbrev adds : Format → Format → ℕ
  adds f g = event_adds (λ _. g) (sources f message [] text) e None slot

  pub not-near : (f g : Format) → ◌≡◌ {A = ℕ} (across f g 1 0) 0 → adds f g ≡ 0
  not-near Json Json h = absurd (omega arith)
  not-near MsgPack MsgPack h = absurd (omega arith)
  not-near Json MsgPack h = refl
  not-near MsgPack Json h = refl

  -- as it came, or with the payload p in the other format
  pub one-part : (f g : Format) (p : PayloadSpans)
      → event_adds (λ _. g) (sources f message converted text) e (Some p) slot
      ≡ adds f g + event_adds (λ _. g) (sources (other f) converted [] text) (with_payload e p) None slot
  one-part Json Json p = omega arith
  one-part MsgPack MsgPack p = omega arith
  one-part Json MsgPack p = rw (named converted message text e.details) (omega arith)
  one-part MsgPack Json p = rw (named converted message text e.details) (omega arith)

  pub event-size : (size : ℕ) (f g : Format) → size ≡ capped (added (render f (message_of (source message text) (Event e))))
      → across f g size 0 ≡ capped (adds f g)
  unfolding message_of
  event-size size Json Json q = q
  event-size size MsgPack MsgPack q = q
  event-size size Json MsgPack q = capped_is 0 (omega arith)
  event-size size MsgPack Json q = capped_is 0 (omega arith)

-- ---- an output, where it fits and where it does not
pub bytes-done : (new old left : List ℕ) (o : ℕ) → length new ≤ length old → Wrote old 0 new o left → left ≡ outcome_bytes new old
bytes-done new old left o h w = rw (le-leb (length new) (length old) h) (w.leaves ∙ over-fits old new h)

pub bytes-none : (new old : List ℕ) → length old < length new → old ≡ outcome_bytes new old
bytes-none new old h = rw (lt-leb (length new) (length old) h)

-- one message alone, with the bytes t
pub one_size : (slot len : ℕ) (t : List ℕ) → len ≡ capped (length t) → capped (5 + len) ≡ capped (length (one_output slot t))
one_size slot len t p =
    sum-turn 5 len 5 (length t) (length (one_output slot t)) (capped_is 5 (omega arith)) p (omega arith)

pub one-exact : (len k n : ℕ) → len ≡ capped n → k ≡ capped (5 + len) → k < largest → (len ≡ n) × (k ≡ 5 + n)
one-exact len k n p q h =
    let e = capped-exact (5 + len) k q h in
    let d = capped-exact n len p (omega arith) in
    (d, omega arith)
