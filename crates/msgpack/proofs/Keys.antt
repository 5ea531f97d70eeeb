-- Laws of specs/Keys.antt: the table of keys that the readers of one text share. Assumes nothing.
use Rattle.std.specs.Prelude.{Some, None, Option}
use mathlib.Core.Path.{◌≡◌, refl, sym, ap, subst, ◌∙◌}
use Prim.Native.Nat.{ℕ, zero, suc, ◌+◌, ◌-◌, ◌*◌, ◌%◌, ◌≤◌, ◌<◌}
use mathlib.Core.List.{List, [], ◌∷◌}
use mathlib.Core.Bool.{Bool, true, false, not, ◌||◌}
use native.Mathlib.Numerals.{add-one}
use native.Mathlib.Omega.{arith}
use native.Mathlib.Decide.{dec_lt, dec_le}
use lib.ListN.{length, get_or, drop, set, length-set, length-take, length-drop, drop_of_length-le}
use lib.Seq.{drop-cons, get_or-set_same, get_or-set_other, get_or-take, get_or-drop}
use lib.Dec.{eqb}
use borrow.Author.Tests.{eq-eqb, ne_eqb}
use Rattle.seq.specs.Lists.{every}
use Rattle.seq.specs.Bytes.{byte_at, part, same, among}
use Rattle.seq.proofs.Bytes.{same-ne}
use Rattle.seq.proofs.Logic.{clash, not_is}
use Rattle.seq.proofs.Lists.{every-at}
use Rattle.strings.specs.Places.{mark_from, mark_of}
use Rattle.json_text.specs.Keys.{Table, with_key as entered}
use Rattle.msgpack.specs.declared.Head.{Head}
use Rattle.msgpack.specs.Head.{str}
use Rattle.msgpack.specs.MsgPack.{with_key, again}
use Rattle.msgpack.specs.Keys.{Sized, key_at, texts, Entered, Kept, Noted, Outcome, Noting}

-- ---- a mark, byte by byte
pub mark-step : (t : List ℕ) (m i : ℕ) → i < length t → mark_from m (drop i t) ≡ mark_from ((m * 251 + byte_at t i) % 65536) (drop (i + 1) t)
unfolding mark_from
mark-step t m i h = rw (add-one, drop-cons t i 0 h)

pub mark-done : (t : List ℕ) (m i : ℕ) → length t ≤ i → mark_from m (drop i t) ≡ m
unfolding mark_from
mark-done t m i h = rw (drop_of_length-le t h)

-- ---- the keys of a map in the table, from place n up to z
pub texts-none : (s : List ℕ) (t : Table) (n : ℕ) → texts s t n (n - n) ≡ []
unfolding texts
texts-none s t n = let e : n - n ≡ 0 = omega arith in rw e

texts-last : (s : List ℕ) (t : Table) (n z : ℕ) → n < z → texts s t n (z - n) ≡ key_at s t (z - 1) ∷ texts s t n (z - 1 - n)
unfolding texts
texts-last s t n z h =
    let e : z - n ≡ suc (z - 1 - n) = omega arith in
    let f : n + (z - 1 - n) ≡ z - 1 = omega arith in
    rw (e, f)

-- the last key is looked at
module _ (x s : List ℕ) (t : Table) (n z : ℕ) (h : n < z) where
  pub seen_here : same (key_at s t (z - 1)) x ≡ true → among x (texts s t n (z - n)) ≡ true
  unfolding among
  seen_here e = rw (texts-last s t n z h, e)

  pub seen-there : same (key_at s t (z - 1)) x ≡ false → among x (texts s t n (z - n)) ≡ among x (texts s t n (z - 1 - n))
  unfolding among
  seen-there e = rw (texts-last s t n z h, e)

pub among_none : (x s : List ℕ) (t : Table) (n z : ℕ) → z ≤ n → among x (texts s t n (z - n)) ≡ false
unfolding among texts
among_none x s t n z h = let e : z - n ≡ 0 = omega arith in rw e

-- one of the first a keys is one of the first z
pub among-more : (x s : List ℕ) (t : Table) (n a z : ℕ) → n ≤ a → a ≤ z → among x (texts s t n (a - n)) ≡ true → among x (texts s t n (z - n)) ≡ true
unfolding among texts
among-more x s t n a z l u h = go (z - n) (a - n) (omega arith) h
  where
    either : (a : Bool) {b : Bool} → b ≡ true → (a || b) ≡ true
    either true e = refl
    either false e = e

    go : (m c : ℕ) → c ≤ m → among x (texts s t n c) ≡ true → among x (texts s t n m) ≡ true
    go zero zero u h = h
    go zero (suc c) u h = absurd (omega arith)
    go (suc m) c u h = elim (dec_le c m) [
      | yes k ↦ either (same (key_at s t (n + m)) x) (go m c k h)
      | no k ↦ let e : c ≡ suc m = omega arith in rw e at h
    ]

module _ (s x : List ℕ) (t : Table) (n z : ℕ) (g : Entered s t n z) (m : ℕ) (em : m ≡ mark_of x) where
  -- a key with another mark is another
  pub other-mark : (i : ℕ) → n ≤ i → i < z → (get_or t.marks i 0 ≡ m → ⊥) → same (key_at s t i) x ≡ false
  other-mark i l u h = same-ne _ _ (λ e. h (g i l u ∙ ap mark_of e ∙ sym em))

  -- a key whose mark is none of those there is new
  pub mark-new : n ≤ z → z ≤ length t.marks → every (λ y. not (eqb y m)) (part n z t.marks) ≡ true → among x (texts s t n (z - n)) ≡ false
  unfolding among texts
  mark-new l b h = go (z - n) (omega arith)
    where
      long : length (part n z t.marks) ≡ z - n
      long = rw (length-take (z - n) (drop n t.marks), length-drop n t.marks) (omega arith)

      differs : (c : ℕ) → c < z - n → get_or t.marks (n + c) 0 ≡ m → ⊥
      differs c u e =
          let same : eqb (get_or (part n z t.marks) c 0) m ≡ true =
          eq-eqb _ m (get_or-take (z - n) (drop n t.marks) c 0 u ∙ get_or-drop n t.marks c 0 ∙ e) in
          clash same (not_is (eqb (get_or (part n z t.marks) c 0) m) (every-at (λ y. not (eqb y m)) (part n z t.marks) 0 h c (omega (arith, long))))

      go : (c : ℕ) → n + c ≤ z → among x (texts s t n c) ≡ false
      go zero u = refl
      go (suc c) u = rw (other-mark (n + c) (omega arith) (omega arith) (differs c (omega arith))) (go c (omega arith))

-- what another reader leaves of the table
pub kept-none : (n : ℕ) (t : Table) → Kept n t t
kept-none n t = record { starts = λ i h. refl; ends = λ i h. refl; marks = λ i h. refl; sized = λ h. h }

pub kept_then : {n m : ℕ} {a b c : Table} → n ≤ m → Kept n a b → Kept m b c → Kept n a c
kept_then l p q = record {
  starts = λ i h. q.starts i (omega arith) ∙ p.starts i h;
  ends = λ i h. q.ends i (omega arith) ∙ p.ends i h;
  marks = λ i h. q.marks i (omega arith) ∙ p.marks i h;
  sized = λ h. q.sized (p.sized h);
}

pub entered-none : (s : List ℕ) (t : Table) (n : ℕ) → Entered s t n n
entered-none s t n i l u = absurd (omega arith)

key-kept : (s : List ℕ) (a b : Table) (z : ℕ) → Kept z a b → (i : ℕ) → i < z → key_at s b i ≡ key_at s a i
key-kept s a b z k i u = rw (k.starts i u, k.ends i u)

pub entered-kept : (s : List ℕ) (a b : Table) (n z : ℕ) → Kept z a b → Entered s a n z → Entered s b n z
entered-kept s a b n z k g i l u = k.marks i u ∙ g i l u ∙ ap mark_of (sym (key-kept s a b z k i u))

pub texts-kept : (s : List ℕ) (a b : Table) (n z : ℕ) → n ≤ z → Kept z a b → texts s b n (z - n) ≡ texts s a n (z - n)
unfolding texts
texts-kept s a b n z l k = go (z - n) (omega arith)
  where
    go : (c : ℕ) → n + c ≤ z → texts s b n c ≡ texts s a n c
    go zero u = refl
    go (suc c) u = rw (key-kept s a b z k (n + c) (omega arith), go c (omega arith))

-- one key more, which stands from k to q
pub with-sized : (t : Table) (z k q m : ℕ) → Sized t → Sized (entered t z k q m)
with-sized t z k q m h =
    (length-set t.starts z k ∙ h.0, length-set t.ends z q ∙ h.1, length-set t.marks z m ∙ h.2)

module _ (s : List ℕ) (t : Table) (n z k q m : ℕ) (size : Sized t) (l : n ≤ z) (lt : z < 1024) (mk : m ≡ mark_of (part k q s)) where
  with-kept : Kept z t (entered t z k q m)
  with-kept = record {
    starts = λ i h. get_or-set_other t.starts z i k 0 (λ e. omega arith);
    ends = λ i h. get_or-set_other t.ends z i q 0 (λ e. omega arith);
    marks = λ i h. get_or-set_other t.marks z i m 0 (λ e. omega arith);
    sized = with-sized t z k q m;
  }

  with-key-at : key_at s (entered t z k q m) z ≡ part k q s
  with-key-at =
      rw (get_or-set_same t.starts z k 0 (omega (arith, size.0)), get_or-set_same t.ends z q 0 (omega (arith, size.1)))

  with-entered : Entered s t n z → Entered s (entered t z k q m) n (z + 1)
  with-entered g i l u = elim (dec_lt i z) [
    | yes h ↦ entered-kept s t (entered t z k q m) n z with-kept g i l h
    | no h ↦ subst (λ (x : ℕ). get_or (set t.marks z m) x 0 ≡ mark_of (key_at s (entered t z k q m) x)) (last h) here
  ]
    where
      here : get_or (set t.marks z m) z 0 ≡ mark_of (key_at s (entered t z k q m) z)
      here = get_or-set_same t.marks z m 0 (omega (arith, size.2)) ∙ mk ∙ ap mark_of (sym with-key-at)

      last : (i < z → ⊥) → z ≡ i
      last h = omega arith

  with-texts : texts s (entered t z k q m) n (z + 1 - n) ≡ part k q s ∷ texts s t n (z - n)
  with-texts =
      let e : z + 1 - 1 ≡ z = omega arith in
      texts-last s (entered t z k q m) n (z + 1) (omega arith) ∙ rw (e, with-key-at, texts-kept s t (entered t z k q m) n z l with-kept)

-- ---- a key is noted
module _ (s : List ℕ) (h : Head) (e n z : ℕ) (t : Table) (l : n ≤ z) where
  -- a key that is no str
  pub noting-none : (h.kind ≡ str → ⊥) → Entered s t n z → Noting s h e n z t t (Some z)
  unfolding again with_key
  noting-none k g = record {
    so = record {
      fresh = rw (ne_eqb h.kind str k);
      keys = rw (ne_eqb h.kind str k);
      entered = g;
      least = omega arith;
      most = omega arith;
    };
  }

  module _ (k : h.kind ≡ str) where
    pub noting-again : among (part h.end e s) (texts s t n (z - n)) ≡ true → Noting s h e n z t t None
    unfolding again
    noting-again m = record { so = rw (k, m) }

    pub noting-key : (m : ℕ) (new : Table) → new ≡ entered t z h.end e m → Sized t → z < 1024 → m ≡ mark_of (part h.end e s) → Entered s t n z
        → among (part h.end e s) (texts s t n (z - n)) ≡ false → Noting s h e n z t new (Some (z + 1))
    unfolding again with_key
    noting-key m new en size lt mk g a = record {
      so = record {
        fresh = rw (k, a);
        keys = rw (en, k) (with-texts s t n z h.end e m size l lt mk);
        entered = subst (λ (x : Table). Entered s x n (z + 1)) (sym en) (with-entered s t n z h.end e m size l lt mk g);
        least = omega arith;
        most = omega arith;
      };
    }

pub entered-kept-all : (t new : Table) (z k q m : ℕ) → new ≡ entered t z k q m → Kept z t new
entered-kept-all t new z k q m e = subst (λ (x : Table). Kept z t x) (sym e) record {
  starts = λ i h. get_or-set_other t.starts z i k 0 (λ e. omega arith);
  ends = λ i h. get_or-set_other t.ends z i q 0 (λ e. omega arith);
  marks = λ i h. get_or-set_other t.marks z i m 0 (λ e. omega arith);
  sized = with-sized t z k q m;
}

-- ---- a turn of a map's loop, over the table `old` at the map's start: t before the key, a after it, b where it was noted, c after its value
module _ {n z : ℕ} {old t a : Table} (l : n ≤ z) (p : Kept n old t) (q : Kept z t a) where
  module _ {s : List ℕ} {h : Head} {e : ℕ} {b : Table} {r : Option ℕ} (w : Noting s h e n z a b r) where
    pub turn-again : r ≡ None → again s h e (texts s t n (z - n)) ≡ true
    turn-again x =
        ap (again s h e) (sym (texts-kept s t a n z l q)) ∙ subst (λ (y : Option ℕ). Outcome s h e n z a b y) x w.so

    module _ {k : ℕ} (x : r ≡ Some k) where
      turn-noted : Noted s h e n z a b k
      turn-noted = subst (λ (y : Option ℕ). Outcome s h e n z a b y) x w.so

      pub turn-room : (z ≤ k) × (k ≤ z + 1)
      turn-room = (turn-noted.least, turn-noted.most)

      pub turn-new : again s h e (texts s t n (z - n)) ≡ false
      turn-new = ap (again s h e) (sym (texts-kept s t a n z l q)) ∙ turn-noted.fresh

      module _ {c : Table} (o : Kept z a b) (v : Kept k b c) where
        pub turn-kept : Kept n old c
        turn-kept = let m = turn-noted.least in kept_then l p (kept_then (omega arith) q (kept_then m o v))

        pub turn-entered : Entered s c n k
        turn-entered = entered-kept s b c n k v turn-noted.entered

        pub turn-texts : texts s c n (k - n) ≡ with_key s h e (texts s t n (z - n))
        turn-texts =
            let m = turn-noted.least in
            texts-kept s b c n k (omega arith) v ∙ turn-noted.keys ∙ ap (with_key s h e) (texts-kept s t a n z l q)
