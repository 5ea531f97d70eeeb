-- Laws of specs/Json.antt: one step of each reader. Assumes nothing.
use Rattle.std.specs.Prelude.{Some, None, Option}
use mathlib.Core.Path.{◌≡◌, refl, sym, ap, subst, ◌∙◌}
use Prim.Native.Nat.{ℕ, zero, suc, ◌+◌, ◌*◌, ◌-◌, ◌≤◌, ◌<◌}
use mathlib.Core.List.{List, [], ◌∷◌}
use mathlib.Core.Bool.{Bool, true, false, not, cond, ◌||◌}
use native.Mathlib.Omega.{arith}
use native.Mathlib.Decide.{dec_lt, dec_le}
use lib.ListN.{length, get_or, drop, set, length-set, length-take, length-drop}
use lib.Seq.{get_or-set_same, get_or-set_other, get_or-take, get_or-drop}
use lib.Dec.{eqb}
use borrow.Author.Tests.{le-leb, lt-leb, eq-eqb, ne_eqb}
use Rattle.lex.specs.declared.Mark.{Mark}
use Rattle.lex.specs.declared.Mark.TheVariants.{Item, End, Neither}
use Rattle.seq.specs.Lists.{every}
use Rattle.seq.specs.Bytes.{chars, byte_at, part, same, among}
use Rattle.seq.proofs.Bytes.{same-eq, same-ne}
use Rattle.seq.proofs.Logic.{clash, cond_same, not_is}
use Rattle.seq.proofs.Lists.{every-at}
use Rattle.lex.specs.Lex.{space, first, next, quoted, colon, number, Marked}
use Rattle.json_text.specs.Json.{literal, follow, series, enclosed, key_from, members, braced, by_first, value, list, dict}
use Rattle.json_text.specs.Json.{max_bytes, max_depth, value_at, is_text}
use Rattle.strings.specs.Places.{mark_of}
use Rattle.json_text.specs.Keys.{Table, Sized, key_at, texts, with_key, Entered, Kept}

down : (k : ℕ) → suc k - 1 ≡ k
down k = omega arith

-- ---- a value by its first byte b
value-first : (d : ℕ) (s : List ℕ) (i : ℕ) → value d s i ≡ by_first (list d s (i + 1)) (dict d s (i + 1)) s i
unfolding value list dict
value-first zero s i = refl
value-first (suc d) s i = refl

module _ (d : ℕ) (s : List ℕ) (i b : ℕ) (eb : b ≡ byte_at s i) where
  by : {r : Option ℕ} → by_first (list d s (i + 1)) (dict d s (i + 1)) s i ≡ r → value d s i ≡ r
  by e = value-first d s i ∙ e

  pub value-string : b ≡ 34 → value d s i ≡ quoted s i
  unfolding by_first
  value-string h = by (rw (sym eb, h))

  pub value-list : b ≡ 91 → value d s i ≡ list d s (i + 1)
  unfolding by_first
  value-list h = by (rw (sym eb, h))

  pub value-dict : b ≡ 123 → value d s i ≡ dict d s (i + 1)
  unfolding by_first
  value-dict h = by (rw (sym eb, h))

  pub value-minus : b ≡ 45 → value d s i ≡ number s i
  unfolding by_first
  value-minus h = by (rw (sym eb, h))

  pub value-digit : 48 ≤ b → b ≤ 57 → value d s i ≡ number s i
  unfolding by_first
  value-digit h k = by (rw (
    sym eb,
    ne_eqb b 34 (omega arith),
    ne_eqb b 91 (omega arith),
    ne_eqb b 123 (omega arith),
    ne_eqb b 45 (omega arith),
    le-leb 48 b h,
    le-leb b 57 k,
  ))

  pub value-true : b ≡ 116 → value d s i ≡ literal (chars "true") s i
  unfolding by_first
  value-true h = by (rw (sym eb, h))

  pub value-false : b ≡ 102 → value d s i ≡ literal (chars "false") s i
  unfolding by_first
  value-false h = by (rw (sym eb, h))

  pub value-null : b ≡ 110 → value d s i ≡ literal (chars "null") s i
  unfolding by_first
  value-null h = by (rw (sym eb, h))

  -- a value that opens neither a list nor a dict is one of depth 0
  pub value-flat : (b ≡ 91 → ⊥) → (b ≡ 123 → ⊥) → value d s i ≡ value 0 s i
  unfolding value by_first
  value-flat l m = by (rw (sym eb, ne_eqb b 91 l, ne_eqb b 123 m))

-- a list or dict is no value of depth 0
pub flat-list : (s : List ℕ) (i b : ℕ) → b ≡ byte_at s i → b ≡ 91 → value 0 s i ≡ None
unfolding value by_first
flat-list s i b eb h = rw (sym eb, h)

pub flat-dict : (s : List ℕ) (i b : ℕ) → b ≡ byte_at s i → b ≡ 123 → value 0 s i ≡ None
unfolding value by_first
flat-dict s i b eb h = rw (sym eb, h)

-- no value of depth 0 starts so
module _ (s : List ℕ) (i b : ℕ) (eb : b ≡ byte_at s i) (q : b ≡ 34 → ⊥) (n : b ≡ 45 → ⊥) (tr : b ≡ 116 → ⊥) (fa : b ≡ 102 → ⊥) (nu : b ≡ 110 → ⊥) where
  opens-none : (t u : Bool) → cond {A = Option ℕ} t None (cond u None None) ≡ None
  opens-none t u = ap (λ (x : Option ℕ). cond t None x) (cond_same {A = Option ℕ} u None) ∙ cond_same {A = Option ℕ} t None

  pub value-below : b < 48 → value 0 s i ≡ None
  unfolding value by_first
  value-below h = rw (
    sym eb,
    ne_eqb b 34 q,
    ne_eqb b 45 n,
    lt-leb 48 b h,
    ne_eqb b 116 tr,
    ne_eqb b 102 fa,
    ne_eqb b 110 nu,
  ) (opens-none (eqb b 91) (eqb b 123))

  pub value-above : 57 < b → value 0 s i ≡ None
  unfolding value by_first
  value-above h = rw (
    sym eb,
    ne_eqb b 34 q,
    ne_eqb b 45 n,
    le-leb 48 b (omega arith),
    lt-leb b 57 h,
    ne_eqb b 116 tr,
    ne_eqb b 102 fa,
    ne_eqb b 110 nu,
  ) (opens-none (eqb b 91) (eqb b 123))

-- ---- a whole text
pub at_long : (d : ℕ) (s : List ℕ) (i : ℕ) → max_bytes < length s → value_at d s i ≡ None
unfolding value_at
at_long d s i h = rw (lt-leb (length s) max_bytes h)

pub at-short : (d : ℕ) (s : List ℕ) (i : ℕ) → length s ≤ max_bytes → value_at d s i ≡ value d s i
unfolding value_at
at-short d s i h = rw (le-leb (length s) max_bytes h)

module _ (s : List ℕ) (i : ℕ) (ei : i ≡ space s 0) where
  pub text-not : value_at max_depth s i ≡ None → is_text s ≡ false
  unfolding is_text
  text-not h = rw (sym ei, h)

  pub text-is : (e : ℕ) → value_at max_depth s i ≡ Some e → is_text s ≡ eqb (space s e) (length s)
  unfolding is_text
  text-is e h = rw (sym ei, h)

-- ---- a literal name: e is where it would end
module _ (w s : List ℕ) (i e : ℕ) (he : e ≡ i + length w) where
  pub literal-is : same (part i e s) w ≡ true → literal w s i ≡ Some e
  unfolding literal
  literal-is h = rw (sym he, h)

  pub literal-not : same (part i e s) w ≡ false → literal w s i ≡ None
  unfolding literal
  literal-not h = rw (sym he, h)

  pub literal-in : same (part i e s) w ≡ true → i ≤ length s → e ≤ length s
  literal-in h l = omega (arith, simp (length-take, length-drop) at (ap length (same-eq (part i e s) w h)))

-- ---- lists and dicts
pub list-deep : (d : ℕ) (s : List ℕ) (i : ℕ) → d ≡ 0 → list d s i ≡ None
unfolding list
list-deep zero s i e = refl
list-deep (suc d) s i e = absurd (omega arith)

pub dict-deep : (d : ℕ) (s : List ℕ) (i : ℕ) → d ≡ 0 → dict d s i ≡ None
unfolding dict
dict-deep zero s i e = refl
dict-deep (suc d) s i e = absurd (omega arith)

pub list-opens : (d : ℕ) (s : List ℕ) (i : ℕ) → (d ≡ 0 → ⊥) → follow (first 93 s i) (series (value (d - 1) s) 93 (length s) s) ≡ list d s i
unfolding list enclosed
list-opens zero s i h = absurd (h refl)
list-opens (suc d) s i h = rw (down d)

pub dict-opens : (d : ℕ) (s : List ℕ) (i : ℕ) → (d ≡ 0 → ⊥) → follow (first 125 s i) (members (value (d - 1) s) [] (length s) s) ≡ dict d s i
unfolding dict braced
dict-opens zero s i h = absurd (h refl)
dict-opens (suc d) s i h = rw (down d)

pub dict-empty : (d : ℕ) (s : List ℕ) (i e : ℕ) (m : Mark) → (d ≡ 0 → ⊥) → m ≡ first 125 s i → m ≡ End e → Some e ≡ dict d s i
dict-empty d s i e m h f k = ap (λ (x : Mark). follow x (members (value (d - 1) s) [] (length s) s)) (sym k ∙ f) ∙ dict-opens d s i h

-- ---- a turn of the loop: m is the mark, f the fuel
abbrev pub Fuel : ℕ → ℕ → Mark → Type 0
Fuel f n (Item a) = n ≤ f + a
Fuel f n (End e) = Unit {0}
Fuel f n Neither = Unit {0}

-- from the mark m on the answer is r
abbrev pub Reads : (ℕ → Option ℕ) → ℕ → List ℕ → Mark → Option ℕ → Type 0
Reads item close s m r = (f : ℕ) × (follow m (series item close f s) ≡ r) × Fuel f (length s) m

-- what the loop's measure counts
abbrev pub left : ℕ → Mark → ℕ
left n (Item a) = suc (n - a)
left n (End e) = 0
left n Neither = 0

module _ (item : ℕ → Option ℕ) (close : ℕ) (s : List ℕ) where
  pub begins : (m : Mark) (r : Option ℕ) (i : ℕ) → m ≡ first close s i → follow (first close s i) (series item close (length s) s) ≡ r → Reads
      item close s m r
  begins m r i e h = (length s, ap (λ (x : Mark). follow x (series item close (length s) s)) e ∙ h, full m)
    where
      full : (x : Mark) → Fuel (length s) (length s) x
      full (Item a) = omega arith
      full (End e) = tt
      full Neither = tt

  pub ends : (m : Mark) (r : Option ℕ) (e : ℕ) → m ≡ End e → Reads item close s m r → Some e ≡ r
  ends m r e h (f, q, u) = ap (λ (x : Mark). follow x (series item close f s)) (sym h) ∙ q

  pub breaks : (m : Mark) (r : Option ℕ) → m ≡ Neither → Reads item close s m r → None ≡ r
  breaks m r h (f, q, u) = ap (λ (x : Mark). follow x (series item close f s)) (sym h) ∙ q

  series-bad : (f a : ℕ) → item a ≡ None → series item close f s a ≡ None
  unfolding series
  series-bad zero a h = refl
  series-bad (suc f) a h = rw h

  pub fails : (m : Mark) (r : Option ℕ) (a : ℕ) → m ≡ Item a → item a ≡ None → Reads item close s m r → None ≡ r
  fails m r a h b (f, q, u) = sym (series-bad f a b) ∙ ap (λ (x : Mark). follow x (series item close f s)) (sym h) ∙ q

  series-go : (f a e : ℕ) → item a ≡ Some e → a < e → e ≤ length s → length s ≤ f + a → (m : Mark) → m ≡ next close s e → Marked e (length s) m
      → (g : ℕ) × (series item close f s a ≡ follow m (series item close g s)) × Fuel g (length s) m
  unfolding series
  series-go zero a e h lt le u m n k = absurd (omega arith)
  series-go (suc f) a e h lt le u m n k = (f, rw (h, sym n), fuel m k)
    where
      fuel : (x : Mark) → Marked e (length s) x → Fuel f (length s) x
      fuel (Item b) w = omega arith
      fuel (End b) w = tt
      fuel Neither w = tt

  pub goes : (m m' : Mark) (r : Option ℕ) (a e : ℕ) → m ≡ Item a → item a ≡ Some e → (a < e) × (e ≤ length s) → m' ≡ next close s e → Marked e
      (length s) m' → Reads item close s m r → Reads item close s m' r
  goes m m' r a e h b w n k (f, q, u) =
      let u' : length s ≤ f + a = subst (λ (x : Mark). Fuel f (length s) x) h u in
      let g = series-go f a e b w.0 w.1 u' m' n k in
      (g.0, sym g.1 ∙ ap (λ (x : Mark). follow x (series item close f s)) (sym h) ∙ q, g.2)

-- the measure falls over a turn, and the next mark is not before the list's start
pub falls-mark : (n : ℕ) (m m' : Mark) (a e : ℕ) → m ≡ Item a → (a < e) × (e ≤ n) → Marked e n m' → left n m' < left n m
falls-mark n m m' a e h w k = subst (λ (x : Mark). left n m' < left n x) (sym h) (go m' k)
  where
    go : (x : Mark) → Marked e n x → left n x < suc (n - a)
    go (Item b) k = omega arith
    go (End b) k = omega arith
    go Neither k = omega arith

pub marked_from : (i n : ℕ) (m : Mark) (e : ℕ) → i ≤ e → Marked e n m → Marked i n m
marked_from i n (Item b) e h k = omega arith
marked_from i n (End b) e h k = omega arith
marked_from i n Neither e h k = tt

pub marked-item : (i n : ℕ) (m : Mark) {a : ℕ} → m ≡ Item a → Marked i n m → i ≤ a
marked-item i n m h k = subst (λ (x : Mark). Marked i n x) h k

pub marked-end : (i n : ℕ) (m : Mark) {e : ℕ} → m ≡ End e → Marked i n m → (i < e) × (e ≤ n)
marked-end i n m h k = subst (λ (x : Mark). Marked i n x) h k

-- ---- the same for a dict, whose keys so far are `seen`
abbrev pub MReads : (ℕ → Option ℕ) → List ℕ → List (List ℕ) → Mark → Option ℕ → Type 0
MReads v s seen m r = (f : ℕ) × (follow m (members v seen f s) ≡ r) × Fuel f (length s) m

-- each member has 4 bytes or more
abbrev pub Room : ℕ → Mark → Type 0
Room n (Item a) = 4 * n ≤ a
Room n (End e) = Unit {0}
Room n Neither = Unit {0}

module _ (v : ℕ → Option ℕ) (s : List ℕ) (seen : List (List ℕ)) where
  pub d-ends : (m : Mark) (r : Option ℕ) (e : ℕ) → m ≡ End e → MReads v s seen m r → Some e ≡ r
  d-ends m r e h (f, q, u) = ap (λ (x : Mark). follow x (members v seen f s)) (sym h) ∙ q

  pub d-breaks : (m : Mark) (r : Option ℕ) → m ≡ Neither → MReads v s seen m r → None ≡ r
  d-breaks m r h (f, q, u) = ap (λ (x : Mark). follow x (members v seen f s)) (sym h) ∙ q

  pub d-fails : (m : Mark) (r : Option ℕ) (k : ℕ) → m ≡ Item k → ((f : ℕ) → members v seen f s k ≡ None) → MReads v s seen m r → None ≡ r
  d-fails m r k h b (f, q, u) = sym (b f) ∙ ap (λ (x : Mark). follow x (members v seen f s)) (sym h) ∙ q

  pub no_key : (k : ℕ) → quoted s k ≡ None → (f : ℕ) → members v seen f s k ≡ None
  unfolding members
  no_key k h zero = refl
  no_key k h (suc f) = rw h

  module _ (k q : ℕ) (hq : quoted s k ≡ Some q) where
    pub key-again : among (key_from s k q) seen ≡ true → (f : ℕ) → members v seen f s k ≡ None
    unfolding members
    key-again h zero = refl
    key-again h (suc f) = rw (hq, h)

    module _ (new : among (key_from s k q) seen ≡ false) where
      pub no-colon : colon s q ≡ None → (f : ℕ) → members v seen f s k ≡ None
      unfolding members
      no-colon h zero = refl
      no-colon h (suc f) = rw (hq, new, h)

      module _ (a : ℕ) (ha : colon s q ≡ Some a) where
        pub no_value : v a ≡ None → (f : ℕ) → members v seen f s k ≡ None
        unfolding members
        no_value h zero = refl
        no_value h (suc f) = rw (hq, new, ha, h)

        members-go : (f e : ℕ) → v a ≡ Some e → k < e → e ≤ length s → length s ≤ f + k → (m : Mark) → m ≡ next 125 s e → Marked e (length s) m
            → (g : ℕ) × (members v seen f s k ≡ follow m (members v (key_from s k q ∷ seen) g s)) × Fuel g (length s) m
        unfolding members
        members-go zero e h lt le u m n w = absurd (omega arith)
        members-go (suc f) e h lt le u m n w = (f, rw (hq, new, ha, h, sym n), fuel m w)
          where
            fuel : (x : Mark) → Marked e (length s) x → Fuel f (length s) x
            fuel (Item b) w = omega arith
            fuel (End b) w = tt
            fuel Neither w = tt

        pub d-goes : (m m' : Mark) (r : Option ℕ) (e : ℕ) → m ≡ Item k → v a ≡ Some e → (k < e) × (e ≤ length s) → m' ≡ next 125 s e → Marked e
            (length s) m' → MReads v s seen m r → MReads v s (key_from s k q ∷ seen) m' r
        d-goes m m' r e h b w n z (f, p, u) =
            let u' : length s ≤ f + k = subst (λ (x : Mark). Fuel f (length s) x) h u in
            let g = members-go f e b w.0 w.1 u' m' n z in
            (g.0, sym g.1 ∙ ap (λ (x : Mark). follow x (members v seen f s)) (sym h) ∙ p, g.2)

pub d-begins : (v : ℕ → Option ℕ) (s : List ℕ) (seen : List (List ℕ)) (m : Mark) (r : Option ℕ) (i : ℕ) → seen ≡ [] → m ≡ first 125 s i → follow
    (first 125 s i) (members v [] (length s) s) ≡ r → MReads v s seen m r
d-begins v s seen m r i n e h = subst (λ (l : List (List ℕ)). MReads v s l m r) (sym n)
    (length s, ap (λ (x : Mark). follow x (members v [] (length s) s)) e ∙ h, full m)
  where
    full : (x : Mark) → Fuel (length s) (length s) x
    full (Item a) = omega arith
    full (End e) = tt
    full Neither = tt

pub room-item : (n : ℕ) (m : Mark) {a : ℕ} → m ≡ Item a → Room n m → 4 * n ≤ a
room-item n m h k = subst (λ (x : Mark). Room n x) h k

pub room-first : (n l i : ℕ) (m : Mark) → 4 * n ≤ i → Marked i l m → Room n m
room-first n l i (Item a) h w = omega arith
room-first n l i (End e) h w = tt
room-first n l i Neither h w = tt

pub room-more : (n l k e : ℕ) (m : Mark) → 4 * n ≤ k → k + 4 ≤ e → Marked e l m → Room (n + 1) m
room-more n l k e (Item a) h g w = omega arith
room-more n l k e (End x) h g w = tt
room-more n l k e Neither h g w = tt

-- ---- the keys of a dict in the table, from place n up to z
pub seen-is : (ks : List (List ℕ)) {x y : List ℕ} {r b : Bool} → r ≡ among x ks → x ≡ y → r ≡ b → among y ks ≡ b
seen-is ks p q t = cc

pub texts-none : (s : List ℕ) (t : Table) (n : ℕ) → texts s t n (n - n) ≡ []
unfolding texts
texts-none s t n = let e : n - n ≡ 0 = omega arith in rw e

texts-last : (s : List ℕ) (t : Table) (n z : ℕ) → n < z → texts s t n (z - n) ≡ key_at s t (z - 1) ∷ texts s t n (z - 1 - n)
unfolding texts
texts-last s t n z h =
    let e : z - n ≡ suc (z - 1 - n) = omega arith in
    let f : n + (z - 1 - n) ≡ z - 1 = omega arith in
    rw (e, f)

-- the last key is looked at
module _ (x s : List ℕ) (t : Table) (n z : ℕ) (h : n < z) where
  pub seen_here : same (key_at s t (z - 1)) x ≡ true → among x (texts s t n (z - n)) ≡ true
  unfolding among
  seen_here e = rw (texts-last s t n z h, e)

  pub seen-there : same (key_at s t (z - 1)) x ≡ false → among x (texts s t n (z - n)) ≡ among x (texts s t n (z - 1 - n))
  unfolding among
  seen-there e = rw (texts-last s t n z h, e)

pub among_none : (x s : List ℕ) (t : Table) (n z : ℕ) → z ≤ n → among x (texts s t n (z - n)) ≡ false
unfolding among texts
among_none x s t n z h = let e : z - n ≡ 0 = omega arith in rw e

-- one of the first a keys is one of the first z
pub among-more : (x s : List ℕ) (t : Table) (n a z : ℕ) → n ≤ a → a ≤ z → among x (texts s t n (a - n)) ≡ true → among x (texts s t n (z - n)) ≡ true
unfolding among texts
among-more x s t n a z l u h = go (z - n) (a - n) (omega arith) h
  where
    either : (a : Bool) {b : Bool} → b ≡ true → (a || b) ≡ true
    either true e = refl
    either false e = e

    go : (m c : ℕ) → c ≤ m → among x (texts s t n c) ≡ true → among x (texts s t n m) ≡ true
    go zero zero u h = h
    go zero (suc c) u h = absurd (omega arith)
    go (suc m) c u h = elim (dec_le c m) [
      | yes k ↦ either (same (key_at s t (n + m)) x) (go m c k h)
      | no k ↦ let e : c ≡ suc m = omega arith in rw e at h
    ]

module _ (s x : List ℕ) (t : Table) (n z : ℕ) (g : Entered s t n z) (m : ℕ) (em : m ≡ mark_of x) where
  -- a key with another mark is another
  pub other-mark : (i : ℕ) → n ≤ i → i < z → (get_or t.marks i 0 ≡ m → ⊥) → same (key_at s t i) x ≡ false
  other-mark i l u h = same-ne _ _ (λ e. h (g i l u ∙ ap mark_of e ∙ sym em))

  -- a key whose mark is none of those there is new
  pub mark-new : n ≤ z → z ≤ length t.marks → every (λ y. not (eqb y m)) (part n z t.marks) ≡ true → among x (texts s t n (z - n)) ≡ false
  unfolding among texts
  mark-new l b h = go (z - n) (omega arith)
    where
      long : length (part n z t.marks) ≡ z - n
      long = rw (length-take (z - n) (drop n t.marks), length-drop n t.marks) (omega arith)

      differs : (c : ℕ) → c < z - n → get_or t.marks (n + c) 0 ≡ m → ⊥
      differs c u e =
          let same : eqb (get_or (part n z t.marks) c 0) m ≡ true =
          eq-eqb _ m (get_or-take (z - n) (drop n t.marks) c 0 u ∙ get_or-drop n t.marks c 0 ∙ e) in
          clash same (not_is (eqb (get_or (part n z t.marks) c 0) m) (every-at (λ y. not (eqb y m)) (part n z t.marks) 0 h c (omega (arith, long))))

      go : (c : ℕ) → n + c ≤ z → among x (texts s t n c) ≡ false
      go zero u = refl
      go (suc c) u = rw (other-mark (n + c) (omega arith) (omega arith) (differs c (omega arith))) (go c (omega arith))

-- what another reader leaves of the table
pub kept-none : (n : ℕ) (t : Table) → Kept n t t
kept-none n t = record { starts = λ i h. refl; ends = λ i h. refl; marks = λ i h. refl; sized = λ h. h }

pub kept_then : {n m : ℕ} {a b c : Table} → n ≤ m → Kept n a b → Kept m b c → Kept n a c
kept_then l p q = record {
  starts = λ i h. q.starts i (omega arith) ∙ p.starts i h;
  ends = λ i h. q.ends i (omega arith) ∙ p.ends i h;
  marks = λ i h. q.marks i (omega arith) ∙ p.marks i h;
  sized = λ h. q.sized (p.sized h);
}

pub entered-none : (s : List ℕ) (t : Table) (n : ℕ) → Entered s t n n
entered-none s t n i l u = absurd (omega arith)

key-kept : (s : List ℕ) (a b : Table) (z : ℕ) → Kept z a b → (i : ℕ) → i < z → key_at s b i ≡ key_at s a i
key-kept s a b z k i u = rw (k.starts i u, k.ends i u)

pub entered-kept : (s : List ℕ) (a b : Table) (n z : ℕ) → Kept z a b → Entered s a n z → Entered s b n z
entered-kept s a b n z k g i l u = k.marks i u ∙ g i l u ∙ ap mark_of (sym (key-kept s a b z k i u))

pub texts-kept : (s : List ℕ) (a b : Table) (n z : ℕ) → n ≤ z → Kept z a b → texts s b n (z - n) ≡ texts s a n (z - n)
unfolding texts
texts-kept s a b n z l k = go (z - n) (omega arith)
  where
    go : (c : ℕ) → n + c ≤ z → texts s b n c ≡ texts s a n c
    go zero u = refl
    go (suc c) u = rw (key-kept s a b z k (n + c) (omega arith), go c (omega arith))

-- one key more, which stands from k to q
pub with-sized : (t : Table) (z k q m : ℕ) → Sized t → Sized (with_key t z k q m)
with-sized t z k q m h =
    (length-set t.starts z k ∙ h.0, length-set t.ends z q ∙ h.1, length-set t.marks z m ∙ h.2)

module _ (s : List ℕ) (t : Table) (n z k q m : ℕ) (size : Sized t) (l : n ≤ z) (lt : z < 512) (mk : m ≡ mark_of (key_from s k q)) where
  with-kept : Kept z t (with_key t z k q m)
  with-kept = record {
    starts = λ i h. get_or-set_other t.starts z i k 0 (λ e. omega arith);
    ends = λ i h. get_or-set_other t.ends z i q 0 (λ e. omega arith);
    marks = λ i h. get_or-set_other t.marks z i m 0 (λ e. omega arith);
    sized = with-sized t z k q m;
  }

  with-key-at : key_at s (with_key t z k q m) z ≡ key_from s k q
  with-key-at =
      rw (get_or-set_same t.starts z k 0 (omega (arith, size.0)), get_or-set_same t.ends z q 0 (omega (arith, size.1)))

  with-entered : Entered s t n z → Entered s (with_key t z k q m) n (z + 1)
  with-entered g i l u = elim (dec_lt i z) [
    | yes h ↦ entered-kept s t (with_key t z k q m) n z with-kept g i l h
    | no h ↦ subst (λ (x : ℕ). get_or (set t.marks z m) x 0 ≡ mark_of (key_at s (with_key t z k q m) x)) (last h) here
  ]
    where
      here : get_or (set t.marks z m) z 0 ≡ mark_of (key_at s (with_key t z k q m) z)
      here = get_or-set_same t.marks z m 0 (omega (arith, size.2)) ∙ mk ∙ ap mark_of (sym with-key-at)

      last : (i < z → ⊥) → z ≡ i
      last h = omega arith

  with-texts : texts s (with_key t z k q m) n (z + 1 - n) ≡ key_from s k q ∷ texts s t n (z - n)
  with-texts =
      let e : z + 1 - 1 ≡ z = omega arith in
      texts-last s (with_key t z k q m) n (z + 1) (omega arith) ∙ rw (e, with-key-at, texts-kept s t (with_key t z k q m) n z l with-kept)

  -- a turn of a dict's loop: the key is entered, and its value leaves u of the table
  module _ (old u : Table) (p : Kept n old t) (r : Kept (z + 1) (with_key t z k q m) u) where
    pub turn-kept : Kept n old u
    turn-kept = kept_then l p (kept_then (omega arith) with-kept r)

    pub turn-entered : Entered s t n z → Entered s u n (z + 1)
    turn-entered g = entered-kept s (with_key t z k q m) u n (z + 1) r (with-entered g)

    pub turn-texts : texts s u n (z + 1 - n) ≡ key_from s k q ∷ texts s t n (z - n)
    turn-texts = texts-kept s (with_key t z k q m) u n (z + 1) (omega arith) r ∙ with-texts
