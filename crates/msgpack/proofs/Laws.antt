-- Laws of specs/MsgPack.antt: one step of each reader. Assumes nothing.
use Rattle.std.specs.Prelude.{Some, None, Option}
use mathlib.Core.Path.{◌≡◌, refl, sym, ap, ◌∙◌, subst}
use Prim.Native.Nat.{ℕ, zero, suc, ◌+◌, ◌-◌, ◌≤◌, ◌<◌}
use mathlib.Core.List.{List, []}
use mathlib.Core.Bool.{true, false}
use native.Mathlib.Omega.{arith}
use lib.ListN.{length}
use lib.Dec.{eqb, leb}
use borrow.Author.Tests.{le-leb, lt-leb, eq-eqb, ne_eqb, lt-ltb, le-ltb, eqb-true, eqb-false}
use Rattle.seq.specs.Bytes.{part}
use Rattle.seq.proofs.Logic.{split, clash, cond_same}
use Rattle.lex.specs.Lex.{Within, From}
use Rattle.lex.proofs.Laws.{within-after}
use Rattle.json_text.specs.Json.{max_bytes}
use Rattle.utf8.specs.Utf8.{well_formed}
use Rattle.msgpack.specs.declared.Head.{Head}
use Rattle.msgpack.specs.Head.{head_at, str, opaque, array, map, none, Placed}
use Rattle.msgpack.specs.MsgPack.{bytes, text, times, with_key, again, pairs, by_head, value, array_at, map_at, value_at}

-- ---- bytes and texts
module _ (s : List ℕ) (at n : ℕ) where
  pub bytes_cut : length s < at + n → None ≡ bytes s at n
  unfolding bytes
  bytes_cut l = rw (lt-leb (at + n) (length s) l)

  pub bytes-are : at + n ≤ length s → Some (at + n) ≡ bytes s at n
  unfolding bytes
  bytes-are l = rw (le-leb (at + n) (length s) l)

  pub text-cut : bytes s at n ≡ None → None ≡ text s at n
  unfolding text
  text-cut e = split (well_formed (part at (at + n) s)) (λ t. rw (t, e)) (λ t. rw t)

  bytes-end : (e : ℕ) → bytes s at n ≡ Some e → e ≡ at + n
  unfolding bytes
  bytes-end e = split (leb (at + n) (length s)) (λ t. rw t (λ q. cc)) (λ t. rw t (λ q. absurd (let z : ◌≡◌ {A = ℕ} 0 1 = cc in omega arith)))

  module _ (e : ℕ) (h : bytes s at n ≡ Some e) where
    pub text-is : well_formed (part at e s) ≡ true → Some e ≡ text s at n
    unfolding text
    text-is t = let q : e ≡ at + n = bytes-end e h in rw (← q, t, h)

    pub text-not : well_formed (part at e s) ≡ false → None ≡ text s at n
    unfolding text
    text-not t = let q : e ≡ at + n = bytes-end e h in rw (← q, t)

down : (k : ℕ) → suc k - 1 ≡ k
down k = omega arith

-- ---- a value by its head h
module _ (arrays maps : ℕ → ℕ → Option ℕ) (s : List ℕ) (h : Head) where
  pub head_done : h.kind < str → Some h.end ≡ by_head arrays maps s h
  unfolding by_head
  head_done l = rw (lt-ltb h.kind str l)

  pub head-str : h.kind ≡ str → text s h.end h.n ≡ by_head arrays maps s h
  unfolding by_head
  head-str k = rw k

  pub head-opaque : h.kind ≡ opaque → bytes s h.end h.n ≡ by_head arrays maps s h
  unfolding by_head
  head-opaque k = rw k

  head-array : h.kind ≡ array → arrays h.n h.end ≡ by_head arrays maps s h
  unfolding by_head
  head-array k = rw k

  head-map : h.kind ≡ map → maps h.n h.end ≡ by_head arrays maps s h
  unfolding by_head
  head-map k = rw k

-- what follows a head that opens neither an array nor a map
abbrev pub flat : List ℕ → Head → Option ℕ
flat s h = by_head (λ n e. None) (λ n e. None) s h

pub flat-none : (s : List ℕ) (h : Head) → str ≤ h.kind → (h.kind ≡ str → ⊥) → (h.kind ≡ opaque → ⊥) → None ≡ flat s h
unfolding by_head
flat-none s h l a b =
    rw (le-ltb h.kind str l, ne_eqb h.kind str a, ne_eqb h.kind opaque b, cond_same {A = Option ℕ} (eqb h.kind map) None, cond_same {A = Option ℕ} (eqb h.kind array) None)

value-head : (d : ℕ) (s : List ℕ) (at : ℕ) → value d s at ≡ by_head (array_at d s) (map_at d s) s (head_at s at)
unfolding value array_at map_at
value-head zero s at = refl
value-head (suc d) s at = refl

module _ (d : ℕ) (s : List ℕ) (at : ℕ) (h : Head) (eh : h ≡ head_at s at) where
  by : {r : Option ℕ} → r ≡ by_head (array_at d s) (map_at d s) s h → r ≡ value d s at
  by e = e ∙ ap (by_head (array_at d s) (map_at d s) s) eh ∙ sym (value-head d s at)

  pub value-array : h.kind ≡ array → array_at d s h.n h.end ≡ value d s at
  value-array k = by (head-array (array_at d s) (map_at d s) s h k)

  pub value-map : h.kind ≡ map → map_at d s h.n h.end ≡ value d s at
  value-map k = by (head-map (array_at d s) (map_at d s) s h k)

  pub value-flat : (h.kind ≡ array → ⊥) → (h.kind ≡ map → ⊥) → flat s h ≡ value d s at
  unfolding by_head
  value-flat a m = by (rw (ne_eqb h.kind array a, ne_eqb h.kind map m))

-- such a value is in the text where its head is
pub flat-within : (s : List ℕ) (h : Head) (at n : ℕ) (r : Option ℕ) → Placed at n h → r ≡ flat s h → From h.end n r → Within at n r
flat-within s h at n r p e w =
    split (eqb h.kind none)
    (λ t.
    let k = eqb-true h.kind none t in
    subst (Within at n) (flat-none s h (omega arith) (λ q. omega arith) (λ q. omega arith) ∙ sym e) tt)
    (λ t. within-after r at h.end n (p.behind (λ k. clash (eq-eqb h.kind none k) t)) w)

-- ---- a whole text
pub at_long : (d : ℕ) (s : List ℕ) (i : ℕ) → max_bytes < length s → value_at d s i ≡ None
unfolding value_at
at_long d s i h = rw (lt-leb (length s) max_bytes h)

pub at-short : (d : ℕ) (s : List ℕ) (i : ℕ) → length s ≤ max_bytes → value_at d s i ≡ value d s i
unfolding value_at
at-short d s i h = rw (le-leb (length s) max_bytes h)

-- ---- arrays and maps
pub array-deep : (d : ℕ) (s : List ℕ) (n i : ℕ) → d ≡ 0 → None ≡ array_at d s n i
unfolding array_at
array-deep zero s n i e = refl
array-deep (suc d) s n i e = absurd (omega arith)

pub array-opens : (d : ℕ) (s : List ℕ) (n i : ℕ) → (d ≡ 0 → ⊥) → times (value (d - 1) s) n i ≡ array_at d s n i
unfolding array_at
array-opens zero s n i h = absurd (h refl)
array-opens (suc d) s n i h = rw (down d)

pub map-deep : (d : ℕ) (s : List ℕ) (n i : ℕ) → d ≡ 0 → None ≡ map_at d s n i
unfolding map_at
map-deep zero s n i e = refl
map-deep (suc d) s n i e = absurd (omega arith)

pub map-opens : (d : ℕ) (s : List ℕ) (n i : ℕ) → (d ≡ 0 → ⊥) → pairs (value (d - 1) s) s [] n i ≡ map_at d s n i
unfolding map_at
map-opens zero s n i h = absurd (h refl)
map-opens (suc d) s n i h = rw (down d)

-- an array or a map: too deep, or with nothing in it
module _ (d : ℕ) (s : List ℕ) (at : ℕ) (h : Head) (eh : h ≡ head_at s at) (l : array ≤ h.kind) (m : h.kind ≤ map) where
  by_kind : {r : Option ℕ} → r ≡ array_at d s h.n h.end → r ≡ map_at d s h.n h.end → r ≡ value d s at
  by_kind a b =
      split (eqb h.kind array)
      (λ t. a ∙ value-array d s at h eh (eqb-true h.kind array t))
      (λ t. b ∙ value-map d s at h eh (let k = eqb-false h.kind array t in omega arith))

  pub opened-deep : d ≡ 0 → None ≡ value d s at
  opened-deep e = by_kind (array-deep d s h.n h.end e) (map-deep d s h.n h.end e)

  pub opened-empty : (d ≡ 0 → ⊥) → h.n ≡ 0 → Some h.end ≡ value d s at
  unfolding times pairs
  opened-empty e z = by_kind (rw (z) (array-opens d s 0 h.end e)) (rw (z) (map-opens d s 0 h.end e))

-- a turn of the loop over an array: n values are left
module _ (item : ℕ → Option ℕ) where
  pub times-end : (n p : ℕ) → n ≡ 0 → times item n p ≡ Some p
  unfolding times
  times-end zero p e = refl
  times-end (suc n) p e = absurd (omega arith)

  pub times-bad : (n p : ℕ) → 0 < n → item p ≡ None → times item n p ≡ None
  unfolding times
  times-bad zero p l e = absurd (omega arith)
  times-bad (suc n) p l e = rw e

  pub times-go : (n m p e : ℕ) → n ≡ suc m → item p ≡ Some e → times item n p ≡ times item m e
  unfolding times
  times-go n m p e l h = rw (l, h)

-- a turn of the loop over a map: h is the key's head, e where it ends
module _ (item : ℕ → Option ℕ) (s : List ℕ) (seen : List (List ℕ)) where
  pub pairs_end : (n p : ℕ) → n ≡ 0 → pairs item s seen n p ≡ Some p
  unfolding pairs
  pairs_end zero p e = refl
  pairs_end (suc n) p e = absurd (omega arith)

  pub no_key : (n p : ℕ) → 0 < n → item p ≡ None → pairs item s seen n p ≡ None
  unfolding pairs
  no_key zero p l e = absurd (omega arith)
  no_key (suc n) p l e = rw e

  module _ (p e : ℕ) (h : Head) (eh : h ≡ head_at s p) (k : item p ≡ Some e) where
    pub key-again : (n : ℕ) → 0 < n → again s h e seen ≡ true → pairs item s seen n p ≡ None
    unfolding pairs
    key-again zero l q = absurd (omega arith)
    key-again (suc n) l q = rw (k, sym eh, q)

    pub no_value : (n : ℕ) → 0 < n → again s h e seen ≡ false → item e ≡ None → pairs item s seen n p ≡ None
    unfolding pairs
    no_value zero l q m = absurd (omega arith)
    no_value (suc n) l q m = rw (k, sym eh, q, m)

    pub pairs-go : (n n' z : ℕ) → n ≡ suc n' → again s h e seen ≡ false → item e ≡ Some z → pairs item s seen n p ≡ pairs item s (with_key s h e seen) n' z
    unfolding pairs
    pairs-go n n' z l q m = rw (l, k, sym eh, q, m)
