-- Laws of specs/Maps.antt: a key by its head, and one turn of the search through a map's members. Assumes nothing.
use Rattle.std.specs.Prelude.{Some, None, Option}
use mathlib.Core.Path.{◌≡◌, refl, sym}
use Prim.Native.Nat.{ℕ, zero, suc, ◌-◌, ◌≤◌, ◌<◌}
use mathlib.Core.List.{List, []}
use mathlib.Core.Bool.{Bool, true, false}
use native.Mathlib.Omega.{arith}
use lib.ListN.{length}
use borrow.Author.Tests.{le-leb, lt-leb, ne_eqb}
use Rattle.seq.specs.Bytes.{part, same}
use Rattle.json_text.specs.Json.{max_bytes}
use Rattle.msgpack.specs.declared.Head.{Head}
use Rattle.msgpack.specs.Head.{head_at, str, map}
use Rattle.msgpack.specs.MsgPack.{value}
use Rattle.members.specs.Members.{pair, blank}
use Rattle.maps.specs.Maps.{pairs, members_at, is_key, value_of}

-- ---- a key from k to q: h is its head
module _ (t key : List ℕ) (k q : ℕ) (h : Head) (eh : h ≡ head_at t k) where
  pub key-other : (h.kind ≡ str → ⊥) → false ≡ is_key t key (pair k q q q)
  unfolding is_key
  key-other n = rw (sym eh, ne_eqb h.kind str n)

  pub key-str : h.kind ≡ str → same (part h.end q t) key ≡ is_key t key (pair k q q q)
  unfolding is_key
  key-str n = rw (sym eh, n)

-- its value has no part in that
key-alone : (t key : List ℕ) (k q a e : ℕ) → is_key t key (pair k q a e) ≡ is_key t key (pair k q q q)
unfolding is_key
key-alone t key k q a e = refl

-- ---- the members of a map, and of what is none: h is the head
pub value_none : (t key : List ℕ) → blank ≡ value_of t key []
unfolding value_of
value_none t key = refl

pub value-long : (t key : List ℕ) (at : ℕ) → max_bytes < length t → blank ≡ value_of t key (members_at t at)
unfolding members_at
value-long t key at l = rw (lt-leb (length t) max_bytes l) (value_none t key)

module _ (t key : List ℕ) (at : ℕ) (h : Head) (eh : h ≡ head_at t at) (l : length t ≤ max_bytes) where
  pub value_not : (h.kind ≡ map → ⊥) → blank ≡ value_of t key (members_at t at)
  unfolding members_at
  value_not k = rw (le-leb (length t) max_bytes l, sym eh, ne_eqb h.kind map k) (value_none t key)

  pub value-among : h.kind ≡ map → value_of t key (pairs (value 6 t) h.n h.end) ≡ value_of t key (members_at t at)
  unfolding members_at
  value-among k = rw (le-leb (length t) max_bytes l, sym eh, k)

-- ---- a turn of the search: n members are left, from place p on
down : (k : ℕ) → suc k - 1 ≡ k
down k = omega arith

module _ (t key : List ℕ) (item : ℕ → Option ℕ) where
  pub look-end : (n p : ℕ) → n ≡ 0 → blank ≡ value_of t key (pairs item n p)
  unfolding pairs
  look-end zero p z = value_none t key
  look-end (suc n) p z = absurd (omega arith)

  pub look-no-key : (n p : ℕ) → 0 < n → item p ≡ None → blank ≡ value_of t key (pairs item n p)
  unfolding pairs
  look-no-key zero p l b = absurd (omega arith)
  look-no-key (suc n) p l b = rw b (value_none t key)

  module _ (p e : ℕ) (k : item p ≡ Some e) where
    pub look-no-value : (n : ℕ) → 0 < n → item e ≡ None → blank ≡ value_of t key (pairs item n p)
    unfolding pairs
    look-no-value zero l b = absurd (omega arith)
    look-no-value (suc n) l b = rw (k, b) (value_none t key)

    -- b tells whether the key is the one asked for
    module _ (z : ℕ) (v : item e ≡ Some z) (b : Bool) (eb : b ≡ is_key t key (pair p e e e)) where
      pub look_hit : (n : ℕ) → 0 < n → b ≡ true → record { from = e; to = z } ≡ value_of t key (pairs item n p)
      unfolding pairs value_of
      look_hit zero l i = absurd (omega arith)
      look_hit (suc n) l i = rw (k, v, key-alone t key p e e z, sym eb, i)

      pub look-goes : (n : ℕ) → 0 < n → b ≡ false → value_of t key (pairs item n p) ≡ value_of t key (pairs item (n - 1) z)
      unfolding pairs value_of
      look-goes zero l i = absurd (omega arith)
      look-goes (suc n) l i = rw (k, v, key-alone t key p e e z, sym eb, i, down n)
