-- How many bytes MsgPack's heads have. Assumes nothing.
use Prim.Native.Nat.{ℕ, zero, suc, ◌+◌, ◌*◌, ◌-◌, ◌/◌, ◌≤◌, ◌<◌}
use mathlib.Core.Path.{◌≡◌, refl, ◌∙◌}
use native.Mathlib.Decide.{dec_lt}
use native.Mathlib.Omega.{arith}
use borrow.Author.Tests.{lt-ltb, le-ltb}
use lib.Dec.{ltb}
use lib.ListN.{length, length-append}
use Rattle.seq.proofs.Logic.{split}
use Rattle.values.specs.Write.{wide, pack_whole, pack_below, pack_str, pack_array, pack_map}

pub wide-length : (w n : ℕ) → length (wide w n) ≡ w
unfolding wide
wide-length zero n = refl
wide-length (suc w) n = length-append (wide w (n / 256)) _ ∙ (let e = wide-length w (n / 256) in omega arith)

module _ (n : ℕ) where
  pub whole-one : n < 0x80 → length (pack_whole n) ≡ 1
  unfolding pack_whole
  whole-one h = rw (lt-ltb n 0x80 h)

  pub whole-three : n < 0x10000 → length (pack_whole n) ≤ 3
  unfolding pack_whole
  whole-three h =
      let a = wide-length 1 n in
      let b = wide-length 2 n in
      split (ltb n 0x80) (λ t. rw t (omega arith))
      (λ t. split (ltb n 0x100) (λ u. rw (t, u) (omega arith)) (λ u. rw (t, u, lt-ltb n 0x10000 h) (omega arith)))

  pub whole-nine : length (pack_whole n) ≤ 9
  unfolding pack_whole
  whole-nine =
      let a = wide-length 1 n in
      let b = wide-length 2 n in
      let c = wide-length 4 n in
      let d = wide-length 8 n in
      split (ltb n 0x80) (λ t. rw t (omega arith))
      (λ t. split (ltb n 0x100) (λ u. rw (t, u) (omega arith))
      (λ u. split (ltb n 0x10000) (λ v. rw (t, u, v) (omega arith))
      (λ v. split (ltb n 0x100000000) (λ w. rw (t, u, v, w) (omega arith)) (λ w. rw (t, u, v, w) (omega arith)))))

  pub below-three : n < 0x8000 → length (pack_below n) ≤ 3
  unfolding pack_below
  below-three h =
      let a = wide-length 1 (0xff - n) in
      let b = wide-length 2 (0xffff - n) in
      split (ltb n 0x20) (λ t. rw t (omega arith))
      (λ t. split (ltb n 0x80) (λ u. rw (t, u) (omega arith)) (λ u. rw (t, u, lt-ltb n 0x8000 h) (omega arith)))

  pub below-nine : length (pack_below n) ≤ 9
  unfolding pack_below
  below-nine =
      let a = wide-length 1 (0xff - n) in
      let b = wide-length 2 (0xffff - n) in
      let c = wide-length 4 (0xffffffff - n) in
      let d = wide-length 8 (0xffffffffffffffff - n) in
      split (ltb n 0x20) (λ t. rw t (omega arith))
      (λ t. split (ltb n 0x80) (λ u. rw (t, u) (omega arith))
      (λ u. split (ltb n 0x8000) (λ v. rw (t, u, v) (omega arith))
      (λ v. split (ltb n 0x80000000) (λ w. rw (t, u, v, w) (omega arith)) (λ w. rw (t, u, v, w) (omega arith)))))

  pub str-length : length (pack_str n) ≤ n + 4
  unfolding pack_str
  str-length = elim (dec_lt n 0x20) [
    | yes p ↦ rw (lt-ltb n 0x20 p) (omega arith)
    | no p ↦
        let a = wide-length 1 n in
        let b = wide-length 2 n in
        let c = wide-length 4 n in
        rw (le-ltb n 0x20 (omega arith))
        (split (ltb n 0x100) (λ u. rw u (omega arith))
        (λ u. split (ltb n 0x10000) (λ v. rw (u, v) (omega arith)) (λ v. rw (u, v) (omega arith))))
  ]

  pub array-length : length (pack_array n) ≤ 2 * n + 2
  unfolding pack_array
  array-length = elim (dec_lt n 0x10) [
    | yes p ↦ rw (lt-ltb n 0x10 p) (omega arith)
    | no p ↦
        let b = wide-length 2 n in
        let c = wide-length 4 n in
        rw (le-ltb n 0x10 (omega arith)) (split (ltb n 0x10000) (λ v. rw v (omega arith)) (λ v. rw v (omega arith)))
  ]

  pub map-length : length (pack_map n) ≤ 2 * n + 2
  unfolding pack_map
  map-length = elim (dec_lt n 0x10) [
    | yes p ↦ rw (lt-ltb n 0x10 p) (omega arith)
    | no p ↦
        let b = wide-length 2 n in
        let c = wide-length 4 n in
        rw (le-ltb n 0x10 (omega arith)) (split (ltb n 0x10000) (λ v. rw v (omega arith)) (λ v. rw v (omega arith)))
  ]
