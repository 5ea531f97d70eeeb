-- A write as a contract says it, the place past what was written and the bytes after, and writes one after another. Assumes nothing.
use Prim.Native.Nat.{ℕ, ◌+◌, ◌≤◌, ◌<◌}
use mathlib.Core.List.{List, [], ◌++◌}
use mathlib.Core.Path.{◌≡◌, sym, ap, ◌∙◌, subst}
use native.Mathlib.Omega.{arith}
use lib.ListN.{length, take, get_or, length-append}
use Rattle.seq.specs.Lists.{joined}
use Rattle.seq.proofs.Joined.{joined-suc}
use Rattle.buffer.specs.Capped.{capped, largest}
use Rattle.buffer.proofs.Sums.{capped_is, sum_more}
use Rattle.buffer.specs.Over.{over}
use Rattle.buffer.proofs.Over.{over_none, over-over, over-capped, length_over}

-- new was written over old from a place on: where it ended, and the bytes it left
pub record Wrote (old : List ℕ) (at : ℕ) (new : List ℕ) (past : ℕ) (left : List ℕ) : Type 0 where
  pub ends : past ≡ capped (at + length new)
  pub leaves : left ≡ over old at new

-- from a contract's two equations, and back
pub told : (l : List ℕ) (at : ℕ) (b : List ℕ) {o : ℕ} {m : List ℕ} → record { place : o ≡ capped (at + length b); bytes : m ≡ over l at b }
    → Wrote l at b o m
told l at b e = record { ends = e.place; leaves = e.bytes }

pub tells : {l m : List ℕ} {at o : ℕ} {b : List ℕ} → Wrote l at b o m → record { place : o ≡ capped (at + length b); bytes : m ≡ over l at b }
tells w = record { place = w.ends; bytes = w.leaves }

pub wrote_none : (l : List ℕ) (at : ℕ) → at ≤ largest → Wrote l at [] at l
wrote_none l at h =
    let e : at ≡ at + 0 = omega arith in
    record { ends = capped_is at h ∙ ap capped e; leaves = sym (over_none l at) }

-- a write of b is a write of b' where the two are equal
pub wrote : {l m : List ℕ} {at o : ℕ} {b b' : List ℕ} → b ≡ b' → Wrote l at b o m → Wrote l at b' o m
wrote {l} {m} {at} {o} e h = subst (λ x. Wrote l at x o m) e h

-- the same write, where its end and the bytes it left are known by equations
pub wrote_as : {l m k : List ℕ} {at o q : ℕ} {b : List ℕ} → k ≡ m → q ≡ o → Wrote l at b o m → Wrote l at b q k
wrote_as e d w = rw (e, d) w

-- two writes, one after the other
pub wrote_then : {l m k : List ℕ} {at o q : ℕ} {a b : List ℕ} → length l ≤ largest → Wrote l at a o m → Wrote m o b q k
    → Wrote l at (a ++ b) q k
wrote_then {l} {m} {k} {at} {o} {q} {a} {b} f h g =
    let e = length-append a b in
    let n : length (over l at a) ≤ largest = omega (arith, length_over l at a) in
    record {
      ends = g.ends ∙ sum_more o (length b) (at + length a) (at + length (a ++ b)) h.ends (omega arith);
      leaves = g.leaves ∙ ap (λ x. over x o b) h.leaves ∙ ap (λ p. over (over l at a) p b) h.ends
          ∙ over-capped (over l at a) (at + length a) b n ∙ over-over l at a b;
    }

-- the same, where what the two wrote is known by an equation
pub wrote-both : {l m k : List ℕ} {at o q : ℕ} {a b c : List ℕ} → a ++ b ≡ c → length l ≤ largest → Wrote l at a o m → Wrote m o b q k
    → Wrote l at c q k
wrote-both e f h g = wrote e (wrote_then f h g)

pub wrote-length : {l m : List ℕ} {at o : ℕ} {b : List ℕ} → Wrote l at b o m → length m ≡ length l
wrote-length {l} {m} {at} {o} {b} w = ap length w.leaves ∙ length_over l at b

-- a turn of a loop that writes what f gives for each element
pub wrote-turn : {A : Type 0} (f : A → List ℕ) (d : A) (xs : List A) (i : ℕ) → i < length xs → {l m k : List ℕ} {at o q : ℕ}
    → length l ≤ largest → Wrote l at (joined f (take i xs)) o m → Wrote m o (f (get_or xs i d)) q k
    → Wrote l at (joined f (take (i + 1) xs)) q k
wrote-turn f d xs i h n w v = wrote-both (sym (joined-suc f d xs i h)) n w v
