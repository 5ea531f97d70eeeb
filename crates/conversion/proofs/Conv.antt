-- `Converts`: from a write to it and back, and one after another. Assumes nothing.
use Rattle.std.specs.Prelude.{Option, Some, None}
use Prim.Native.Nat.{ℕ, ◌+◌, ◌≤◌, ◌<◌}
use mathlib.Core.List.{List, [], ◌∷◌, ◌++◌, append_assoc}
use mathlib.Core.Path.{◌≡◌, refl, sym, ap, ◌∙◌, subst}
use native.Mathlib.Omega.{arith}
use lib.ListN.{length}
use Rattle.buffer.specs.Capped.{capped, largest}
use Rattle.buffer.proofs.Wrote.{Wrote, wrote_then}
use Rattle.seq.specs.declared.Format.{Format}
use Rattle.values.specs.Write.{write}
use Rattle.values.specs.Stands.{stands}
use Rattle.values.specs.Read.{Read, made}
use Rattle.values.specs.Read.Read.{Gives, Not}
use Rattle.conversion.specs.declared.Converted.{Converted}
use Rattle.conversion.specs.Converts.{done, Writes, Converts, Ahead, Onward, convert, answer, Left}

-- ---- items read one after the other: those that were read stand before those that are left
pub made-id : {A : Type 0} (r : Read (List A)) → r ≡ made (λ vs. [] ++ vs) r
made-id (Gives v e) = refl
made-id Not = refl

pub made-made : {A : Type 0} (a : List A) (v : A) (r : Read (List A)) → made (λ vs. a ++ vs) (made (λ vs. v ∷ vs) r) ≡ made (λ vs. (a ++ (v ∷ [])) ++ vs) r
made-made a v (Gives vs e) = ap (λ (l : List _). Gives l e) (sym (append_assoc a (v ∷ []) vs))
made-made a v Not = refl

-- ---- a write as a conversion
module _ {A : Type 0} (old : List ℕ) (o : ℕ) (w : A → List ℕ) (r : Read A) (left : List ℕ) where
  pub converts : {v : A} {e z : ℕ} → r ≡ Gives v e → Wrote old o (w v) z left → Converts old o w r (Some (done e z)) left
  converts {v} {e} {z} q h =
      record { so = subst (λ (x : Read A). Writes old o w x (Some (done e z)) left) (sym q) (ap (λ (n : ℕ). Some (done e n)) h.ends, h.leaves) }

  pub converts-not : r ≡ Not → Converts old o w r None left
  converts-not q = record { so = subst (λ (x : Read A). Writes old o w x None left) (sym q) refl }

-- what was read, where a conversion is done
pub record Took {A : Type 0} (old : List ℕ) (o : ℕ) (w : A → List ℕ) (r : Read A) (e z : ℕ) (left : List ℕ) : Type 0 where
  pub value : A
  pub read : r ≡ Gives value e
  pub wrote : Wrote old o (w value) z left

took_by : {A : Type 0} (old : List ℕ) (o : ℕ) (w : A → List ℕ) (r : Read A) (c : Option Converted) (left : List ℕ) → Writes old o w r c left
    → {d : Converted} → c ≡ Some d → Took old o w r d.read d.written left
took_by old o w (Gives v e) c left h {d} q =
    let x = h.0 in
    let k : done e (capped (o + length (w v))) ≡ d = cc in
    let p : e ≡ d.read = ap (λ (j : Converted). j.read) k in
    let y : d.written ≡ capped (o + length (w v)) = sym (ap (λ (j : Converted). j.written) k) in
    record { value = v; read = ap (λ (n : ℕ). Gives v n) p; wrote = record { ends = y; leaves = h.1 } }
took_by old o w Not c left h {d} q = absurd (let z : ◌≡◌ {A = ℕ} 0 1 = cc in omega arith)

refused-by : {A : Type 0} (old : List ℕ) (o : ℕ) (w : A → List ℕ) (r : Read A) (c : Option Converted) (left : List ℕ) → Writes old o w r c left
    → c ≡ None → r ≡ Not
refused-by old o w (Gives v e) c left h q = absurd (let x = h.0 in let z : ◌≡◌ {A = ℕ} 0 1 = cc in omega arith)
refused-by old o w Not c left h q = refl

module _ {A : Type 0} {old : List ℕ} {o : ℕ} {w : A → List ℕ} {r : Read A} {c : Option Converted} {left : List ℕ} (h : Converts old o w r c left) where
  pub took : {d : Converted} → c ≡ Some d → Took old o w r d.read d.written left
  took q = took_by old o w r c left h.so q

  pub refused : c ≡ None → r ≡ Not
  refused q = refused-by old o w r c left h.so q

pub ahead-done : {c : Option Converted} (at n : ℕ) {d : Converted} → c ≡ Some d → Ahead at n c → (at < d.read) × (d.read ≤ n)
ahead-done at n q h = subst (λ (c : Option Converted). Ahead at n c) q h

pub onward-done : {c : Option Converted} (at n : ℕ) {d : Converted} → c ≡ Some d → Onward at n c → (at ≤ d.read) × (d.read ≤ n)
onward-done at n q h = subst (λ (c : Option Converted). Onward at n c) q h

pub ahead-from : (c : Option Converted) (at b n : ℕ) → at < b → Onward b n c → Ahead at n c
ahead-from (Some d) at b n l h = omega arith
ahead-from None at b n l h = tt

pub ahead-later : (c : Option Converted) (at b n : ℕ) → at ≤ b → Ahead b n c → Ahead at n c
ahead-later (Some d) at b n l h = omega arith
ahead-later None at b n l h = tt

-- ---- any conversion
-- the same bytes, for a value made of what was read
pub conv-made : {A B : Type 0} (old : List ℕ) (o : ℕ) (w : A → List ℕ) (u : B → List ℕ) (g : A → B) → ((v : A) → w v ≡ u (g v))
    → (r : Read A) (c : Option Converted) (left : List ℕ) → Converts old o w r c left → Converts old o u (made g r) c left
conv-made old o w u g s (Gives v e) c left h = record { so = rw (s v) at h.so }
conv-made old o w u g s Not c left h = record { so = h.so }

-- behind what was written already
pub conv-behind : {A : Type 0} (old : List ℕ) (o : ℕ) (pre mid : List ℕ) (q : ℕ) (w : A → List ℕ) (r : Read A) (c : Option Converted) (left : List ℕ)
    → length old ≤ largest → Wrote old o pre q mid → Converts mid q w r c left → Converts old o (λ v. pre ++ w v) r c left
conv-behind old o pre mid q w (Gives v e) c left l p h =
    let t : Wrote mid q (w v) (capped (q + length (w v))) left = record { ends = refl; leaves = h.so.1 } in
    let b = wrote_then l p t in
    record { so = (h.so.0 ∙ ap (λ (n : ℕ). Some (done e n)) b.ends, b.leaves) }
conv-behind old o pre mid q w Not c left l p h = record { so = h.so }

-- the same value, read in another way
pub conv-same : {A : Type 0} {old : List ℕ} {o : ℕ} {w : A → List ℕ} {r r' : Read A} {c : Option Converted} {left : List ℕ} → r ≡ r' → Converts old o w r' c left → Converts old o w r c left
conv-same {A} {old} {o} {w} {r} {r'} {c} {left} q h = subst (λ (x : Read A). Converts old o w x c left) (sym q) h

-- a conversion as a whole
pub conv-whole : {A : Type 0} (old : List ℕ) (o : ℕ) (w : A → List ℕ) (r : Read A) (c : Option Converted) (left : List ℕ) → Converts old o w r c left
    → (c ≡ answer o (made w r)) × Left old o (made w r) left
conv-whole old o w (Gives v e) c left h = (h.so.0, h.so.1)
conv-whole old o w Not c left h = (h.so, tt)

pub converted : (f g : Format) (depth : ℕ) (s : List ℕ) (at : ℕ) {old : List ℕ} {o : ℕ} {c : Option Converted} {left : List ℕ}
    → Converts old o (write g depth) (stands f depth s at) c left
    → (c ≡ answer o (convert f g depth s at)) × Left old o (convert f g depth s at) left
unfolding convert
converted f g depth s at {old} {o} {c} {left} h = conv-whole old o (write g depth) (stands f depth s at) c left h
