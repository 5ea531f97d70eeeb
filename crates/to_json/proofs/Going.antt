-- The turns of a loop over n items: what is done, and what is left. Assumes nothing.
use Prim.Native.Nat.{ℕ, zero, suc, ◌+◌, ◌-◌, ◌≤◌, ◌<◌}
use mathlib.Core.List.{List, [], ◌∷◌, ◌++◌, append_assoc, append-nil}
use mathlib.Core.Path.{◌≡◌, refl, sym, ap, ◌∙◌}
use native.Mathlib.Omega.{arith}
use borrow.Author.Tests.{lt-ltb, le-ltb}
use lib.Dec.{ltb}
use lib.ListN.{length, length-append}
use Rattle.buffer.specs.Capped.{largest}
use Rattle.buffer.proofs.Wrote.{Wrote, wrote, wrote_then}
use Rattle.values.specs.Read.{Read, made}
use Rattle.values.specs.Read.Read.{Gives, Not}
use Rattle.values.specs.Write.{separated, commaed}
use Rattle.values.specs.Stands.{items}
use Rattle.conversion.proofs.Conv.{Took, made-id, made-made}
use Rattle.quoting.specs.Quoting.{comma}

-- i of the n items are written from the place o on, and the others are left from the place p on
pub record Going {A : Type 0} (item : ℕ → Read A) (f : A → List ℕ) (n at : ℕ) (old : List ℕ) (o : ℕ) (p q i : ℕ) (out : List ℕ) : Type 0 where
  pub done : List A
  pub counted : length done ≡ i
  pub read : items item n at ≡ made (λ vs. done ++ vs) (items item (n - i) p)
  pub wrote : Wrote old o (separated f done) q out

module _ {A : Type 0} (item : ℕ → Read A) where
  items-end : (n p : ℕ) → n ≡ 0 → items item n p ≡ Gives [] p
  unfolding items
  items-end zero p e = refl
  items-end (suc n) p e = absurd (omega arith)

  items-not : (n p : ℕ) → 0 < n → item p ≡ Not → items item n p ≡ Not
  unfolding items
  items-not zero p l e = absurd (omega arith)
  items-not (suc n) p l e = rw e

  items-go : (n p : ℕ) {v : A} {e : ℕ} → 0 < n → item p ≡ Gives v e → items item n p ≡ made (λ vs. v ∷ vs) (items item (n - 1) e)
  unfolding items
  items-go zero p l h = absurd (omega arith)
  items-go (suc n) p l h = let d : suc n - 1 ≡ n = omega arith in rw (h, d)

-- one item more
commaed-snoc : {A : Type 0} (f : A → List ℕ) (xs : List A) (v : A) → commaed f (xs ++ (v ∷ [])) ≡ commaed f xs ++ (44 ∷ f v)
unfolding commaed
commaed-snoc f [] v = ap (λ (l : List ℕ). 44 ∷ l) (append-nil (f v))
commaed-snoc f (x ∷ xs) v = ap (λ (l : List ℕ). 44 ∷ l) (ap (λ (l : List ℕ). f x ++ l) (commaed-snoc f xs v) ∙ sym (append_assoc (f x) (commaed f xs) (44 ∷ f v)))

separated-snoc : {A : Type 0} (f : A → List ℕ) (xs : List A) (v : A) (i : ℕ) → length xs ≡ i
    → (separated f xs ++ comma (ltb 0 i)) ++ f v ≡ separated f (xs ++ (v ∷ []))
unfolding separated commaed comma
separated-snoc f [] v i e = rw (le-ltb 0 i (omega arith)) (sym (append-nil (f v)))
separated-snoc f (x ∷ xs) v i e = rw (lt-ltb 0 i (omega arith), commaed-snoc f xs v) (simp append_assoc)

module _ {A : Type 0} {item : ℕ → Read A} {f : A → List ℕ} {n at : ℕ} {old : List ℕ} {o : ℕ} where
  pub going_start : {out : List ℕ} → Wrote old o [] o out → Going item f n at old o at o 0 out
  unfolding separated
  going_start w = let z : n - 0 ≡ n = omega arith in record { done = []; counted = refl; read = rw z (made-id (items item n at)); wrote = w }

  module _ {p q i : ℕ} {out : List ℕ} (g : Going item f n at old o p q i out) where
    pub going-not : i < n → item p ≡ Not → items item n at ≡ Not
    going-not l e = g.read ∙ ap (made (λ vs. g.done ++ vs)) (items-not item (n - i) p (omega arith) e)

    pub going_end : n ≤ i → items item n at ≡ Gives g.done p
    going_end e = g.read ∙ ap (made (λ vs. g.done ++ vs)) (items-end item (n - i) p (omega arith)) ∙ ap (λ (l : List A). Gives l p) (append-nil g.done)

    pub going-go : length old ≤ largest → i < n → {q' e z : ℕ} {out' out'' : List ℕ} → Wrote out q (comma (ltb 0 i)) q' out'
        → Took out' q' f (item p) e z out'' → Going item f n at old o e z (i + 1) out''
    going-go m l w t =
        let c = g.counted in
        let d : length (g.done ++ (t.value ∷ [])) ≡ i + 1 = simp length-append (omega arith) in
        let k : n - i - 1 ≡ n - (i + 1) = omega arith in
        record {
          done = g.done ++ (t.value ∷ []);
          counted = d;
          read = rw (sym k) (g.read ∙ ap (made (λ vs. g.done ++ vs)) (items-go item (n - i) p (omega arith) t.read) ∙ made-made g.done t.value (items item (n - i - 1) _));
          wrote = wrote (separated-snoc f g.done t.value i g.counted) (wrote_then m (wrote_then m g.wrote w) t.wrote);
        }
