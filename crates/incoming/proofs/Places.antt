-- The elements of a list by their places, and the text of a span. Assumes nothing.
use Prim.Native.Nat.{ℕ, zero, suc, ◌-◌, ◌≤◌}
use mathlib.Core.List.{List, [], ◌∷◌, ◌++◌, map}
use mathlib.Core.Path.{◌≡◌, refl, sym, ap, ◌∙◌}
use native.Mathlib.Omega.{arith}
use lib.ListN.{length, get_or, drop, length-take, length-drop}
use Rattle.seq.specs.declared.Span.{Span}
use Rattle.seq.specs.Bytes.{text_of}

-- the values of f from i on, n of them
abbrev pub table_from : {A : Type 0} → (ℕ → A) → ℕ → ℕ → List A
table_from f i zero = []
table_from f i (suc n) = f i ∷ table_from f (suc i) n

table-next : {A : Type 0} (f : ℕ → A) (i n : ℕ) → table_from f (suc i) n ≡ table_from (λ k. f (suc k)) i n
table-next f i zero = refl
table-next f i (suc n) = ap (λ l. f (suc i) ∷ l) (table-next f (suc i) n)

-- what f makes of a list: of its first n elements, by their places, and of those that are left
pub heads : {A B : Type 0} (f : A → B) (d : A) (n : ℕ) (xs : List A) → n ≤ length xs
    → map f xs ≡ table_from (λ k. f (get_or xs k d)) 0 n ++ drop n (map f xs)
heads f d zero xs h = refl
heads f d (suc n) [] h = absurd (omega arith)
heads f d (suc n) (x ∷ xs) h =
    ap (λ l. f x ∷ l) (heads f d n xs (omega arith) ∙ ap (λ l. l ++ drop n (map f xs)) (sym (table-next (λ k. f (get_or (x ∷ xs) k d)) 0 n)))

-- a list of one element, or of two, by what f makes of it
pub only_one : {A B : Type 0} (f : A → B) (d : A) (y : B) (xs : List A) → map f xs ≡ y ∷ [] → xs ≡ get_or xs 0 d ∷ []
only_one f d y [] e = absurd (let z : ◌≡◌ {A = ℕ} 0 1 = ap length e in omega arith)
only_one f d y (x ∷ []) e = refl
only_one f d y (x ∷ (w ∷ xs)) e = absurd (let z : ◌≡◌ {A = ℕ} (suc (suc (length (map f xs)))) 1 = ap length e in omega arith)

pub only_two : {A B : Type 0} (f : A → B) (d : A) (y z : B) (xs : List A) → map f xs ≡ y ∷ z ∷ [] → xs ≡ get_or xs 0 d ∷ get_or xs 1 d ∷ []
only_two f d y z [] e = absurd (let q : ◌≡◌ {A = ℕ} 0 2 = ap length e in omega arith)
only_two f d y z (x ∷ []) e = absurd (let q : ◌≡◌ {A = ℕ} 1 2 = ap length e in omega arith)
only_two f d y z (x ∷ (w ∷ [])) e = refl
only_two f d y z (x ∷ (w ∷ (v ∷ xs))) e = absurd (let q : ◌≡◌ {A = ℕ} (suc (suc (suc (length (map f xs))))) 2 = ap length e in omega arith)

-- the text of a span is no longer than what it stands in
pub part-short : (s : List ℕ) (p : Span) → length s ≤ 2048 → length (text_of s p) ≤ 2048
part-short s p l = omega (arith, length-take (p.to - p.from) (drop p.from s), length-drop p.from s)
