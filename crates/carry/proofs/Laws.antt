-- Values converted one behind the other, and what then stands in the output. Assumes nothing.
use Rattle.std.specs.Prelude.{Option, Some, None}
use Prim.Native.Nat.{ℕ, zero, suc, ◌+◌, ◌-◌, ◌*◌, ◌≤◌, ◌<◌}
use mathlib.Core.List.{List, [], ◌∷◌, ◌++◌}
use mathlib.Core.Path.{◌≡◌, refl, sym, ap, ap₂, ◌∙◌, subst}
use native.Mathlib.Omega.{arith}
use lib.ListN.{length, take, drop, length-append, length-take, length-drop}
use Rattle.seq.specs.declared.Format.{Format}
use Rattle.seq.specs.declared.Format.TheVariants.{Json, MsgPack}
use Rattle.seq.specs.Bytes.{part}
use Rattle.seq.specs.Lists.{All}
use Rattle.seq.proofs.Holds.{Holds, holds-left, holds-right, holds-part}
use Rattle.buffer.specs.Capped.{largest}
use Rattle.buffer.specs.Over.{over}
use Rattle.buffer.proofs.Sums.{capped-exact, capped_le}
use Rattle.buffer.proofs.Over.{over-holds, over-over}
use Rattle.elements.specs.Elements.{inner_depth}
use Rattle.values.specs.Read.{Read}
use Rattle.values.specs.Read.Read.{Gives, Not}
use Rattle.values.specs.Write.{write}
use Rattle.values.specs.Stands.{stands}
use Rattle.values.proofs.Given.{made-gives}
use Rattle.values.proofs.Sizes.{to-json, to-pack}
use Rattle.conversion.specs.declared.Converted.{Converted}
use Rattle.conversion.specs.Converts.{Converts, Ahead, convert, other, answer, Left}
use Rattle.conversion.specs.Carried.{As, NotConvertible, converted}
use Rattle.conversion.proofs.Conv.{Took, took}
use Rattle.carry.specs.Carries.{bytes, Near}

-- ---- one value
-- the two equations of a conversion as one
pub conv-of : (old : List ℕ) (o : ℕ) (r : Read (List ℕ)) (c : Option Converted) (left : List ℕ) → c ≡ answer o r → Left old o r left
    → Converts old o bytes r c left
conv-of old o (Gives w e) c left a b = record { so = (a, b) }
conv-of old o Not c left a b = record { so = a }

-- how long a value of n bytes gets
short : (f : Format) (v : List ℕ) → All (λ b. b < 256) v → (w : List ℕ) (e n : ℕ) → convert f (other f) inner_depth v 0 ≡ Gives w e → e ≤ n
    → length w ≤ 6 * n
unfolding convert
short Json v a w e n h l =
    let m = made-gives (write MsgPack inner_depth) (stands Json inner_depth v 0) w e h in
    let b = to-pack inner_depth v a 0 e m.0 m.1 in
    let q = ap length m.2 in
    omega arith
short MsgPack v a w e n h l =
    let m = made-gives (write Json inner_depth) (stands MsgPack inner_depth v 0) w e h in
    let b = to-json inner_depth v a 0 e m.0 m.1 in
    let q = ap length m.2 in
    omega arith

pub near : (f : Format) (v : List ℕ) → All (λ b. b < 256) v → (n : ℕ) → length v ≤ n → (old : List ℕ) (o : ℕ) (c : Option Converted) (left : List ℕ)
    → Ahead 0 (length v) c → Converts old o bytes (convert f (other f) inner_depth v 0) c left → Near n o c
near f v a n l old o (Some d) left h k =
    let t = took k refl in
    let b = short f v a t.value d.read n t.read (omega (arith, h.1)) in
    omega (arith, t.wrote.ends, capped_le (o + length t.value))
near f v a n l old o None left h k = tt

pub near-done : {c : Option Converted} (n o : ℕ) {d : Converted} → c ≡ Some d → Near n o c → d.written ≤ o + 6 * n
near-done n o q h = subst (λ (c : Option Converted). Near n o c) q h

-- ---- the bytes and the length of a part
all_take : (P : ℕ → Type 0) (n : ℕ) (t : List ℕ) → All P t → All P (take n t)
all_take P zero t a = tt
all_take P (suc n) [] a = tt
all_take P (suc n) (b ∷ t) a = (a.0, all_take P n t a.1)

all_drop : (P : ℕ → Type 0) (n : ℕ) (t : List ℕ) → All P t → All P (drop n t)
all_drop P zero t a = a
all_drop P (suc n) [] a = tt
all_drop P (suc n) (b ∷ t) a = all_drop P n t a.1

pub all-part : (P : ℕ → Type 0) (s : List ℕ) (from to : ℕ) → All P s → All P (part from to s)
all-part P s from to a = all_take P (to - from) (drop from s) (all_drop P from s a)

pub part-short : (s : List ℕ) (from to : ℕ) → length (part from to s) ≤ length s
part-short s from to = simp (length-take, length-drop) (omega arith)

-- ---- a payload
-- by its first value and what the others come to
module _ (f g : Format) (v : List ℕ) (vs : List (List ℕ)) where
  first-is : (w : List ℕ) (e : ℕ) (q : List (List ℕ)) → convert f g inner_depth v 0 ≡ Gives w e → converted f g vs ≡ As q → converted f g (v ∷ vs) ≡ As (w ∷ q)
  unfolding converted
  first-is w e q h k = rw (h, k)

  pub first-not : convert f g inner_depth v 0 ≡ Not → NotConvertible ≡ converted f g (v ∷ vs)
  unfolding converted
  first-not h = rw h

  pub rest-not : (w : List ℕ) (e : ℕ) → convert f g inner_depth v 0 ≡ Gives w e → converted f g vs ≡ NotConvertible → NotConvertible ≡ converted f g (v ∷ vs)
  unfolding converted
  rest-not w e h k = rw (h, k)

none_is : (f g : Format) → converted f g [] ≡ As []
unfolding converted
none_is f g = refl

pub absent : (f g : Format) → As [] ≡ converted f g []
absent f g = sym (none_is f g)

module _ (f g : Format) (old left : List ℕ) (n : ℕ) (held : length old ≤ largest) (room : 12 * n ≤ length old) (v : List ℕ) (e m : ℕ) where
  -- the list alone
  pub one : Took old 0 bytes (convert f g inner_depth v 0) e m left → m ≤ 0 + 6 * n → As (part 0 m left ∷ []) ≡ converted f g (v ∷ [])
  one t b =
      let w = t.value in
      let q : m ≡ length w = omega (arith, capped-exact (0 + length w) m t.wrote.ends (omega arith)) in
      let h : Holds left 0 w = subst (λ s. Holds s 0 w) (sym t.wrote.leaves) (over-holds old w (omega arith)) in
      let p : part 0 m left ≡ w = ap (λ n. part 0 n left) (let x : m ≡ 0 + length w = omega arith in x) ∙ holds-part left 0 w h in
      ap (λ x. As (x ∷ [])) p ∙ sym (first-is f g v [] w e [] t.read (none_is f g))

  -- the dict behind it
  pub both : (end u : List ℕ) (d z : ℕ) → Took old 0 bytes (convert f g inner_depth v 0) e m left → m ≤ 0 + 6 * n
      → Took left m bytes (convert f g inner_depth u 0) d z end → z ≤ m + 6 * n
      → As (part 0 m end ∷ part m z end ∷ []) ≡ converted f g (v ∷ u ∷ [])
  both end u d z t i k l =
      let w = t.value in
      let x = k.value in
      let q : m ≡ 0 + length w = capped-exact (0 + length w) m t.wrote.ends (omega arith) in
      let r : z ≡ m + length x = capped-exact (m + length x) z k.wrote.ends (omega arith) in
      let b : end ≡ over old 0 (w ++ x) =
      k.wrote.leaves ∙ ap (λ l. over l m x) t.wrote.leaves ∙ ap (λ n. over (over old 0 w) n x) q ∙ over-over old 0 w x in
      let s = length-append w x in
      let h : Holds end 0 (w ++ x) = subst (λ s. Holds s 0 (w ++ x)) (sym b) (over-holds old (w ++ x) (omega arith)) in
      let p : part 0 m end ≡ w = ap (λ n. part 0 n end) q ∙ holds-part end 0 w (holds-left end 0 w x h) in
      let y : Holds end m x = subst (λ n. Holds end n x) (sym q) (holds-right end 0 w x h) in
      let o : part m z end ≡ x = ap (λ n. part m n end) r ∙ holds-part end m x y in
      ap₂ (λ a b. As (a ∷ b ∷ [])) p o ∙ sym (first-is f g v (u ∷ []) w e (x ∷ []) t.read (first-is f g u [] x d [] k.read (none_is f g)))
