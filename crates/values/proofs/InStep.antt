-- A reader that gives a value and one that goes over it, in step: laws for both formats. Assumes nothing.
use Rattle.std.specs.Prelude.{Some, None, Option}
use Prim.Native.Nat.{ℕ}
use mathlib.Core.Bool.{true, false, cond}
use mathlib.Core.List.{List, [], ◌∷◌}
use mathlib.Core.Path.{◌≡◌, refl, sym, ◌∙◌}
use Rattle.seq.specs.Bytes.{among}
use Rattle.seq.specs.Lists.{All, Pairs}
use Rattle.seq.proofs.Bytes.{among_there}
use Rattle.seq.proofs.Logic.{split, clash}
use Rattle.lex.specs.Lex.{and_then}
use Rattle.values.specs.Value.{Member, GoodMember, Differ}
use Rattle.values.specs.Read.{Read, then, made, past}
use Rattle.values.specs.Read.Read.{Gives, Not}
use Rattle.values.specs.Stands.{member}

-- they end at the same place, where both do; and where a value is given that is as P says, both do
abbrev pub Agree : {A : Type 0} → (A → Type 0) → Read A → Option ℕ → Type 0
Agree P (Gives v e) (Some z) = e ≡ z
Agree P (Gives v e) None = P v → ⊥
Agree P Not r = Unit {0}

-- the same places, whatever is given
pub agree-past : {A : Type 0} (P : A → Type 0) (f : ℕ → A) (k : Option ℕ) → Agree P (past k (λ e. Gives (f e) e)) k
agree-past P f (Some e) = refl
agree-past P f None = tt

pub agree-made : {A B : Type 0} (P : A → Type 0) (Q : B → Type 0) (g : A → B) → ((x : A) → Q (g x) → P x) → (r : Read A) (k : Option ℕ) → Agree P r k
    → Agree Q (made g r) k
agree-made P Q g f (Gives v e) (Some z) h = h
agree-made P Q g f (Gives v e) None h = λ q. h (f v q)
agree-made P Q g f Not k h = tt

made-bad : {A B : Type 0} (Q : B → Type 0) (g : A → B) → ((x : A) → Q (g x) → ⊥) → (r : Read A) → Agree Q (made g r) None
made-bad Q g f (Gives v e) = f v
made-bad Q g f Not = tt

-- an element, and the others behind it
pub agree-cons : {A : Type 0} (P : A → Type 0) (rest : ℕ → Read (List A)) (go : ℕ → Option ℕ) → ((e : ℕ) → Agree (All P) (rest e) (go e))
    → (r : Read A) (k : Option ℕ) → Agree P r k → Agree (All P) (then r (λ v e. made (λ vs. v ∷ vs) (rest e))) (and_then k go)
agree-cons P rest go n (Gives v e) (Some z) h = rw (sym h) (agree-made (All P) (All P) (λ vs. v ∷ vs) (λ x q. q.1) (rest e) (go e) (n e))
agree-cons P rest go n (Gives v e) None h = made-bad (All P) (λ vs. v ∷ vs) (λ x q. h q.0) (rest e)
agree-cons P rest go n Not k h = tt

-- ---- members behind keys that were seen
pub record New {A : Type 0} (P : A → Type 0) (seen : List (List ℕ)) (ms : List (Member A)) : Type 0 where
  pub good : All (GoodMember P) ms
  pub differ : Pairs Differ ms
  pub new : All (λ m. among m.key seen ≡ false) ms

module _ {A : Type 0} (P : A → Type 0) where
  none_seen : (ms : List (Member A)) → All (λ m. among m.key [] ≡ false) ms
  unfolding among
  none_seen [] = tt
  none_seen (m ∷ ms) = (refl, none_seen ms)

  pub new_none : (ms : List (Member A)) → All (GoodMember P) ms → Pairs Differ ms → New P [] ms
  new_none ms g d = record { good = g; differ = d; new = none_seen ms }

  -- no key of the others is the key k, nor one seen
  still-new : (k : List ℕ) (seen : List (List ℕ)) (ms : List (Member A)) → All (λ m. k ≡ m.key → ⊥) ms → All (λ m. among m.key seen ≡ false) ms
      → All (λ m. among m.key (k ∷ seen) ≡ false) ms
  still-new k seen [] d n = tt
  still-new k seen (m ∷ ms) d n = (among_there m.key k seen d.0 ∙ n.0, still-new k seen ms d.1 n.1)

  new-rest : (m : Member A) (seen : List (List ℕ)) (ms : List (Member A)) → New P seen (m ∷ ms) → New P (m.key ∷ seen) ms
  new-rest m seen ms n =
      record { good = n.good.1; differ = n.differ.1; new = still-new m.key seen ms n.differ.0 n.new.1 }

  module _ (k : List ℕ) (seen : List (List ℕ)) (rest : ℕ → Read (List (Member A))) (go : ℕ → Option ℕ)
      (n : (e : ℕ) → Agree (New P (k ∷ seen)) (rest e) (go e)) where
    abbrev with_rest : Member A → ℕ → Read (List (Member A))
    with_rest m e = made (λ ms. m ∷ ms) (rest e)

    -- a value behind a key that was seen
    seen-agree : among k seen ≡ true → (r : Read A) → Agree (New P seen) (then (made (member k) r) with_rest) None
    seen-agree t (Gives v e) = made-bad (New P seen) (λ ms. member k v ∷ ms) (λ x q. clash t q.new.0) (rest e)
    seen-agree t Not = tt

    -- and behind one that was not
    unseen-agree : (r : Read A) (c : Option ℕ) → Agree P r c → Agree (New P seen) (then (made (member k) r) with_rest) (and_then c go)
    unseen-agree (Gives v e) (Some z) h =
        rw (sym h) (agree-made (New P (k ∷ seen)) (New P seen) (λ ms. member k v ∷ ms) (λ x q. new-rest (member k v) seen x q) (rest e) (go e) (n e))
    unseen-agree (Gives v e) None h = made-bad (New P seen) (λ ms. member k v ∷ ms) (λ x q. h q.good.0.value) (rest e)
    unseen-agree Not c h = tt

    pub agree-member : (r : Read A) (c : Option ℕ) → Agree P r c
        → Agree (New P seen) (then (made (member k) r) (λ m e. made (λ ms. m ∷ ms) (rest e))) (cond (among k seen) None (and_then c go))
    agree-member r c h = split (among k seen) (λ t. rw t (seen-agree t r)) (λ t. rw t (unseen-agree r c h))
