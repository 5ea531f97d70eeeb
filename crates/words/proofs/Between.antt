-- Payloads between the formats: what goes in the receiver's format stands for the same values, and what does not convert stands for none.
-- Assumes nothing.
use Prim.Native.Nat.{ℕ}
use mathlib.Core.List.{List, [], ◌∷◌}
use mathlib.Core.Logic.{inl, inr, ◌↔◌}
use mathlib.Core.Path.{◌≡◌, refl, sym, subst}
use native.Mathlib.Omega.{arith}
use lib.ListN.{length}
use Rattle.seq.specs.declared.Format.{Format}
use Rattle.seq.specs.declared.Format.TheVariants.{Json, MsgPack}
use Rattle.seq.specs.Bytes.{Payload}
use Rattle.seq.specs.Lists.{All, Both, In}
use Rattle.values.specs.Whole.{Whole}
use Rattle.values.specs.Same.{SameValue, Unlike}
use Rattle.conversion.specs.Carried.{Carried, As, NotConvertible, carried}
use Rattle.conversion.proofs.Same.{Comes, comes}
use Rattle.model.specs.Carries.{SamePayload}
use Rattle.model.proofs.Conveyed.{unlike}

-- a payload, or none
no_payload : (p : Payload) → As p ≡ NotConvertible → ⊥
no_payload p e = let z : ◌≡◌ {A = ℕ} 0 1 = cc in omega arith

-- each of the values on the left has one on the right
both-in : {A B : Type 0} (R : A → B → Type 0) (xs : List A) (ys : List B) → Both R xs ys → (a : A) → In a xs → (b : B) × R a b
both-in R [] ys m a i = absurd i
both-in R (x ∷ xs) [] m a i = absurd m
both-in R (x ∷ xs) (y ∷ ys) m a (inl e) = (y, subst (λ (z : _). R z y) (sym e) m.0)
both-in R (x ∷ xs) (y ∷ ys) m a (inr i) = both-in R xs ys m.1 a i

module _ (f g : Format) (p : Payload) where
  -- across formats, by what the payload is converted to
  same-across : ¬ (f ≡ g) → (q : Payload) → Comes f g p (As q) → SamePayload f g p q
  same-across n q b = record { within = λ e. absurd (n e); across = λ _. b }

  like-stops : (c : Carried) → Comes f g p c → Unlike f p → c ≡ NotConvertible
  like-stops (As q) b (v, i, none) = let (w, s) = both-in (SameValue f g) p q b v i in absurd (none s.value (length v) s.came)
  like-stops NotConvertible b u = refl

same-within : (f : Format) (p q : Payload) → As p ≡ As q → SamePayload f f p q
same-within f p q e = record { within = λ _. cc; across = λ n. absurd (n refl) }

pub payload-goes : (f g : Format) (p q : Payload) → All (Whole f) p → carried f g p ≡ As q → SamePayload f g p q
unfolding carried
payload-goes Json Json p q w e = same-within Json p q e
payload-goes MsgPack MsgPack p q w e = same-within MsgPack p q e
payload-goes Json MsgPack p q w e = same-across Json MsgPack p unlike q (subst (Comes Json MsgPack p) e (comes Json MsgPack p w))
payload-goes MsgPack Json p q w e = same-across MsgPack Json p (λ k. unlike (sym k)) q (subst (Comes MsgPack Json p) e (comes MsgPack Json p w))

pub payload-stops : (f g : Format) (p : Payload) → All (Whole f) p → (carried f g p ≡ NotConvertible) ↔ (¬ (f ≡ g) × Unlike f p)
unfolding carried
payload-stops Json Json p w = (λ e. absurd (no_payload p e), λ (n, u). absurd (n refl))
payload-stops MsgPack MsgPack p w = (λ e. absurd (no_payload p e), λ (n, u). absurd (n refl))
payload-stops Json MsgPack p w = (
  λ e. (unlike, subst (Comes Json MsgPack p) e (comes Json MsgPack p w)),
  λ (n, u). like-stops Json MsgPack p _ (comes Json MsgPack p w) u,
)
payload-stops MsgPack Json p w = (
  λ e. (λ k. unlike (sym k), subst (Comes MsgPack Json p) e (comes MsgPack Json p w)),
  λ (n, u). like-stops MsgPack Json p _ (comes MsgPack Json p w) u,
)
