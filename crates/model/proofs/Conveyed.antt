-- An answer goes on as the book owes it (specs/Carries.antt). Assumes nothing.
use Prim.Native.Nat.{ℕ, suc}
use mathlib.Core.List.{List, [], ◌∷◌}
use mathlib.Core.Path.{◌≡◌, refl, sym, ap, subst, ◌∙◌}
use native.Mathlib.Omega.{arith}
use lib.ListN.{length}
use Rattle.seq.specs.Lists.{All, In, Both}
use Rattle.seq.specs.declared.Format.{Format}
use Rattle.seq.specs.declared.Format.TheVariants.{Json, MsgPack}
use Rattle.seq.specs.Bytes.{Payload}
use Rattle.values.specs.Whole.{Whole}
use Rattle.conversion.specs.Carried.{Carried, As, NotConvertible, on_carried, carried, converted}
use Rattle.conversion.proofs.Carried.{carried_same}
use Rattle.conversion.proofs.Same.{Comes, comes}
use Rattle.outgoing.specs.Outgoing.{Answer, Result, Failure}
use Rattle.model.specs.Step.{not_convertible, conveyed}
use Rattle.model.specs.Book.{Due, due}
use Rattle.model.specs.Run.{Meets}
use Rattle.model.specs.Carries.{SamePayload, payload_of, Carries, result, failure, none}

no_more : {A B : Type 0} (R : A → B → Type 0) (xs : List A) (ys : List B) → Both R xs ys → xs ≡ [] → ys ≡ []
no_more R [] [] r e = refl
no_more R [] (y ∷ ys) r e = absurd r
no_more R (x ∷ xs) [] r e = refl
no_more R (x ∷ xs) (y ∷ ys) r e = absurd (let z : ◌≡◌ {A = ℕ} (suc (length xs)) 0 = ap length e in omega arith)

-- within a format an answer is carried as it came
same-payload : (f : Format) (p : Payload) → SamePayload f f p p
same-payload f p = record { within = λ _. refl; across = λ n. absurd (n refl) }

pub carries_same : (f : Format) (a : Answer) → Carries f f a a
carries_same f (Result p) = result p p (same-payload f p)
carries_same f (Failure uri p) = failure uri p p (same-payload f p)

conveyed-same : (f : Format) (a : Answer) → conveyed f f a ≡ a
unfolding conveyed
conveyed-same f (Result p) = rw (carried_same f p)
conveyed-same f (Failure uri p) = rw (carried_same f p)

-- the same answer with another payload
abbrev with_payload : Answer → Payload → Answer
with_payload (Result p) q = Result q
with_payload (Failure uri p) q = Failure uri q

pub unlike : ¬ (Json ≡ MsgPack)
unlike e = let z : ◌≡◌ {A = ℕ} 0 1 = cc in omega arith

conveyed-across : (f g : Format) (a : Answer)
    → conveyed f g a ≡ on_carried (carried f g (payload_of a)) (λ q. with_payload a q) not_convertible
unfolding conveyed
conveyed-across f g (Result p) = refl
conveyed-across f g (Failure uri p) = refl

-- an answer without a payload, whatever the formats
none-same : (f g : Format) → SamePayload f g [] []
none-same f g = record { within = λ _. refl; across = λ _. tt }

pub carries-none : (f g : Format) (uri : List ℕ) → Carries f g (Failure uri []) (Failure uri [])
carries-none f g uri = failure uri [] [] (none-same f g)

-- and an answer without a payload is carried by itself alone
none_only : (f g : Format) (p q : Payload) → SamePayload f g p q → p ≡ [] → q ≡ []
none_only Json Json p q s e = s.within refl ∙ e
none_only MsgPack MsgPack p q s e = s.within refl ∙ e
none_only Json MsgPack p q s e = no_more _ p q (s.across (λ x. let z : ◌≡◌ {A = ℕ} 0 1 = cc in omega arith)) e
none_only MsgPack Json p q s e = no_more _ p q (s.across (λ x. let z : ◌≡◌ {A = ℕ} 0 1 = cc in omega arith)) e

pub carries-itself : (f g : Format) (a b : Answer) → Carries f g a b → payload_of a ≡ [] → b ≡ a
carries-itself f g a b (result p q s) e = ap Result (none_only f g p q s e ∙ sym e)
carries-itself f g a b (failure uri p q s) e = ap (Failure uri) (none_only f g p q s e ∙ sym e)
carries-itself f g a b (none x n u) e = absurd (subst (In u.0) e u.1)

-- within a format what carries an answer is that answer, so the reply that meets one owed is that one
carries-within : (f g : Format) (a b : Answer) → Carries f g a b → f ≡ g → b ≡ a
carries-within f g a b (result p q s) e = ap Result (s.within e)
carries-within f g a b (failure uri p q s) e = ap (Failure uri) (s.within e)
carries-within f g a b (none x n u) e = absurd (n e)

pub meets-within : (owed sent : Due) → Meets owed sent → owed.format ≡ sent.format → sent ≡ owed
meets-within owed sent m e =
    let s = m.session in
    let r = m.request in
    let a = carries-within _ _ _ _ m.answer e in
    let whole : due sent.session sent.request sent.format sent.answer
    ≡ due owed.session owed.request owed.format owed.answer = cc in
    whole

-- across formats
module _ (f g : Format) (other : ¬ (f ≡ g)) where
  abbrev Goes : Answer → Carried → Type 0
  Goes a c = Carries f g a (on_carried c (λ q. with_payload a q) not_convertible)

  goes : (a : Answer) (c : Carried) → Comes f g (payload_of a) c → Goes a c
  goes (Result p) (As q) b = result p q (record { within = λ e. absurd (other e); across = λ _. b })
  goes (Failure uri p) (As q) b = failure uri p q (record { within = λ e. absurd (other e); across = λ _. b })
  goes a NotConvertible b = none a other b

-- an answer whose values were read, as a receiver's format has it
pub carries-conveyed : (f g : Format) (a : Answer) → All (Whole f) (payload_of a) → Carries f g a (conveyed f g a)
unfolding carried
carries-conveyed Json Json a w = rw (conveyed-same Json a) (carries_same Json a)
carries-conveyed MsgPack MsgPack a w = rw (conveyed-same MsgPack a) (carries_same MsgPack a)
carries-conveyed Json MsgPack a w = rw (conveyed-across Json MsgPack a) (goes Json MsgPack unlike a (converted Json MsgPack (payload_of a)) (comes Json MsgPack (payload_of a) w))
carries-conveyed MsgPack Json a w = rw (conveyed-across MsgPack Json a)
    (goes MsgPack Json (λ e. unlike (sym e)) a (converted MsgPack Json (payload_of a)) (comes MsgPack Json (payload_of a) w))
