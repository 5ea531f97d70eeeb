-- What it means that a reply carries an answer (PROTOCOL, "The book of demand 3"): within a format equal bytes, across formats equal values.
-- What bytes stand for (values/specs/Stands.antt, Same.antt) is defined apart from what writes, and said a second time as sets of texts by each
-- format's own grammar (crates/meanings), so that a wrong converter cannot prove itself.
use Rattle.std.specs.Prelude.{◌≡◌}
use Rattle.model.specs.Words.{ℕ, List, [], chars, Format, Payload, Answer, Result, Failure}
use Rattle.seq.specs.Lists.{Both}
use Rattle.values.specs.Same.{SameValue, Unlike}

-- a payload that came in format f, and the one that goes in format g
pub record SamePayload (f g : Format) (p q : Payload) : Type 0 where
  pub within : f ≡ g → q ≡ p
  pub across : ¬ (f ≡ g) → Both (SameValue f g) p q

abbrev pub payload_of : Answer → Payload
payload_of (Result p) = p
payload_of (Failure uri p) = p

-- the reply in format g to a call that was answered so in format f; an error's URI is the same text
pub data Carries (f g : Format) : Answer → Answer → Type 0 where
  result : (p q : Payload) → SamePayload f g p q → Carries f g (Result p) (Result q)
  failure : (uri : List ℕ) (p q : Payload) → SamePayload f g p q → Carries f g (Failure uri p) (Failure uri q)
  none : (a : Answer) → ¬ (f ≡ g) → Unlike f (payload_of a) → Carries f g a (Failure (chars "hub.error.not_convertible") [])
