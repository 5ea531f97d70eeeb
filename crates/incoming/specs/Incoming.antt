-- The messages taken in (PROTOCOL, "Taken in"). Texts are what strings stand for: their escapes are undone.
use Rattle.std.specs.Prelude.{ℕ, Option}
use mathlib.Core.{Bool.Bool, List.List}
use Rattle.seq.specs.Bytes.{Payload}
use Rattle.uri.specs.declared.Policy.{Policy}
use Rattle.options.specs.Audience.{Audience}

pub data Incoming : Type 0 where
  Hello : (realm : List ℕ) → Incoming
  Abort Goodbye : Incoming
  Error : (invocation : ℕ) (uri : List ℕ) (payload : Payload) → Incoming
  Publish : (request : ℕ) (acknowledge : Bool) (audience : Audience) (topic : List ℕ) (payload : Payload) → Incoming
  -- `policy` is what the option `match` names: exact where it is absent, `None` where its value names no policy
  Subscribe : (request : ℕ) (policy : Option Policy) (topic : List ℕ) → Incoming
  Call : (request : ℕ) (procedure : List ℕ) (payload : Payload) → Incoming
  Register : (request : ℕ) (policy : Option Policy) (procedure : List ℕ) → Incoming
  Unsubscribe Unregister : (request id : ℕ) → Incoming
  Yield : (invocation : ℕ) (payload : Payload) → Incoming
  -- bytes that are no such message: a violation whatever the state
  Violation : Incoming
