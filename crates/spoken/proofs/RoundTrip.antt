-- Reading what was written gives the message back, in JSON and in MessagePack, for every message taken in and every message sent. Assumes
-- nothing.
use Prim.Native.Nat.{ℕ, ◌≤◌}
use mathlib.Core.Bool.{true}
use mathlib.Core.List.{List}
use mathlib.Core.Path.{◌≡◌}
use lib.ListN.{length}
use Rattle.seq.specs.declared.Format.{Format}
use Rattle.uri.specs.declared.Policy.{Policy}
use Rattle.uri.specs.Rule.{UriText}
use Rattle.utf8.specs.Utf8.{well_formed}
use Rattle.values.specs.Value.{GoodText}
use Rattle.incoming.specs.Incoming.{Incoming}
use Rattle.incoming.specs.Read.{read}
use Rattle.outgoing.specs.declared.Uri.{Uri}
use Rattle.outgoing.specs.Outgoing.{Outgoing, uri_text, render}
use Rattle.spoken.specs.Written.{written, Writable}
use Rattle.spoken.specs.Sent.{elements, IsListOf, IsText, Sayable, Sendable}
use Rattle.spoken.specs.Heard.{Is, heard}
use Rattle.spoken.proofs.Back.{read_back, written_once}
use Rattle.spoken.proofs.Told.{is-list, is-text, heard-back, sent-once}
use Rattle.spoken.proofs.Sayable.{own-sayable, uri-sayable}

pub record RoundTrip : Type 0 where
  -- ---- messages taken in
  -- what a client writes for a message is read as that message, so none of them is refused
  pub taken : (f : Format) (reason : List ℕ) → GoodText reason → (m : Incoming) → Writable f m → length (written f reason m) ≤ 2048
      → read f (written f reason m) ≡ m
  -- and no two messages are written alike, whatever reasons they give
  pub taken-once : (f : Format) (reason other : List ℕ) → GoodText reason → GoodText other → (m n : Incoming) → Writable f m → Writable f n
      → length (written f reason m) ≤ 2048 → written f reason m ≡ written f other n → m ≡ n
  -- ---- messages sent
  -- what is sent for a message is heard as that message, by every client that takes so many bytes
  pub heard : (f : Format) (limit : ℕ) (m : Outgoing) → Sendable f m → length (render f m) ≤ limit → heard f limit (render f m) ≡ Is m
  -- it is one list of the message's elements, and a text or a value of the format, by the format's own grammar
  pub list : (f : Format) (limit : ℕ) (m : Outgoing) → Sendable f m → length (render f m) ≤ limit → IsListOf f limit (elements f m) (render f m)
  pub text : (f : Format) (m : Outgoing) → Sendable f m → IsText f (render f m)
  -- and no two messages are sent alike
  pub sent-once : (f : Format) (m n : Outgoing) → Sendable f m → Sendable f n → render f m ≡ render f n → m ≡ n
  -- the hub's own URIs can be sent, and so can every URI of UTF-8
  pub own : (f : Format) (u : Uri) → Sayable f (uri_text u)
  pub uri : (f : Format) (p : Policy) (t : List ℕ) → well_formed t ≡ true → UriText p t → Sayable f t

pub round-trip : RoundTrip
round-trip = record {
  taken = read_back;
  taken-once = written_once;
  heard = heard-back;
  list = is-list;
  text = is-text;
  sent-once = sent-once;
  own = own-sayable;
  uri = uri-sayable;
}
