-- The messages sent as a client hears them (PROTOCOL, "Sent"): bytes of a format to a message, or to nothing. They are read as the messages
-- taken in are (incoming/specs/Read.antt), by the elements of the list, here by their texts. A text may be longer: the limit is an argument.
use Rattle.std.specs.Prelude.{ℕ, ◌+◌, ◌*◌, cond, ◌||◌, List, [], ◌∷◌, map}
use lib.{ListN.length, ListN.drop, ListN.get_or, Dec.eqb}
use Rattle.seq.specs.declared.Format.{Format}
use Rattle.seq.specs.declared.Format.TheVariants.{Json, MsgPack}
use Rattle.seq.specs.Bytes.{chars, text_of, Payload}
use Rattle.elements.specs.Kinds.{an_id, a_string, a_list, a_dict}
use Rattle.elements.specs.Kinds as Kinds
use Rattle.elements.specs.Elements as Elements
use Rattle.members.specs.Members as Members
use Rattle.arrays.specs.Arrays as Arrays
use Rattle.maps.specs.Maps as Maps
use Rattle.incoming.specs.Read.{text_by, sound_by, is_string, inside, shape, encoded}
use Rattle.outgoing.specs.Outgoing.{Outgoing, Welcome, Abort, Goodbye, Error, Reply, Published, Subscribed, Event, Registered, Unsubscribed}
use Rattle.outgoing.specs.Outgoing.{Unregistered, Invocation, Result, Failure, Request, Publish, Subscribe, Unsubscribe, Register, Unregister}
use Rattle.outgoing.specs.Outgoing.{Details, Plain, Names}

pub data Heard : Type 0 where
  Is : Outgoing → Heard
  Nothing : Heard

-- ---- elements, by the message's format
-- the texts of the list's elements
abbrev pub texts_in : Format → ℕ → List ℕ → List (List ℕ)
texts_in Json limit s = map (text_of s) (Elements.listed_in limit s)
texts_in MsgPack limit s = map (text_of s) (Arrays.listed_in limit s)

abbrev pub kind_of : Format → List ℕ → ℕ
kind_of Json t = Kinds.kind t
kind_of MsgPack t = Arrays.kind t

abbrev pub id_of : Format → List ℕ → ℕ
id_of Json t = Kinds.id_of t
id_of MsgPack t = Arrays.id_of t

-- the value of a dict's member, by its key; [] where it is absent
abbrev pub member_of : Format → ℕ → List ℕ → List ℕ → List ℕ
member_of Json limit key t = Members.member_in limit key t
member_of MsgPack limit key t = Maps.member_in limit key t

-- element k, and no bytes past the last
abbrev pub nth : ℕ → List (List ℕ) → List ℕ
nth k es = get_or es k []

-- go on with the text that a string stands for, in which no half of a surrogate pair stands alone
unfoldable pub on_text : Format → List ℕ → (List ℕ → Heard) → Heard
on_text f t message = cond (sound_by f (inside f t)) (message (text_by f (inside f t))) Nothing

-- an optional payload after the elements of a shape: a list, then optionally a dict
unfoldable pub with_payload : ℕ → ℕ → Payload → (Payload → Heard) → Heard
with_payload kinds before payload message =
    cond (eqb kinds before || (eqb kinds (before * 10 + a_list) || eqb kinds ((before * 10 + a_list) * 10 + a_dict))) (message payload) Nothing

-- the Details of an EVENT or INVOCATION: the URI under this key, or none
unfoldable pub named : Format → List ℕ → (Details → Heard) → Heard
named f v message =
    cond (eqb (length v) 0) (message Plain) (cond (is_string f v) (on_text f v λ uri. message (Names uri)) Nothing)

-- ---- messages by their number; es are their elements
-- [2,Session,Details]
unfoldable pub welcome : Format → ℕ → List (List ℕ) → Heard
welcome f kinds es = cond (eqb kinds (shape (an_id ∷ an_id ∷ a_dict ∷ []))) (Is (Welcome (id_of f (nth 1 es)))) Nothing

-- [3,Details,Reason] and [6,Details,Reason]
unfoldable pub ending : Format → (List ℕ → Outgoing) → ℕ → List (List ℕ) → Heard
ending f message kinds es =
    cond (eqb kinds (shape (an_id ∷ a_dict ∷ a_string ∷ []))) (on_text f (nth 2 es) λ reason. Is (message reason)) Nothing

-- "Type is the message number of the request that the ERROR answers"
unfoldable pub typed : ℕ → (Request → Heard) → Heard
typed n message =
    cond (eqb n 16) (message Publish)
    (cond (eqb n 32) (message Subscribe)
    (cond (eqb n 34) (message Unsubscribe)
    (cond (eqb n 64) (message Register)
    (cond (eqb n 66) (message Unregister)
    Nothing))))

-- [8,Type,Request,Details,Error,P]: of type 48 it answers a CALL, and may have a payload
abbrev pub error_shape : ℕ
error_shape = shape (an_id ∷ an_id ∷ an_id ∷ a_dict ∷ a_string ∷ [])

unfoldable pub failure : Format → ℕ → List (List ℕ) → Heard
failure f kinds es =
    on_text f (nth 4 es) λ uri.
    cond (eqb (id_of f (nth 1 es)) 48)
    (with_payload kinds error_shape (drop 5 es) λ p. Is (Reply (id_of f (nth 2 es)) (Failure uri p)))
    (cond (eqb kinds error_shape) (typed (id_of f (nth 1 es)) λ type. Is (Error type (id_of f (nth 2 es)) uri)) Nothing)

-- [50,Request,Details,P]
unfoldable pub result : Format → ℕ → List (List ℕ) → Heard
result f kinds es =
    with_payload kinds (shape (an_id ∷ an_id ∷ a_dict ∷ [])) (drop 3 es) λ p. Is (Reply (id_of f (nth 1 es)) (Result p))

-- [35,Request] and [67,Request]
unfoldable pub released : Format → (ℕ → Outgoing) → ℕ → List (List ℕ) → Heard
released f message kinds es = cond (eqb kinds (shape (an_id ∷ an_id ∷ []))) (Is (message (id_of f (nth 1 es)))) Nothing

-- [17,Request,Publication], [33,Request,Subscription] and [65,Request,Registration]
unfoldable pub granted : Format → (ℕ → ℕ → Outgoing) → ℕ → List (List ℕ) → Heard
granted f message kinds es =
    cond (eqb kinds (shape (an_id ∷ an_id ∷ an_id ∷ []))) (Is (message (id_of f (nth 1 es)) (id_of f (nth 2 es)))) Nothing

-- [36,Subscription,Publication,Details,P] and [68,Request,Registration,Details,P]
unfoldable pub relayed : Format → ℕ → List ℕ → (ℕ → ℕ → Details → Payload → Outgoing) → ℕ → List (List ℕ) → Heard
relayed f limit key message kinds es =
    named f (member_of f limit key (nth 3 es)) λ details.
    with_payload kinds (shape (an_id ∷ an_id ∷ an_id ∷ a_dict ∷ [])) (drop 4 es) λ p.
    Is (message (id_of f (nth 1 es)) (id_of f (nth 2 es)) details p)

unfoldable pub by_number : Format → ℕ → ℕ → ℕ → List (List ℕ) → Heard
by_number f limit n kinds es =
    cond (eqb n 2) (welcome f kinds es)
    (cond (eqb n 3) (ending f Abort kinds es)
    (cond (eqb n 6) (ending f Goodbye kinds es)
    (cond (eqb n 8) (failure f kinds es)
    (cond (eqb n 17) (granted f Published kinds es)
    (cond (eqb n 33) (granted f Subscribed kinds es)
    (cond (eqb n 35) (released f Unsubscribed kinds es)
    (cond (eqb n 36) (relayed f limit (chars "topic") Event kinds es)
    (cond (eqb n 50) (result f kinds es)
    (cond (eqb n 65) (granted f Registered kinds es)
    (cond (eqb n 67) (released f Unregistered kinds es)
    (cond (eqb n 68) (relayed f limit (chars "procedure") Invocation kinds es)
    Nothing)))))))))))

unfoldable pub by_texts : Format → ℕ → List (List ℕ) → Heard
by_texts f limit es = by_number f limit (id_of f (nth 0 es)) (shape (map (kind_of f) es)) es

-- one list of the format, of so many bytes at most
unfoldable pub heard : Format → ℕ → List ℕ → Heard
heard f limit s = cond (encoded f s) (by_texts f limit (texts_in f limit s)) Nothing
