-- Reading a message (PROTOCOL, "Reading a message"): bytes of a format to a message, or a violation. In the definitions s is the message
-- and spans are elements of its list.
use Rattle.std.specs.Prelude.{ℕ, ◌+◌, ◌*◌, ◌-◌, Some, None, Option}
use mathlib.Core.{Bool.Bool, Bool.true, Bool.not, Bool.cond, Bool.◌&&◌, Bool.◌||◌, List.List, List.[], List.◌∷◌}
use lib.{ListN.length, ListN.drop, Dec.eqb, Dec.leb}
use Rattle.seq.specs.{declared.Format.Format, declared.Format.TheVariants.Json, declared.Format.TheVariants.MsgPack, declared.Span.Span, Bytes.is_byte, Bytes.is, Bytes.byte_at, Bytes.chars, Bytes.part, Bytes.text_of, Bytes.same, Bytes.Payload, Lists.every}
use Rattle.uri.specs.{declared.Policy.Policy, declared.Policy.TheVariants.Exact, declared.Policy.TheVariants.Prefix, declared.Policy.TheVariants.Wildcard, Uri.valid_error}
use Rattle.utf8.specs.Utf8.{well_formed}
use Rattle.strings.specs.Strings.{undone, has_lone, inner}
use Rattle.json_text.specs.Json.{max_bytes}
use Rattle.elements.specs.{Kinds.id_of, Kinds.an_id, Kinds.a_string, Kinds.a_list, Kinds.a_dict, Elements.at}
use Rattle.elements.specs.Elements as Elements
use Rattle.members.specs.Members as Members
use Rattle.members.specs.Members.{sound_in}
use Rattle.msgpack.specs.Head.{head_at, str}
use Rattle.arrays.specs.Arrays as Arrays
use Rattle.maps.specs.Maps as Maps
use Rattle.options.specs.Audience.{Audience, bool_text, flag_of, ids_of}
use Rattle.incoming.specs.Incoming.{Incoming, Hello, Abort, Goodbye, Error, Publish, Subscribe, Unsubscribe, Call, Register, Unregister, Yield, Violation}

-- ---- elements, by the message's format
-- the elements of the message's list, and their kinds
abbrev pub spans_in : Format → List ℕ → List Span
spans_in Json s = Elements.listed s
spans_in MsgPack s = Arrays.listed s

abbrev pub kinds_in : Format → List ℕ → List Span → ℕ
kinds_in Json s ps = Elements.kinds_of s ps
kinds_in MsgPack s ps = Arrays.kinds_of s ps

abbrev pub id_in : Format → List ℕ → Span → ℕ
id_in Json s p = id_of (text_of s p)
id_in MsgPack s p = Arrays.id_of (text_of s p)

-- the bytes of a str, behind its head
abbrev pub str_bytes : List ℕ → List ℕ
str_bytes t = drop (head_at t 0).end t

-- what stands between a string's quotes, or behind a str's head
abbrev pub within : Format → List ℕ → Span → List ℕ
within Json s p = part (p.from + 1) (p.to - 1) s
within MsgPack s p = str_bytes (text_of s p)

-- the text that these bytes stand for: the escapes of JSON are undone
abbrev pub text_by : Format → List ℕ → List ℕ
text_by Json t = undone t
text_by MsgPack t = t

abbrev pub text_in : Format → List ℕ → Span → List ℕ
text_in f s p = text_by f (within f s p)

-- "A lone surrogate half in such a string is a violation": none stands in it. MessagePack has no escapes, and a str is well-formed
abbrev pub sound_by : Format → List ℕ → Bool
sound_by Json t = not (has_lone t)
sound_by MsgPack t = true

abbrev pub sound_text : Format → List ℕ → Span → Bool
sound_text f s p = sound_by f (within f s p)

-- nor in a key of the Options
abbrev pub sound_options : Format → List ℕ → Span → Bool
sound_options Json s options = sound_in (text_of s options)
sound_options MsgPack s options = true

-- the value of an option, by its key; [] where it is absent. Unknown keys are passed over
abbrev pub option : Format → List ℕ → List ℕ → Span → List ℕ
option Json key s options = Members.value_in key (text_of s options)
option MsgPack key s options = Maps.value_in key (text_of s options)

-- the policy that a text names
unfoldable pub policy_named : List ℕ → Option Policy
policy_named t =
    cond (same t (chars "exact")) (Some Exact)
    (cond (same t (chars "prefix")) (Some Prefix)
    (cond (same t (chars "wildcard")) (Some Wildcard)
    None))

-- a value is a string; what stands inside it
abbrev pub is_string : Format → List ℕ → Bool
is_string Json v = is "\"" (byte_at v 0)
is_string MsgPack v = eqb (head_at v 0).kind str

abbrev pub inside : Format → List ℕ → List ℕ
inside Json v = inner v
inside MsgPack v = str_bytes v

-- `match` absent means exact; what is no string names no policy
unfoldable pub policy_of : Format → List ℕ → Option Policy
policy_of f v =
    cond (eqb (length v) 0) (Some Exact) (cond (is_string f v) (policy_named (text_by f (inside f v))) None)

abbrev pub sound_value : Format → List ℕ → Bool
sound_value f v = not (is_string f v) || sound_by f (inside f v)

unfoldable pub match_in : Format → List ℕ → Span → Option Policy
match_in f s options = policy_of f (option f (chars "match") s options)

-- no lone half stands in a value of `match` that is a string
unfoldable pub sound_match : Format → List ℕ → Span → Bool
sound_match f s options = sound_value f (option f (chars "match") s options)

-- `acknowledge` is literally true
unfoldable pub acknowledge_in : Format → List ℕ → Span → Bool
acknowledge_in f s options = same (option f (chars "acknowledge") s options) (bool_text f true)

-- the options that choose an event's receivers
unfoldable pub audience_in : Format → List ℕ → Span → Audience
audience_in f s options =
    record {
      exclude_me = flag_of f (option f (chars "exclude_me") s options);
      exclude = ids_of f (option f (chars "exclude") s options);
      eligible = ids_of f (option f (chars "eligible") s options);
    }

-- ---- shapes: the kinds of a message's elements, as `kinds_of` has them
abbrev pub shape_from : ℕ → List ℕ → ℕ
shape_from v [] = v
shape_from v (k ∷ ks) = shape_from (v * 10 + k) ks

abbrev pub shape : List ℕ → ℕ
shape kinds = shape_from 0 kinds

-- an optional payload after the elements of a shape: a list, then optionally a dict
unfoldable pub with_payload : ℕ → ℕ → List ℕ → List ℕ → (Payload → Incoming) → Incoming
with_payload kinds before list dict message =
    cond (eqb kinds before) (message [])
    (cond (eqb kinds (before * 10 + a_list)) (message (list ∷ []))
    (cond (eqb kinds ((before * 10 + a_list) * 10 + a_dict)) (message (list ∷ dict ∷ []))
    Violation))

-- ---- messages by their number; a to f are the elements after it
-- [1,Realm,Details]
unfoldable pub hello : Format → List ℕ → ℕ → Span → Incoming
hello f s kinds realm =
    cond (sound_text f s realm && eqb kinds (shape (an_id ∷ a_string ∷ a_dict ∷ []))) (Hello (text_in f s realm)) Violation

-- [3,Details,Reason] and [6,Details,Reason]
unfoldable pub ending : Incoming → ℕ → Incoming
ending message kinds = cond (eqb kinds (shape (an_id ∷ a_dict ∷ a_string ∷ []))) message Violation

-- [8,68,Invocation,Details,Error,P]; an ERROR URI that breaks the URI rule is a violation
unfoldable pub failure : Format → List ℕ → ℕ → Span → Span → Span → Span → Span → Incoming
failure f s kinds type invocation uri list dict =
    cond (sound_text f s uri && (eqb (id_in f s type) 68 && valid_error (text_in f s uri)))
    (with_payload kinds (shape (an_id ∷ an_id ∷ an_id ∷ a_dict ∷ a_string ∷ [])) (text_of s list) (text_of s dict)
    λ p. Error (id_in f s invocation) (text_in f s uri) p)
    Violation

-- [Number,Request,Options,Text]: the shape of SUBSCRIBE and REGISTER, and of PUBLISH and CALL before their payload
abbrev pub request_shape : ℕ
request_shape = shape (an_id ∷ an_id ∷ a_dict ∷ a_string ∷ [])

-- no lone half stands in the text or in a key of the Options
abbrev pub sound_request : Format → List ℕ → Span → Span → Bool
sound_request f s options text = sound_text f s text && sound_options f s options

-- [16,Request,Options,Topic,P]
unfoldable pub publish : Format → List ℕ → ℕ → Span → Span → Span → Span → Span → Incoming
publish f s kinds request options topic list dict =
    cond (sound_request f s options topic)
    (with_payload kinds request_shape (text_of s list) (text_of s dict)
    λ p. Publish (id_in f s request) (acknowledge_in f s options) (audience_in f s options) (text_in f s topic) p)
    Violation

-- [32,Request,Options,Topic]
unfoldable pub subscribe : Format → List ℕ → ℕ → Span → Span → Span → Incoming
subscribe f s kinds request options topic =
    cond (sound_request f s options topic && (sound_match f s options && eqb kinds request_shape))
    (Subscribe (id_in f s request) (match_in f s options) (text_in f s topic)) Violation

-- [48,Request,Options,Procedure,P]
unfoldable pub call : Format → List ℕ → ℕ → Span → Span → Span → Span → Span → Incoming
call f s kinds request options procedure list dict =
    cond (sound_request f s options procedure)
    (with_payload kinds request_shape (text_of s list) (text_of s dict) λ p. Call (id_in f s request) (text_in f s procedure) p)
    Violation

-- [64,Request,Options,Procedure]
unfoldable pub register : Format → List ℕ → ℕ → Span → Span → Span → Incoming
register f s kinds request options procedure =
    cond (sound_request f s options procedure && (sound_match f s options && eqb kinds request_shape))
    (Register (id_in f s request) (match_in f s options) (text_in f s procedure)) Violation

-- [34,Request,Subscription] and [66,Request,Registration]
unfoldable pub release : Format → (ℕ → ℕ → Incoming) → List ℕ → ℕ → Span → Span → Incoming
release f message s kinds request id =
    cond (eqb kinds (shape (an_id ∷ an_id ∷ an_id ∷ []))) (message (id_in f s request) (id_in f s id)) Violation

-- [70,Invocation,Options,P]
unfoldable pub yield : Format → List ℕ → ℕ → Span → Span → Span → Span → Incoming
yield f s kinds invocation options list dict =
    cond (sound_options f s options)
    (with_payload kinds (shape (an_id ∷ an_id ∷ a_dict ∷ [])) (text_of s list) (text_of s dict) λ p. Yield (id_in f s invocation) p)
    Violation

unfoldable pub by_number : Format → List ℕ → ℕ → ℕ → Span → Span → Span → Span → Span → Span → Incoming
by_number w s n kinds a b c d e f =
    cond (eqb n 1) (hello w s kinds a)
    (cond (eqb n 3) (ending Abort kinds)
    (cond (eqb n 6) (ending Goodbye kinds)
    (cond (eqb n 8) (failure w s kinds a b d e f)
    (cond (eqb n 16) (publish w s kinds a b c d e)
    (cond (eqb n 32) (subscribe w s kinds a b c)
    (cond (eqb n 34) (release w Unsubscribe s kinds a b)
    (cond (eqb n 48) (call w s kinds a b c d e)
    (cond (eqb n 64) (register w s kinds a b c)
    (cond (eqb n 66) (release w Unregister s kinds a b)
    (cond (eqb n 70) (yield w s kinds a b c d)
    Violation))))))))))

unfoldable pub interpret : Format → List ℕ → List Span → Incoming
interpret f s ps = by_number f s (id_in f s (at 0 ps)) (kinds_in f s ps) (at 1 ps) (at 2 ps) (at 3 ps) (at 4 ps) (at 5 ps) (at 6 ps)

-- JSON is UTF-8 as a whole. MessagePack is bytes, and each of its strs UTF-8, which is judged where it is read
abbrev pub encoded : Format → List ℕ → Bool
encoded Json s = well_formed s
encoded MsgPack s = every is_byte s

-- 1 to 2,048 bytes, one list of the format
unfoldable pub read : Format → List ℕ → Incoming
read f s = cond (leb 1 (length s) && (leb (length s) max_bytes && encoded f s)) (interpret f s (spans_in f s)) Violation
