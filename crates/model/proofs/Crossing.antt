-- Steps between the formats, computed: what a message that was read leads to on a hub whose slots 0 and 2 speak JSON and whose slot 1
-- speaks MessagePack. The edits of must-fail/ on conversions in the step make these false. Assumes nothing.
use Prim.Native.Nat.{ℕ}
use mathlib.Core.Bool.{true}
use mathlib.Core.List.{List, [], ◌∷◌, map}
use mathlib.Core.Logic.{inl}
use mathlib.Core.Path.{◌≡◌, refl, sym}
use native.Mathlib.Omega.{arith}
use Rattle.seq.specs.Bytes.{chars, same, among, Payload}
use Rattle.seq.specs.Lists.{every, first_from, tally, but_last, first_part, rest_parts}
use Rattle.seq.specs.Decimal.{decimal as written-decimal, digits}
use Rattle.seq.specs.declared.Format.TheVariants.{Json, MsgPack}
use Rattle.utf8.specs.Utf8.{continues, step as step-utf8, lead}
use Rattle.utf8.specs.Table.{encoding}
use Rattle.uri.specs.declared.Policy.TheVariants.{Exact}
use Rattle.uri.specs.Uri.{same_policy, filled, components_filled, reserved_first, valid_text, valid_published, valid_called}
use Rattle.pattern.specs.Choice.{fits_row, candidate, preferred, considered, best_among, choice}
use Rattle.pattern.specs.Match.{starts_with, covers, fits_parts, fits_text, counts, greater, beats_text, better_text, wins_text}
use Rattle.lex.specs.Lex.{run, past, some_digits, integer, is_escape, escape, char, string, quoted, first, next, colon}
use Rattle.strings.specs.Strings.{short, escape as unescape, undone_after, lone_after}
use Rattle.json_text.specs.Json.{literal}
use Rattle.elements.specs.Kinds.{decimal}
use Rattle.msgpack.specs.Head.{head_at, head_of, form_of, forms, number, signed_head, half}
use Rattle.msgpack.specs.MsgPack.{text, bytes}
use Rattle.elements.specs.Elements.{inner_depth}
use Rattle.values.specs.Read.Read.{Gives, Not}
use Rattle.values.specs.Value.{Value}
use Rattle.values.specs.Value.Scalar.{Text, Whole}
use Rattle.values.specs.Value.Layer.{Plain, Items}
use Rattle.values.specs.Write.{spelled, quoted_text, json_scalar, commaed, separated, json_member, json_layer, write}
use Rattle.values.specs.Write.{wide, pack_whole, pack_below, pack_str, pack_array, pack_map, pack_text, pack_member, pack_scalar, pack_layer}
use Rattle.values.specs.Stands.{quoted_at, whole_at, json_whole_at, json_below_at, json_scalar_at, series, enclosed, json_member_at, json_layer_at, stands}
use Rattle.values.specs.Stands.{text_at, pack_text_at, pack_scalar_at, items, pack_member_at, pack_layer_at}
use Rattle.conversion.specs.Converts.{convert}
use Rattle.conversion.specs.Carried.{As, NotConvertible, converted, carried}
use Rattle.options.specs.Audience.{no_options, leaves, any_wrong}
use Rattle.incoming.specs.Incoming as In
use Rattle.outgoing.specs.Outgoing as Out
use Rattle.outgoing.specs.Outgoing.{Result, Failure, uri_text, msgpack, render}
use Rattle.outgoing.specs.Layout.{body, entry, layout}
use Rattle.outgoing.specs.declared.Uri.TheVariants as Uri
use Rattle.model.specs.declared.Status.{Status}
use Rattle.model.specs.declared.Status.TheVariants.{Closed, Attached, Open, AttachedMsgPack, OpenMsgPack}
use Rattle.model.specs.declared.Session.{Session}
use Rattle.model.specs.declared.HeldCall.{HeldCall}
use Rattle.model.specs.declared.Hub.{Hub}
use Rattle.model.specs.State.{with_status, no_call, session, format_at, with_session, owner, padded, new_row, with_holders, joined, left, left_by, idle, serves, concerns, serves_other, dropped, with_call, ended}
use Rattle.model.specs.Step.{Next, Greets, mail, silent, says, cancels, ends, violates, follows, numbered, issued, details_for, event_to, events_to, row_events, leaves_at, acknowledged, publishes, publish_error, publish, call_error, routed, route, passed, call, not_convertible, conveyed, answered, answer, request, on_open, welcomes, on_attached, attaches, output_of, done}
use Rattle.model.proofs.Conveyed.{unlike}
use Rattle.model.specs.Carries.{Carries, result, failure, none}

abbrev opened : Status → ℕ → ℕ → ℕ → Session
opened status id request invocation = record { status = status; id = id; request = request; invocation = invocation }

-- a call of slot 0, or of slot 2, that slot 1 serves
abbrev held : ℕ → HeldCall
held i = record { caller = i; request = 1; callee = 1; invocation = 1 }

-- slots 1 and 2 are members of `hub.sheet`; slot 1, which speaks MessagePack, owns `hub.scale`
abbrev hub : List HeldCall → Hub
hub calls =
    record {
      sessions = opened Open 100 1 0 ∷ opened OpenMsgPack 101 0 1 ∷ opened Open 102 1 0 ∷ with_status AttachedMsgPack ∷ [];
      subscriptions = record { counter = 1; rows = joined 2 (new_row 1 Exact 1 (chars "hub.sheet")) ∷ [] };
      registrations = record { counter = 1; rows = new_row 1 Exact 1 (chars "hub.scale") ∷ [] };
      calls = calls;
    }

-- a payload in JSON, the same in MessagePack, and one of each that does not convert: 1.5 as a fraction and as a float
abbrev full : Payload
full = chars "[ \"full\",-0]" ∷ []

abbrev packed_full : Payload
packed_full = (0x92 ∷ 0xa4 ∷ 102 ∷ 117 ∷ 108 ∷ 108 ∷ 0 ∷ []) ∷ []

abbrev json_full : Payload
json_full = chars "[\"full\",0]" ∷ []

abbrev fraction : Payload
fraction = chars "[1.5]" ∷ []

abbrev float : Payload
float = (0x91 ∷ 0xca ∷ 0x3f ∷ 0xc0 ∷ 0 ∷ 0 ∷ []) ∷ []

-- a list and a dict, in JSON and in MessagePack, and with a fraction in the dict
abbrev list_and_dict : Payload
list_and_dict = chars "[1]" ∷ chars "{\"b\":true,\"a\":null}" ∷ []

abbrev packed_dict : Payload
packed_dict = (0x91 ∷ 1 ∷ []) ∷ (0x82 ∷ 0xa1 ∷ 98 ∷ 0xc3 ∷ 0xa1 ∷ 97 ∷ 0xc0 ∷ []) ∷ []

abbrev fraction_in_dict : Payload
fraction_in_dict = chars "[1]" ∷ chars "{\"a\":0.5}" ∷ []

-- a message that slot i sends, under the lent number 4711
abbrev on : Hub → ℕ → In.Incoming → Next
on h i m = on_open h i 4711 m

abbrev requests : List HeldCall → List ℕ
requests cs = map (λ (c : HeldCall). c.request) cs

-- the value of the first of them
abbrev text_and_zero : Value inner_depth
text_and_zero = Items (Plain (Text (chars "full")) ∷ Plain (Whole 0) ∷ [])

no_value : (x : Value inner_depth) (e : ℕ) → Not ≡ Gives x e → ⊥
no_value x e z = let y : ◌≡◌ {A = ℕ} 0 1 = cc in omega arith

pub record Crossing : Type 0 where
  -- an event goes to each receiver in its format, to slot 2 as it came; it passes over slot 1, which it does not convert for, and over no other
  pub event : (on (hub []) 0 (In.Publish 2 true no_options (chars "hub.sheet") full)).mails
      ≡ mail 0 (Out.Published 2 4711) ∷ mail 1 (Out.Event 1 4711 Out.Plain packed_full) ∷ mail 2 (Out.Event 1 4711 Out.Plain full) ∷ []
  pub passed_over : (on (hub []) 0 (In.Publish 2 true no_options (chars "hub.sheet") fraction)).mails
      ≡ mail 0 (Out.Published 2 4711) ∷ mail 2 (Out.Event 1 4711 Out.Plain fraction) ∷ []
  pub from_msg_pack : (on (hub []) 1 (In.Publish 1 true no_options (chars "hub.sheet") packed_full)).mails
      ≡ mail 1 (Out.Published 1 4711) ∷ mail 2 (Out.Event 1 4711 Out.Plain json_full) ∷ []
  -- a call goes in its callee's format; where it does not convert, its caller is told so, and nothing is held or issued
  pub call : (on (hub (no_call ∷ [])) 0 (In.Call 2 (chars "hub.scale") full)).mails ≡ mail 1 (Out.Invocation 2 1 Out.Plain packed_full) ∷ []
  pub unconverted : (on (hub (no_call ∷ [])) 0 (In.Call 2 (chars "hub.scale") fraction)).mails ≡ mail 0 (Out.Reply 2 not_convertible) ∷ []
  pub not_held : requests (on (hub (no_call ∷ [])) 0 (In.Call 2 (chars "hub.scale") fraction)).hub.calls ≡ 0 ∷ []
  pub not_issued : (session (on (hub (no_call ∷ [])) 0 (In.Call 2 (chars "hub.scale") fraction)).hub 1).invocation ≡ 1
  -- after no_such_procedure, and before no-room
  pub no_such_first : (on (hub (no_call ∷ [])) 0 (In.Call 2 (chars "hub.other") fraction)).mails
      ≡ mail 0 (Out.Reply 2 (Failure (uri_text Uri.NoSuchProcedure) [])) ∷ []
  pub before_no_room : (on (hub []) 0 (In.Call 2 (chars "hub.scale") fraction)).mails ≡ mail 0 (Out.Reply 2 not_convertible) ∷ []
  pub no_room : (on (hub []) 0 (In.Call 2 (chars "hub.scale") full)).mails ≡ mail 0 (Out.Reply 2 (Failure (uri_text Uri.NoRoom) [])) ∷ []
  -- an answer goes in the caller's format; one that does not convert frees the call all the same
  pub answer : (on (hub (held 0 ∷ [])) 1 (In.Yield 1 packed_full)).mails ≡ mail 0 (Out.Reply 1 (Result json_full)) ∷ []
  pub error : (on (hub (held 0 ∷ [])) 1 (In.Error 1 (chars "hub.empty") packed_full)).mails ≡ mail 0 (Out.Reply 1 (Failure (chars "hub.empty") json_full)) ∷ []
  pub unconverted_answer : (on (hub (held 0 ∷ [])) 1 (In.Yield 1 float)).mails ≡ mail 0 (Out.Reply 1 not_convertible) ∷ []
  pub unconverted_error : (on (hub (held 0 ∷ [])) 1 (In.Error 1 (chars "hub.empty") float)).mails ≡ mail 0 (Out.Reply 1 not_convertible) ∷ []
  pub freed : requests (on (hub (held 0 ∷ [])) 1 (In.Yield 1 float)).hub.calls ≡ 0 ∷ []
  -- within a format a payload goes as it came, whatever it is
  pub within : (on (hub (record { caller = 1; request = 1; callee = 1; invocation = 1 } ∷ [])) 1 (In.Yield 1 float)).mails
      ≡ mail 1 (Out.Reply 1 (Result float)) ∷ []
  -- a payload converts if its list and, where it has one, its dict do, in their order
  pub keywords : carried Json MsgPack list_and_dict ≡ As packed_dict
  pub keywords_back : carried MsgPack Json packed_dict ≡ As list_and_dict
  pub bad_keywords : carried Json MsgPack fraction_in_dict ≡ NotConvertible
  -- the reply that the book owes: of the same values, which are a text and 0; or, where the answer's stand for none, not_convertible
  pub carries : Carries Json MsgPack (Result full) (Result packed_full)
  pub carries_back : Carries MsgPack Json (Failure (chars "hub.empty") packed_full) (Failure (chars "hub.empty") json_full)
  pub carries_none : Carries MsgPack Json (Result float) not_convertible
  -- a slot keeps its format from its attaching to its closing
  pub attached : session (attaches (hub []) 0 MsgPack).hub 0 ≡ with_status AttachedMsgPack
  pub welcomed : session (on_attached (hub []) 3 103 (Greets (chars "hub.bus"))).hub 3 ≡ opened OpenMsgPack 103 0 0
  pub goodbye : session (on (hub []) 1 In.Goodbye).hub 1 ≡ with_status AttachedMsgPack
  pub goodbye_json : session (on (hub []) 0 In.Goodbye).hub 0 ≡ with_status Attached
  pub violation : session (on (hub []) 1 In.Violation).hub 1 ≡ with_status Closed
  -- and the ABORT of a violation, which closes it, is in its format: 33 bytes to slot 1
  pub abort : output_of (hub []) (on (hub []) 1 In.Violation).mails
      ≡ 0 ∷ 1 ∷ 1 ∷ 0 ∷ 33 ∷ 0x93 ∷ 3 ∷ 0x80 ∷ 0xbd ∷ chars "wamp.error.protocol_violation"
  pub abort_count : (done (hub []) (on (hub []) 1 In.Violation)).count ≡ 38

-- what a case can meet: Facts.antt says why these names stand here, and how a missing one shows
pub crossing : Crossing
unfolding same among every first_from tally but_last first_part rest_parts
    same_policy filled components_filled reserved_first valid_text valid_published valid_called
    fits_row candidate preferred considered best_among choice starts_with covers fits_parts fits_text counts greater beats_text better_text wins_text
    write json_layer json_member separated commaed json_scalar quoted_text spelled written-decimal digits
    stands json_layer_at json_member_at enclosed series json_scalar_at json_whole_at json_below_at whole_at decimal quoted_at
    run past some_digits integer is_escape escape char string quoted first next colon literal
    unescape short undone_after lone_after encoding
    pack_layer pack_member pack_scalar pack_text pack_str pack_array pack_map pack_whole pack_below wide
    pack_layer_at pack_member_at pack_scalar_at pack_text_at text_at items head_at head_of form_of forms number signed_head half text bytes continues step-utf8 lead
    convert converted carried
    session format_at with_session owner padded new_row with_holders joined left left_by idle serves concerns serves_other dropped with_call ended
    silent says cancels ends follows numbered issued details_for event_to events_to row_events leaves leaves_at any_wrong acknowledged publishes publish_error publish call_error routed route passed call
    conveyed answered answer request on_open welcomes on_attached attaches
    violates render msgpack body entry layout done
crossing =
    record {
      event = refl;
      passed_over = refl;
      from_msg_pack = refl;
      call = refl;
      unconverted = refl;
      not_held = refl;
      not_issued = refl;
      no_such_first = refl;
      before_no_room = refl;
      no_room = refl;
      answer = refl;
      error = refl;
      unconverted_answer = refl;
      unconverted_error = refl;
      freed = refl;
      within = refl;
      keywords = refl;
      keywords_back = refl;
      bad_keywords = refl;
      carries =
          result full packed_full
          (record { within = λ e. absurd (unlike e); across = λ _. (record { value = text_and_zero; came = refl; goes = refl }, tt) });
      carries_back =
          failure (chars "hub.empty") packed_full json_full
          (record { within = λ e. absurd (unlike (sym e)); across = λ _. (record { value = text_and_zero; came = refl; goes = refl }, tt) });
      carries_none = none (Result float) (λ e. unlike (sym e)) ((0x91 ∷ 0xca ∷ 0x3f ∷ 0xc0 ∷ 0 ∷ 0 ∷ []), inl refl, λ x e z. no_value x e z);
      attached = refl;
      welcomed = refl;
      goodbye = refl;
      goodbye_json = refl;
      violation = refl;
      abort = refl;
      abort_count = refl;
    }
