-- Small cases of the demands and the rules, computed: what one step does to a hub of four slots and few rows. The step asks for no
-- sizes, so each is a case of its demand. Each edit of must-fail/ makes one of them or of Crossing.antt false, but for `no_answer`, which leaves a step
-- without an answer, and for `others_made_members`, `row_not_zero_past_length` and `unused_call_moved`, which a statement refuses first. Assumes nothing.
use Prim.Native.Nat.{ℕ}
use mathlib.Core.Bool.{true, false}
use Prim.Native.String.{String}
use mathlib.Core.List.{List, [], ◌∷◌, ◌++◌, map}
use mathlib.Core.Path.{◌≡◌, refl}
use lib.Dec.{leb}
use lib.ListN.{length, replicate}
use Rattle.seq.specs.Bytes.{chars}
use Rattle.seq.specs.declared.Format.TheVariants.{Json}
use Rattle.conversion.specs.Carried.{carried}
use Rattle.uri.specs.declared.Policy.TheVariants.{Exact, Prefix}
use Rattle.pattern.specs.declared.Row.{Row}
use Rattle.pattern.specs.Choice.{no_row}
use Rattle.outgoing.specs.Outgoing as Out
use Rattle.outgoing.specs.Outgoing.{Result}
use Rattle.outgoing.specs.Outgoing.{uri_text}
use Rattle.outgoing.specs.declared.Uri.TheVariants as Uri
use Rattle.model.specs.declared.Status.TheVariants.{Closed, Attached, Open}
use Rattle.model.specs.declared.Session.{Session}
use Rattle.model.specs.declared.Table.{Table}
use Rattle.model.specs.declared.HeldCall.{HeldCall}
use Rattle.model.specs.declared.Hub.{Hub}
use Rattle.model.specs.declared.Event.TheVariants.{Attach, Detach, Message}
use Rattle.model.specs.declared.Outcome.TheVariants.{Done, BadState, BadSlot, WrongTime, BadNumber, NoRoom}
use Rattle.model.specs.Book.{empty_book, nothing, names, entrant, format_in, with_format, present, with_entrant, seen, welcomed, unheard, on_done, tick, enter}
use Rattle.seq.specs.Bytes.{same, among}
use Rattle.seq.specs.Lists.{every, pairwise, first_from, tally, but_last, first_part, rest_parts}
use Rattle.uri.specs.Uri.{same_policy, part_end, filled, components_filled, reserved_first, valid_text, valid_topic, valid_procedure, valid_published, valid_called, valid_error}
use Rattle.pattern.specs.Choice.{fits_row, candidate, preferred, considered, best_among, choice}
use Rattle.pattern.specs.Match.{starts_with, covers, fits_parts, fits_text, counts, greater, beats_text, better_text, wins_text}
use Rattle.utf8.specs.Utf8.{lead, step as step-utf8, continues}
use Rattle.utf8.specs.Table.{encoding}
use Rattle.lex.specs.Lex.{run, past, some_digits, integer, fraction, minus, signed, exponent, number, hex4, is_escape, escape, char, string, quoted, first, next, colon}
use Rattle.strings.specs.Strings.{digit, unit, low_at, short, escape as unescape, undone_after, lone_after, escaped}
use Rattle.json_text.specs.Json.{literal, series, enclosed, members, braced, by_first, value, list, dict, value_at, is_text}
use Rattle.elements.specs.Elements.{items, elements, outer, listed, kinds_from}
use Rattle.elements.specs.Kinds.{decimal, id_from, id_of, kind}
use Rattle.members.specs.Members.{member_at, pairs, members_at, value_of, value_in, sound_in}
use Rattle.options.specs.Audience.{flag_of, listed as ids_listed, ids_of, lists, leaves, any_wrong}
use Rattle.incoming.specs.Read.{policy_named, policy_of, match_in, sound_match, acknowledge_in, audience_in, with_payload, hello, ending, failure, publish, subscribe, call, register, release, yield, by_number, interpret, read}
use Rattle.seq.specs.Decimal.{digits, decimal as decimal-outgoing}
use Rattle.outgoing.specs.Layout.{Mail, entry, body, layout}
use Rattle.outgoing.specs.Outgoing.{json, render}
use Rattle.model.specs.Rules.{zero_row, row_zero, session_zero, call_zero, rule1, id_in_range, ids_apart, rule2, holders_open, text_good, used_row, row_good, rows_apart, table_good, rule3, call_good, calls_apart, rule4, counters_low, rule5, rules}
use Rattle.model.specs.Run.{Given, result, fed}
use Rattle.seq.specs.Numbers.{last_id}
use Rattle.model.specs.State.{with_status, no_call, empty_hub, session, format_at, with_session, owner, padded, new_row, with_holders, joined, left, is_of, is_held_by, with_row, added, left_by, with_subscriptions, with_registrations, idle, serves, concerns, serves_other, dropped, with_call, ended}
use Rattle.model.specs.Step.{Step, Stepped, mail, canceled, silent, says, cancels, ends, violates, follows, numbered, issued, has_number, on_place, subscribe_new, subscribe_join, subscribe as subscribe-model, register_new, register as register-model, unsubscribe, unregister, details_for, event_to, events_to, row_events, leaves_at, acknowledged, publishes, publish_error, publish as publish-model, call_error, routed, route, passed, call as call-model, conveyed, answered, answer, request, on_open, welcomes, turns_away, early, on_attached, attaches, detaches, hears, next as next-model, wrong_time, is_fresh, accepts, bad_number, refused, done, fitted, step}

-- ---- hubs: slots 0 and 1 have open sessions, slot 2 is attached, the others are closed
abbrev opened : ℕ → ℕ → ℕ → Session
opened id request invocation = record { status = Open; id = id; request = request; invocation = invocation }

abbrev table : ℕ → List Row → Table
table counter rows = record { counter = counter; rows = rows }

abbrev crew : Session → Session → Table → Table → List HeldCall → Hub
crew a b ms rs cs =
    record { sessions = a ∷ b ∷ with_status Attached ∷ with_status Closed ∷ []; subscriptions = ms; registrations = rs; calls = cs }

-- two sessions that did nothing yet; row places as given
abbrev fresh : Table → Table → List HeldCall → Hub
fresh ms rs cs = crew (opened 100 0 0) (opened 101 0 0) ms rs cs

abbrev bare : Hub
bare = fresh (table 0 []) (table 0 []) (no_call ∷ [])

-- a row of slot i
abbrev row : ℕ → ℕ → List ℕ → Row
row number i text = new_row number Exact i text

-- slot 1 owns `hub.scale`, and serves one or two calls of slot 0
abbrev registered : Row
registered = row 1 1 (chars "hub.scale")

abbrev held : ℕ → HeldCall
held n = record { caller = 0; request = n; callee = 1; invocation = n }

abbrev serving : ℕ → List HeldCall → Hub
serving n cs = crew (opened 100 n 0) (opened 101 0 n) (table 0 []) (table 1 (registered ∷ [])) cs

-- slots 0 and 1 are members of `hub.sheet`
abbrev sheet : Row
sheet = joined 1 (row 1 0 (chars "hub.sheet"))

-- slots 1 and 2 are members of `hub.sheet` and of all that begins with `hub`; slot 0 is of neither
abbrev two : Hub
two =
    record {
      sessions = opened 100 0 0 ∷ opened 101 0 0 ∷ opened 102 0 0 ∷ [];
      subscriptions = table 2 (joined 2 (row 1 1 (chars "hub.sheet")) ∷ joined 2 (new_row 2 Prefix 1 (chars "hub")) ∷ []);
      registrations = table 0 [];
      calls = [];
    }

-- the sessions 1, 2 and 3, whose IDs are not their slots: all three are members of `hub.sheet`, and 1 and 3 of all that begins with `hub`
abbrev three : Hub
three =
    record {
      sessions = opened 1 0 0 ∷ opened 2 0 0 ∷ opened 3 0 0 ∷ [];
      subscriptions = table 2 (joined 2 (joined 1 (row 1 0 (chars "hub.sheet"))) ∷ joined 2 (new_row 2 Prefix 0 (chars "hub")) ∷ []);
      registrations = table 0 [];
      calls = [];
    }

-- ---- steps, with 2,048 bytes of room
abbrev given : Step → Given
given x = record { input = x; room = 2048 }

abbrev attach : ℕ → Step
attach i = record { slot = i; event = Attach Json; bytes = [] }

abbrev detach : ℕ → Step
detach i = record { slot = i; event = Detach; bytes = [] }

-- a message under a lent number
abbrev lent : ℕ → ℕ → List ℕ → Step
lent number i bytes = record { slot = i; event = Message number; bytes = bytes }

abbrev send : ℕ → List ℕ → Step
send i bytes = lent 4711 i bytes

abbrev greet : ℕ → ℕ → Step
greet i number = lent number i (chars "[1,\"hub.bus\",{}]")

abbrev on : Hub → Step → Stepped
on h x = step h x 2048

-- session 1 publishes under `hub.sheet` with options, or under a topic
abbrev published : String → String → Stepped
published options topic = on three (send 0 (chars "[16,1,{" ++ (chars options ++ (chars "},\"" ++ (chars topic ++ chars "\"]")))))

abbrev sheets : String → List Mail
sheets options = (published options "hub.sheet").mails

-- the event of either row, to a slot
abbrev sheet_to : ℕ → Mail
sheet_to j = mail j (Out.Event 1 4711 Out.Plain [])

abbrev hub_to : ℕ → Mail
hub_to j = mail j (Out.Event 2 4711 (Out.Names (chars "hub.sheet")) [])

abbrev numbers : List Row → List ℕ
numbers rs = map (λ (r : Row). r.number) rs

abbrev requests : List HeldCall → List ℕ
requests cs = map (λ (c : HeldCall). c.request) cs

pub record Facts : Type 0 where
  -- demand 1
  pub served : (on bare (detach 2)).outcome ≡ Done
  pub bad_state : (on (fresh (table 9007199254740993 []) (table 0 []) []) (detach 2)).outcome ≡ BadState
  pub bad_slot : (on bare (attach 8)).outcome ≡ BadSlot
  pub slot_before_time : (on bare (detach 8)).outcome ≡ BadSlot
  pub attached_again : (on bare (attach 2)).outcome ≡ WrongTime
  pub closed_speaks : (on bare (send 3 (chars "[]"))).outcome ≡ WrongTime
  pub past_last : (on bare (lent 9007199254740993 0 (chars "[]"))).outcome ≡ BadNumber
  pub id_in_use : (on bare (greet 2 101)).outcome ≡ BadNumber
  pub one_short : (step bare (detach 2) 1).outcome ≡ NoRoom
  pub unchanged : session (step bare (detach 2) 1).hub 2 ≡ with_status Attached
  pub counted : (on bare (detach 2)).count ≡ 2
  -- demand 2
  pub welcome : (on bare (greet 2 102)).mails ≡ mail 2 (Out.Welcome 102) ∷ []
  pub goodbye : session (on bare (send 0 (chars "[6,{},\"hub.bye\"]"))).hub 0 ≡ with_status Attached
  pub violation : session (on bare (send 0 (chars "[]"))).hub 0 ≡ with_status Closed
  pub detached : session (on bare (detach 0)).hub 0 ≡ with_status Closed
  pub request_taken : (session (on bare (send 0 (chars "[34,1,7]"))).hub 0).request ≡ 1
  pub second_request : (on (serving 1 []) (send 0 (chars "[34,2,7]"))).mails ≡ mail 0 (Out.Error Out.Unsubscribe 2 (uri_text Uri.NoSuchSubscription)) ∷ []
  pub match_first : (on bare (send 0 (chars "[32,1,{\"match\":1},\"\"]"))).mails ≡ mail 0 (Out.Error Out.Subscribe 1 (uri_text Uri.InvalidArgument)) ∷ []
  pub lowest_free :
      numbers (on (fresh (table 0 []) (table 6 (no_row ∷ no_row ∷ [])) []) (send 1 (chars "[64,1,{},\"hub.scale\"]"))).hub.registrations.rows
      ≡ 7 ∷ 0 ∷ []
  pub counter_full :
      (on (fresh (table 0 []) (table last_id (no_row ∷ [])) []) (send 1 (chars "[64,1,{},\"hub.scale\"]"))).mails
      ≡ mail 1 (Out.Error Out.Register 1 (uri_text Uri.NoRoom)) ∷ []
  pub last_leaves :
      numbers (on (fresh (table 1 (row 1 0 (chars "hub.sheet") ∷ [])) (table 0 []) []) (send 0 (chars "[34,1,1]"))).hub.subscriptions.rows
      ≡ 0 ∷ []
  pub event :
      (on (fresh (table 1 (sheet ∷ [])) (table 0 []) []) (send 0 (chars "[16,1,{},\"hub.sheet\"]"))).mails
      ≡ mail 1 (Out.Event 1 4711 Out.Plain []) ∷ []
  pub events_by_row :
      (on two (send 0 (chars "[16,1,{},\"hub.sheet\"]"))).mails
      ≡ mail 1 (Out.Event 1 4711 Out.Plain []) ∷ mail 2 (Out.Event 1 4711 Out.Plain [])
      ∷ mail 1 (Out.Event 2 4711 (Out.Names (chars "hub.sheet")) []) ∷ mail 2 (Out.Event 2 4711 (Out.Names (chars "hub.sheet")) []) ∷ []
  -- the options of PUBLISH
  pub plain : sheets "" ≡ sheet_to 1 ∷ sheet_to 2 ∷ hub_to 2 ∷ []
  pub me_true : sheets "\"exclude_me\":true" ≡ sheet_to 1 ∷ sheet_to 2 ∷ hub_to 2 ∷ []
  pub me_false : sheets "\"exclude_me\":false" ≡ sheet_to 0 ∷ sheet_to 1 ∷ sheet_to 2 ∷ hub_to 0 ∷ hub_to 2 ∷ []
  pub exclude : sheets "\"exclude\":[3]" ≡ sheet_to 1 ∷ []
  pub exclude_one : sheets "\"exclude\":[2]" ≡ sheet_to 2 ∷ hub_to 2 ∷ []
  pub exclude_nobody : sheets "\"exclude\":[9]" ≡ sheet_to 1 ∷ sheet_to 2 ∷ hub_to 2 ∷ []
  pub exclude_me : sheets "\"exclude_me\":false,\"exclude\":[1]" ≡ sheet_to 1 ∷ sheet_to 2 ∷ hub_to 2 ∷ []
  pub eligible : sheets "\"eligible\":[3]" ≡ sheet_to 2 ∷ hub_to 2 ∷ []
  pub eligible_empty : sheets "\"eligible\":[]" ≡ []
  pub eligible_me : sheets "\"eligible\":[1]" ≡ []
  pub eligible_me_too : sheets "\"exclude_me\":false,\"eligible\":[1]" ≡ sheet_to 0 ∷ hub_to 0 ∷ []
  pub eligible_other : sheets "\"exclude_me\":false,\"eligible\":[2]" ≡ sheet_to 1 ∷ []
  pub all_three : sheets "\"eligible\":[1,2],\"exclude\":[2],\"exclude_me\":false" ≡ sheet_to 0 ∷ hub_to 0 ∷ []
  -- a wrong option, with an answer asked for or not, and under a topic that breaks the URI rule
  pub wrong_told : sheets "\"acknowledge\":true,\"exclude\":null" ≡ mail 0 (Out.Error Out.Publish 1 (uri_text Uri.InvalidArgument)) ∷ []
  pub wrong_silent : sheets "\"exclude_me\":null" ≡ []
  pub wrong_counted : (session (published "\"eligible\":null" "hub.sheet").hub 0).request ≡ 1
  pub wrong_first : (published "\"acknowledge\":true,\"eligible\":[0]" "").mails ≡ mail 0 (Out.Error Out.Publish 1 (uri_text Uri.InvalidArgument)) ∷ []
  pub nine_told : sheets "\"acknowledge\":true,\"exclude\":[1,2,3,4,5,6,7,8,9]" ≡ mail 0 (Out.Error Out.Publish 1 (uri_text Uri.InvalidArgument)) ∷ []
  pub routed : (on (serving 0 (no_call ∷ [])) (send 0 (chars "[48,1,{},\"hub.scale\"]"))).mails ≡ mail 1 (Out.Invocation 1 1 Out.Plain []) ∷ []
  pub issued : (session (on (serving 0 (no_call ∷ [])) (send 0 (chars "[48,1,{},\"hub.scale\"]"))).hub 1).invocation ≡ 1
  pub answer : (on (serving 1 (held 1 ∷ [])) (send 1 (chars "[70,1,{},[480]]"))).mails ≡ mail 0 (Out.Reply 1 (Result (chars "[480]" ∷ []))) ∷ []
  pub freed : requests (on (serving 1 (held 1 ∷ [])) (send 1 (chars "[70,1,{},[480]]"))).hub.calls ≡ 0 ∷ []
  pub end :
      (on (serving 2 (held 1 ∷ held 2 ∷ [])) (send 1 (chars "[6,{},\"hub.bye\"]"))).mails
      ≡ mail 1 (Out.Goodbye (uri_text Uri.GoodbyeAndOut)) ∷ mail 0 (Out.Reply 1 canceled) ∷ mail 0 (Out.Reply 2 canceled) ∷ []
  pub ended : requests (on (serving 2 (held 1 ∷ held 2 ∷ [])) (detach 1)).hub.calls ≡ 0 ∷ 0 ∷ []
  -- demand 3
  pub refusal_fed : (fed bare (given (attach 8))).refusal ≡ 2
  pub messages_fed : (fed bare (given (greet 2 102))).mails ≡ mail 2 (Out.Welcome 102) ∷ []
  pub named : names (enter empty_book (greet 2 102) 0 (mail 2 (Out.Welcome 102) ∷ [])).book.entrants 2 ≡ 1
  pub room_for_end : leb (length (layout (λ slot. Json) (mail 1 (Out.Abort (uri_text Uri.ProtocolViolation)) ∷ replicate 32 (mail 0 (Out.Reply last_id canceled))))) 2048 ≡ true
  -- the state rules: each hub breaks one
  pub rule1 : rules (fresh (table 0 []) (table 0 []) (record { caller = 0; request = 0; callee = 0; invocation = 7 } ∷ [])) ≡ false
  pub rule2 : rules (crew (opened 100 0 0) (opened 100 0 0) (table 0 []) (table 0 []) []) ≡ false
  pub rule3 : rules (fresh (table 0 []) (table 0 (registered ∷ [])) []) ≡ false
  pub rule4 : rules (crew (opened 100 1 1) (opened 101 0 0) (table 0 []) (table 0 []) (held 1 ∷ [])) ≡ false
  pub rule5 : rules (crew (opened 100 0 9007199254740993) (opened 101 0 0) (table 0 []) (table 0 []) []) ≡ false

-- The check computes both sides of each case and opens only what is named here: every `unfoldable` definition that a step, the rules or
-- the book can meet, a line or two for each `use` line above. A definition that is missing stays shut, and each case that meets it is
-- refused. The error then has no place where the two sides differ once they are computed, as that of a false case has: it says that
-- computing took too many steps, or that as far as it went the two are identical. Runs.antt, room/proofs/Facts.antt and
-- incoming/proofs/Examples.antt compute in the same way and have their own lists.
pub facts : Facts
unfolding tick on_done present entrant format_in with_format unheard welcomed seen with_entrant nothing enter empty_book
    same among
    every pairwise first_from tally but_last first_part rest_parts
    same_policy part_end filled components_filled reserved_first valid_text valid_topic valid_procedure valid_published valid_called valid_error
    fits_row candidate preferred considered best_among choice
    starts_with covers fits_parts fits_text counts greater beats_text better_text wins_text
    lead step-utf8 continues
    encoding
    run past some_digits integer fraction minus signed exponent number hex4 is_escape escape char string quoted first next colon
    digit unit low_at short unescape undone_after lone_after escaped
    literal series enclosed members braced by_first value list dict value_at is_text
    items elements outer listed kinds_from
    decimal id_from id_of kind
    member_at pairs members_at value_of
    sound_in value_in policy_named policy_of match_in sound_match acknowledge_in flag_of ids_listed ids_of audience_in with_payload hello ending failure publish subscribe call
    register release yield by_number interpret read
    digits decimal-outgoing
    entry body layout
    render json
    zero_row row_zero session_zero call_zero rule1 id_in_range ids_apart rule2 holders_open text_good used_row row_good rows_apart table_good rule3
    call_good calls_apart rule4 counters_low rule5 rules
    fed result
    empty_hub session format_at with_session owner padded new_row with_holders joined left is_of is_held_by with_row added left_by with_subscriptions
    with_registrations idle serves concerns serves_other dropped with_call ended
    silent says cancels ends violates follows numbered issued has_number on_place subscribe_new subscribe_join subscribe-model register_new
    register-model unsubscribe unregister details_for carried event_to events_to row_events lists leaves leaves_at any_wrong acknowledged publishes publish_error publish-model call_error routed route passed call-model
    conveyed answered answer request on_open welcomes turns_away early on_attached attaches detaches hears next-model wrong_time is_fresh accepts
    bad_number refused done fitted step
facts =
    record {
      served = refl;
      bad_state = refl;
      bad_slot = refl;
      slot_before_time = refl;
      attached_again = refl;
      closed_speaks = refl;
      past_last = refl;
      id_in_use = refl;
      one_short = refl;
      unchanged = refl;
      counted = refl;
      welcome = refl;
      goodbye = refl;
      violation = refl;
      detached = refl;
      request_taken = refl;
      second_request = refl;
      match_first = refl;
      lowest_free = refl;
      counter_full = refl;
      last_leaves = refl;
      event = refl;
      events_by_row = refl;
      plain = refl;
      me_true = refl;
      me_false = refl;
      exclude = refl;
      exclude_one = refl;
      exclude_nobody = refl;
      exclude_me = refl;
      eligible = refl;
      eligible_empty = refl;
      eligible_me = refl;
      eligible_me_too = refl;
      eligible_other = refl;
      all_three = refl;
      wrong_told = refl;
      wrong_silent = refl;
      wrong_counted = refl;
      wrong_first = refl;
      nine_told = refl;
      routed = refl;
      issued = refl;
      answer = refl;
      freed = refl;
      end = refl;
      ended = refl;
      refusal_fed = refl;
      messages_fed = refl;
      named = refl;
      room_for_end = refl;
      rule1 = refl;
      rule2 = refl;
      rule3 = refl;
      rule4 = refl;
      rule5 = refl;
    }
