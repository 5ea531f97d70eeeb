-- Runs that antt computes, step by step and byte by byte: the worked step (PROTOCOL, "A worked step"), what went wrong in earlier systems and does not here,
-- the edges of the held calls, and texts that are spelled with escapes. One table, and one statement over it. Assumes nothing.
use Prim.Native.Nat.{ℕ, zero, suc, ◌-◌}
use mathlib.Core.Bool.{Bool, true, false, cond, ◌&&◌}
use mathlib.Core.List.{List, [], ◌∷◌, ◌++◌}
use mathlib.Core.Path.{◌≡◌, refl}
use native.Mathlib.Omega.{arith}
use lib.Dec.{eqb}
use lib.ListN.{length, drop, take}
use Rattle.seq.specs.Bytes.{chars}
use Rattle.seq.specs.declared.Format.TheVariants.{Json}
use Rattle.conversion.specs.Carried.{carried}
use Rattle.model.specs.declared.Hub.{Hub}
use Rattle.model.specs.declared.Event.TheVariants.{Attach, Detach, Message}
use Rattle.model.specs.Step.{Step, Stepped, refusal}
use Rattle.outgoing.specs.Outgoing.{Result, Answer}
use Rattle.model.specs.Book.{Place, due, empty_book, entrant, format_in, with_format, present, with_entrant, with_place, vacant, lowest, awaits, lookup, involves, without, served_for, seen, welcomed, invocation_in, replies, error_sent, nothing, cancels_owed, over, asked, invoked, called, settled, answers, in_order, view, heard, unheard, on_done, tick, enter}
use Rattle.model.specs.Run.{Given, fed_by, book_of, book_at, fed_at, place_at, answer_at, By, ended_at, Routed, is_for, is_held, held_now, total, replies_to, call_in, event_in, taken_at, taken_in, ended_by, lost_at, lost_in, answering, answer_in, answer_on}
use Rattle.seq.specs.Bytes.{same, among}
use Rattle.seq.specs.Lists.{every, pairwise, first_from, tally, but_last, first_part, rest_parts}
use Rattle.uri.specs.Uri.{same_policy, part_end, filled, components_filled, reserved_first, valid_text, valid_topic, valid_procedure, valid_published, valid_called, valid_error}
use Rattle.pattern.specs.Choice.{fits_row, candidate, preferred, considered, best_among, choice}
use Rattle.pattern.specs.Match.{starts_with, covers, fits_parts, fits_text, counts, greater, beats_text, better_text, wins_text}
use Rattle.utf8.specs.Utf8.{lead, step, continues}
use Rattle.utf8.specs.Table.{encoding}
use Rattle.lex.specs.Lex.{run, past, some_digits, integer, fraction, minus, signed, exponent, number, hex4, is_escape, escape, char, string, quoted, first, next, colon}
use Rattle.strings.specs.Strings.{digit, unit, low_at, short, escape as unescape, undone_after, lone_after, escaped}
use Rattle.json_text.specs.Json.{literal, series, enclosed, members, braced, by_first, value, list, dict, value_at, is_text}
use Rattle.elements.specs.Elements.{items, elements, outer, listed, kinds_from}
use Rattle.elements.specs.Kinds.{decimal, id_from, id_of, kind}
use Rattle.members.specs.Members.{member_at, pairs, members_at, value_of, value_in, sound_in}
use Rattle.options.specs.Audience.{flag_of, listed as ids_listed, ids_of, lists, leaves, any_wrong}
use Rattle.incoming.specs.Read.{policy_named, policy_of, match_in, sound_match, acknowledge_in, audience_in, with_payload, hello, ending, failure, publish, subscribe, call, register, release, yield, by_number, interpret, read}
use Rattle.seq.specs.Decimal.{digits, decimal as decimal-outgoing}
use Rattle.outgoing.specs.Layout.{entry, body, layout}
use Rattle.outgoing.specs.Outgoing.{roles, json, render}
use Rattle.model.specs.Rules.{zero_row, row_zero, session_zero, call_zero, rule1, id_in_range, ids_apart, rule2, holders_open, text_good, used_row, row_good, rows_apart, table_good, rule3, call_good, calls_apart, rule4, counters_low, rule5, rules}
use Rattle.model.specs.Run.{result, fed, hub_after, feed, entry as entry-model, book_after, owed_in, sent_in, place_of}
use Rattle.model.specs.State.{empty_hub, session, format_at, with_session, owner, padded, new_row, with_holders, joined, left, is_of, is_held_by, with_row, added, left_by, with_subscriptions, with_registrations, idle, serves, concerns, serves_other, dropped, with_call, ended}
use Rattle.model.specs.Step.{silent, says, cancels, ends, violates, follows, numbered, issued, has_number, on_place, subscribe_new, subscribe_join, subscribe as subscribe-model, register_new, register as register-model, unsubscribe, unregister, details_for, event_to, events_to, row_events, leaves_at, acknowledged, publishes, publish_error, publish as publish-model, call_error, routed, route, passed, call as call-model, conveyed, answered, answer, request, on_open, welcomes, turns_away, early, on_attached, attaches, detaches, hears, next as next-model, wrong_time, is_fresh, accepts, bad_number, refused, done, fitted, step as step-model}

-- ---- steps, with 2,048 bytes of room
abbrev given : Step → Given
given x = record { input = x; room = 2048 }

abbrev attach : ℕ → Given
attach i = given (record { slot = i; event = Attach Json; bytes = [] })

abbrev detach : ℕ → Given
detach i = given (record { slot = i; event = Detach; bytes = [] })

-- a message under a lent number
abbrev lent : ℕ → ℕ → List ℕ → Given
lent number i bytes = given (record { slot = i; event = Message number; bytes = bytes })

abbrev send : ℕ → List ℕ → Given
send i bytes = lent 4711 i bytes

abbrev greet : ℕ → ℕ → Given
greet i number = lent number i (chars "[1,\"hub.bus\",{}]")

-- slots 0, 1 and 2 have open sessions
abbrev three_sessions : List Given
three_sessions = attach 0 ∷ attach 1 ∷ attach 2 ∷ greet 0 100 ∷ greet 1 101 ∷ greet 2 102 ∷ []

-- the CALLs numbered from n to n + k of slot 0
abbrev calls_from : ℕ → ℕ → List Given
calls_from n zero = []
calls_from n (suc k) = send 0 (chars "[48," ++ (decimal-outgoing n ++ chars ",{},\"hub.scale\"]")) ∷ calls_from (suc n) k

-- ---- what a step writes: its refusal number and its output's bytes
record Shown : Type 0 where
  refused : ℕ
  output : List ℕ

abbrev wrote : List ℕ → Shown
wrote output = record { refused = 0; output = output }

abbrev silent-step : Shown
silent-step = wrote (0 ∷ 0 ∷ [])

-- one message of fewer than 256 bytes to a slot
abbrev one : ℕ → List ℕ → Shown
one i text = wrote (0 ∷ 1 ∷ i ∷ 0 ∷ length text ∷ text)

abbrev refuse : ℕ → Shown
refuse number = record { refused = number; output = [] }

abbrev output_of : Stepped → List ℕ
output_of s = cond (eqb (refusal s.outcome) 0) (layout (λ slot. Json) s.mails) []

abbrev shown : Stepped → Shown
shown s = record { refused = refusal s.outcome; output = output_of s }

abbrev results : Hub → List Given → List Shown
results h [] = []
results h (g ∷ gs) = shown (result h g) ∷ results (result h g).hub gs

-- a run, and what its last steps write
record Run : Type 0 where
  steps : List Given
  last : List Shown

abbrev agree : List Shown → List Shown → Bool
agree [] [] = true
agree [] (y ∷ ys) = false
agree (x ∷ xs) [] = false
agree (x ∷ xs) (y ∷ ys) = eqb x.refused y.refused && (same x.output y.output && agree xs ys)

abbrev right : Run → Bool
right r = agree (drop (length r.steps - length r.last) (results empty_hub r.steps)) r.last

abbrev run_of : List Given → List Shown → Run
run_of steps last = record { steps = steps; last = last }

-- ---- the runs
-- the worked step: 53 bytes, then 23
abbrev worked : Run
worked =
    run_of
    (attach 0 ∷ attach 1 ∷ greet 0 100 ∷ greet 1 101
    ∷ send 1 (chars "[64,1,{\"match\":\"prefix\"},\"hub.donor\"]")
    ∷ send 0 (chars "[48,1,{},\"hub.donor.defer\",[\"D17\"]]")
    ∷ send 1 (chars "[70,1,{},[\"held\"]]")
    ∷ [])
    (wrote (0 ∷ 1 ∷ 1 ∷ 0 ∷ 48 ∷ chars "[68,1,1,{\"procedure\":\"hub.donor.defer\"},[\"D17\"]]")
    ∷ wrote (0 ∷ 1 ∷ 0 ∷ 0 ∷ 18 ∷ chars "[50,1,{},[\"held\"]]")
    ∷ [])

-- an older sheet cannot undo a deferral: it is a call, and is answered by its own callee, whatever another tablet publishes or sends
abbrev older_sheet : Run
older_sheet =
    run_of
    (three_sessions
    ++ (send 1 (chars "[64,1,{},\"hub.donor.defer\"]")
    ∷ send 0 (chars "[48,1,{},\"hub.donor.defer\",[\"D17\"]]")
    ∷ send 2 (chars "[16,1,{},\"hub.sheet\",[\"D17 fit\"]]")
    ∷ send 2 (chars "[70,1,{},[\"fit\"]]")
    ∷ send 1 (chars "[70,1,{},[\"deferred\"]]")
    ∷ []))
    (one 1 (chars "[68,1,1,{},[\"D17\"]]")
    ∷ silent-step
    ∷ one 2 (chars "[3,{},\"wamp.error.protocol_violation\"]")
    ∷ one 0 (chars "[50,1,{},[\"deferred\"]]")
    ∷ [])

-- a broad registration, there first, does not catch a deferral call
abbrev broad_drafts : Run
broad_drafts =
    run_of
    (three_sessions
    ++ (send 2 (chars "[64,1,{\"match\":\"prefix\"},\"hub\"]")
    ∷ send 1 (chars "[64,1,{},\"hub.donor.defer\"]")
    ∷ send 0 (chars "[48,1,{},\"hub.donor.defer\",[\"D17\"]]")
    ∷ send 0 (chars "[48,2,{},\"hub.donor.draft\"]")
    ∷ []))
    (one 1 (chars "[68,1,2,{},[\"D17\"]]")
    ∷ one 2 (chars "[68,1,1,{\"procedure\":\"hub.donor.draft\"}]")
    ∷ [])

-- a tablet that takes over a slot and uses the same request number is not shown the stranger's answer
abbrev stranger : Run
stranger =
    run_of
    (three_sessions
    ++ (send 1 (chars "[64,1,{},\"hub.donor.defer\"]")
    ∷ send 2 (chars "[64,1,{},\"hub.scale\"]")
    ∷ send 0 (chars "[48,1,{},\"hub.donor.defer\",[\"D17\"]]")
    ∷ detach 0 ∷ attach 0 ∷ greet 0 200
    ∷ send 0 (chars "[48,1,{},\"hub.scale\"]")
    ∷ send 1 (chars "[70,1,{},[\"of D17\"]]")
    ∷ send 2 (chars "[70,1,{},[480]]")
    ∷ []))
    (one 2 (chars "[68,1,2,{}]") ∷ silent-step ∷ one 0 (chars "[50,1,{},[480]]") ∷ [])

-- a callee's slot is taken over while a call is held: canceled to the caller, and the newcomer has no invocation to answer
abbrev callee_replaced : Run
callee_replaced =
    run_of
    (three_sessions
    ++ (send 1 (chars "[64,1,{},\"hub.donor.defer\"]")
    ∷ send 0 (chars "[48,1,{},\"hub.donor.defer\",[\"D17\"]]")
    ∷ detach 1 ∷ attach 1 ∷ greet 1 201
    ∷ send 1 (chars "[70,1,{},[\"of D17\"]]")
    ∷ []))
    (one 0 (chars "[8,48,1,{},\"wamp.error.canceled\"]")
    ∷ silent-step
    ∷ one 1 (chars "[2,201," ++ (roles ++ chars "]"))
    ∷ one 1 (chars "[3,{},\"wamp.error.protocol_violation\"]")
    ∷ [])

-- a session that calls itself and ends: no canceled
abbrev calls_itself : Run
calls_itself =
    run_of
    (three_sessions
    ++ (send 1 (chars "[64,1,{},\"hub.own\"]")
    ∷ send 1 (chars "[48,2,{},\"hub.own\"]")
    ∷ send 1 (chars "[6,{},\"wamp.close.normal\"]")
    ∷ []))
    (one 1 (chars "[68,1,1,{}]") ∷ one 1 (chars "[6,{},\"wamp.close.goodbye_and_out\"]") ∷ [])

-- held call 32 is routed, the next gets no room, and is routed again after one answer
abbrev full_house : Run
full_house =
    run_of
    (three_sessions
    ++ (send 1 (chars "[64,1,{},\"hub.scale\"]") ∷ [])
    ++ calls_from 1 33
    ++ (send 1 (chars "[70,7,{}]") ∷ calls_from 34 1))
    (one 1 (chars "[68,32,1,{}]")
    ∷ one 0 (chars "[8,48,33,{},\"hub.error.no_room\"]")
    ∷ one 0 (chars "[50,7,{}]")
    ∷ one 1 (chars "[68,33,1,{}]")
    ∷ [])

-- an event goes to the members of the fitting rows, not to its publisher; PUBLISHED comes first
abbrev event : Run
event =
    run_of
    (three_sessions
    ++ (send 0 (chars "[32,1,{},\"hub.sheet\"]")
    ∷ send 1 (chars "[32,1,{},\"hub.sheet\"]")
    ∷ send 2 (chars "[32,1,{\"match\":\"wildcard\"},\"hub.\"]")
    ∷ send 0 (chars "[16,2,{\"acknowledge\":true},\"hub.sheet\",[1]]")
    ∷ []))
    (one 2 (chars "[33,1,2]")
    ∷ wrote
    (0 ∷ 3 ∷ 0 ∷ 0 ∷ 11 ∷ 1 ∷ 0 ∷ 18 ∷ 2 ∷ 0 ∷ 37
    ∷ chars "[17,2,4711][36,1,4711,{},[1]][36,2,4711,{\"topic\":\"hub.sheet\"},[1]]")
    ∷ [])

-- the last slot; what is refused changes nothing: a slot out of range, a second attach, a message on a closed slot, a lent number of 0, a session ID in use
abbrev refusals : Run
refusals =
    run_of
    (attach 0 ∷ greet 0 100 ∷ attach 1 ∷ attach 7 ∷ attach 8 ∷ attach 0 ∷ greet 3 101 ∷ greet 1 0 ∷ greet 1 100 ∷ greet 1 101 ∷ [])
    (silent-step ∷ refuse 2 ∷ refuse 3 ∷ refuse 3 ∷ refuse 4 ∷ refuse 4 ∷ one 1 (chars "[2,101," ++ (roles ++ chars "]")) ∷ [])

-- no room: the output needed is one byte longer than the output lent, and the step can be made again
abbrev short_room : Run
short_room =
    run_of
    (record { input = (attach 0).input; room = 1 } ∷ record { input = (attach 0).input; room = 2 } ∷ [])
    (refuse 5 ∷ silent-step ∷ [])

-- unregistering does not disturb a held call; the next call finds nothing
abbrev unregistered : Run
unregistered =
    run_of
    (three_sessions
    ++ (send 1 (chars "[64,1,{},\"hub.scale\"]")
    ∷ send 0 (chars "[48,1,{},\"hub.scale\"]")
    ∷ send 1 (chars "[66,2,1]")
    ∷ send 0 (chars "[48,2,{},\"hub.scale\"]")
    ∷ send 1 (chars "[8,68,1,{},\"hub.error.empty\",[0],{\"unit\":\"g\"}]")
    ∷ []))
    (one 1 (chars "[67,2]")
    ∷ one 0 (chars "[8,48,2,{},\"wamp.error.no_such_procedure\"]")
    ∷ one 0 (chars "[8,48,1,{},\"hub.error.empty\",[0],{\"unit\":\"g\"}]")
    ∷ [])

-- a subscription that is there is joined, the last member's leaving frees its row, and a new one gets the next ID
abbrev last_member : Run
last_member =
    run_of
    (three_sessions
    ++ (send 0 (chars "[32,1,{},\"hub.sheet\"]")
    ∷ send 1 (chars "[32,1,{},\"hub.sheet\"]")
    ∷ send 0 (chars "[34,2,1]")
    ∷ send 0 (chars "[34,3,1]")
    ∷ send 1 (chars "[34,2,1]")
    ∷ send 2 (chars "[32,1,{},\"hub.sheet\"]")
    ∷ []))
    (one 0 (chars "[33,1,1]")
    ∷ one 1 (chars "[33,1,1]")
    ∷ one 0 (chars "[35,2]")
    ∷ one 0 (chars "[8,34,3,{},\"wamp.error.no_such_subscription\"]")
    ∷ one 1 (chars "[35,2]")
    ∷ one 2 (chars "[33,1,2]")
    ∷ [])

-- a text is what its escapes stand for: the CALL finds the row of that text, and an undone dot separates components
abbrev spelled_call : Run
spelled_call =
    run_of
    (three_sessions
    ++ (send 1 (chars "[64,1,{},\"hub.donor.defer\"]")
    ∷ send 2 (chars "[64,1,{\"match\":\"wil\\u0064card\"},\"hub.\"]")
    ∷ send 0 (chars "[48,1,{},\"hub.donor.\\u0064efer\",[\"\\u0044\"]]")
    ∷ send 0 (chars "[48,2,{},\"hub\\u002edonor\"]")
    ∷ []))
    (one 1 (chars "[68,1,1,{},[\"\\u0044\"]]") ∷ one 2 (chars "[68,1,2,{\"procedure\":\"hub.donor\"}]") ∷ [])

-- the URI rule is asked of the undone text, and `wamp` is reserved however it is spelled; a lone half is a violation
abbrev spelled_refused : Run
spelled_refused =
    run_of
    (three_sessions
    ++ (send 0 (chars "[32,1,{},\"\\u0023\"]")
    ∷ send 0 (chars "[64,2,{},\"\\u0077amp.own\"]")
    ∷ send 0 (chars "[16,3,{},\"hub.\\ud83d\"]")
    ∷ []))
    (one 0 (chars "[8,32,1,{},\"wamp.error.invalid_uri\"]")
    ∷ one 0 (chars "[8,64,2,{},\"wamp.error.invalid_uri\"]")
    ∷ one 0 (chars "[3,{},\"wamp.error.protocol_violation\"]")
    ∷ [])

-- a quote and a backslash in a topic are written with a backslash before them, and nothing else is: é is its two bytes
abbrev spelled_event : Run
spelled_event =
    run_of
    (three_sessions
    ++ (send 1 (chars "[32,1,{\"match\":\"prefix\"},\"hub\"]") ∷ send 0 (chars "[16,1,{},\"hub.\\u0022\\\\\\u002f\\u00e9\"]") ∷ []))
    (one 1 (chars "[36,1,4711,{\"topic\":\"hub.\\\"\\\\/" ++ (0xc3 ∷ 0xa9 ∷ chars "\"}]")) ∷ [])

-- the realm is compared undone: a HELLO that spells it otherwise is refused for an ID in use, and welcomed under another
abbrev spelled_realm : Run
spelled_realm =
    run_of
    (attach 0 ∷ attach 1 ∷ greet 0 100 ∷ lent 100 1 (chars "[1,\"hub\\u002ebus\",{}]") ∷ lent 101 1 (chars "[1,\"hub\\u002Ebus\",{}]") ∷ [])
    (refuse 4 ∷ one 1 (chars "[2,101," ++ (roles ++ chars "]")) ∷ [])

abbrev runs : List Run
runs =
    worked ∷ older_sheet ∷ broad_drafts ∷ stranger ∷ callee_replaced ∷ calls_itself ∷ full_house ∷ event ∷ unregistered ∷ last_member
    ∷ refusals ∷ short_room ∷ spelled_call ∷ spelled_refused ∷ spelled_event ∷ spelled_realm ∷ []

-- what a case can meet: Facts.antt says why these names stand here, and how a missing one shows
pub all_right : every right runs ≡ true
unfolding same among
    every pairwise first_from tally but_last first_part rest_parts
    same_policy part_end filled components_filled reserved_first valid_text valid_topic valid_procedure valid_published valid_called valid_error
    fits_row candidate preferred considered best_among choice
    starts_with covers fits_parts fits_text counts greater beats_text better_text wins_text
    lead step continues
    encoding
    run past some_digits integer fraction minus signed exponent number hex4 is_escape escape char string quoted first next colon
    digit unit low_at short unescape undone_after lone_after escaped
    literal series enclosed members braced by_first value list dict value_at is_text
    items elements outer listed kinds_from
    decimal id_from id_of kind
    member_at pairs members_at value_of
    sound_in value_in policy_named policy_of match_in sound_match acknowledge_in flag_of ids_listed ids_of audience_in with_payload hello ending failure publish subscribe call
    register release yield by_number interpret read
    digits decimal-outgoing
    entry body layout
    render json
    zero_row row_zero session_zero call_zero rule1 id_in_range ids_apart rule2 holders_open text_good used_row row_good rows_apart table_good rule3
    call_good calls_apart rule4 counters_low rule5 rules
    result fed hub_after feed entry-model book_after owed_in sent_in place_of
    empty_hub session format_at with_session owner padded new_row with_holders joined left is_of is_held_by with_row added left_by with_subscriptions
    with_registrations idle serves concerns serves_other dropped with_call ended
    silent says cancels ends violates follows numbered issued has_number on_place subscribe_new subscribe_join subscribe-model register_new
    register-model unsubscribe unregister details_for carried event_to events_to row_events lists leaves leaves_at any_wrong acknowledged publishes publish_error publish-model call_error routed route passed call-model
    conveyed answered answer request on_open welcomes turns_away early on_attached attaches detaches hears next-model wrong_time is_fresh accepts
    bad_number refused done fitted step-model
all_right = refl

-- ---- the book of these runs: that the counts of demand 3 count, and that a call is routed, held and answered. A session is named by its step
record Tallied : Type 0 where
  taken : ℕ
  replied : ℕ
  held : ℕ
  lost : ℕ

abbrev tallied : ℕ → ℕ → List Given → Tallied
tallied c n gs =
    record { taken = taken_in c n empty_book (fed_by gs); replied = replies_to c n empty_book (fed_by gs); held = held_now c n (book_of gs); lost = lost_in c n empty_book (fed_by gs) }

abbrev counted : ℕ → ℕ → ℕ → ℕ → Tallied
counted taken replied held lost = record { taken = taken; replied = replied; held = held; lost = lost }

-- the worked step: session 3 calls session 4
abbrev worked_call : Place
worked_call = record { caller = 3; request = 1; callee = 4; invocation = 1 }

abbrev worked_answer : Answer
worked_answer = Result (chars "[\"held\"]" ∷ [])

pub record Books : Type 0 where
  pub routed : Routed worked.steps 5 0 worked_call
  pub placed : place_at worked.steps 6 0 ≡ worked_call
  pub held_call : tallied 3 1 (take 6 worked.steps) ≡ counted 1 0 1 0
  pub answers : answer_at (book_at worked.steps 6) (fed_at worked.steps 6) worked_call ≡ By Json worked_answer
  pub answered_call : tallied 3 1 worked.steps ≡ counted 1 1 0 0
  pub sent : sent_in empty_book (fed_by worked.steps) ≡ [] ∷ [] ∷ [] ∷ [] ∷ [] ∷ [] ∷ (due 3 1 Json worked_answer ∷ []) ∷ []
  -- a caller's session ends: its call is lost, and the next session in its slot has its own reply
  pub lost_call : tallied 4 1 stranger.steps ≡ counted 1 0 0 1
  pub ends : ended_at stranger.steps 9 ≡ 4
  pub own_call : tallied 12 1 stranger.steps ≡ counted 1 1 0 0
  -- a callee's session ends: canceled
  pub canceled_call : tallied 4 1 callee_replaced.steps ≡ counted 1 1 0 0

pub books : Books
unfolding same among
    every pairwise first_from tally but_last first_part rest_parts
    same_policy part_end filled components_filled reserved_first valid_text valid_topic valid_procedure valid_published valid_called valid_error
    fits_row candidate preferred considered best_among choice
    starts_with covers fits_parts fits_text counts greater beats_text better_text wins_text
    lead step continues
    encoding
    run past some_digits integer fraction minus signed exponent number hex4 is_escape escape char string quoted first next colon
    digit unit low_at short unescape undone_after lone_after escaped
    literal series enclosed members braced by_first value list dict value_at is_text
    items elements outer listed kinds_from
    decimal id_from id_of kind
    member_at pairs members_at value_of
    sound_in value_in policy_named policy_of match_in sound_match acknowledge_in flag_of ids_listed ids_of audience_in with_payload hello ending failure publish subscribe call
    register release yield by_number interpret read
    digits decimal-outgoing
    entry body layout
    render json
    zero_row row_zero session_zero call_zero rule1 id_in_range ids_apart rule2 holders_open text_good used_row row_good rows_apart table_good rule3
    call_good calls_apart rule4 counters_low rule5 rules
    result fed hub_after feed entry-model book_after owed_in sent_in place_of
    empty_hub session format_at with_session owner padded new_row with_holders joined left is_of is_held_by with_row added left_by with_subscriptions
    with_registrations idle serves concerns serves_other dropped with_call ended
    silent says cancels ends violates follows numbered issued has_number on_place subscribe_new subscribe_join subscribe-model register_new
    register-model unsubscribe unregister details_for carried event_to events_to row_events lists leaves leaves_at any_wrong acknowledged publishes publish_error publish-model call_error routed route passed call-model
    conveyed answered answer request on_open welcomes turns_away early on_attached attaches detaches hears next-model wrong_time is_fresh accepts
    bad_number refused done fitted step-model
    empty_book entrant format_in with_format present with_entrant with_place vacant lowest awaits lookup involves without served_for seen welcomed invocation_in replies
    error_sent nothing cancels_owed over asked invoked called settled answers in_order view heard unheard on_done tick enter
    is_for is_held held_now total replies_to call_in event_in taken_at taken_in ended_by lost_at lost_in answering answer_in answer_on
books =
    record {
      routed = record {
        within = omega arith;
        done = refl;
        lent = 4711;
        request = 1;
        procedure = chars "hub.donor.defer";
        payload = chars "[\"D17\"]" ∷ [];
        event = refl;
        message = refl;
        receiver = 1;
        number = 1;
        invocation = refl;
        lowest_place = refl;
        call = refl;
      };
      placed = refl;
      held_call = refl;
      answers = refl;
      answered_call = refl;
      sent = refl;
      lost_call = refl;
      ends = refl;
      own_call = refl;
      canceled_call = refl;
    }
